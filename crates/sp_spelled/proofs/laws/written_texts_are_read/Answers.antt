use Rattle.std.specs.Prelude.{IsTrue}
use Rattle.sp_spelled.proofs.Texts.{written_is_read}
use Rattle.sp_spelled.proofs.laws.written_texts_are_read.Goals as goal

pub returns : goal.returns
returns c = λ is_meant depth signs. written_is_read (λ source tree. IsTrue (is_meant source tree)) depth signs

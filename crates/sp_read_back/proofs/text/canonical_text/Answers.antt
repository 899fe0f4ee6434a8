use Rattle.std.proofs.Common.{subst}
use Rattle.sp_reader.specs.Sources.{Reads}
use Rattle.sp_read_back.proofs.text.canonical_text.Goals as goal

pub returns-clause-meaning : goal.returns-clause-meaning
returns-clause-meaning c = subst (λ b. Reads b c.args.model.now) c.as_slice.ensures.value c.text_law.ensures

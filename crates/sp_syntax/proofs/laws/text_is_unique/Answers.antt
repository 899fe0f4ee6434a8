-- A second tree is the first.
use Rattle.sp_syntax.specs.Classes.{classes}
use Rattle.sp_syntax.proofs.Unique.{one_text}
use Rattle.sp_syntax.proofs.laws.text_is_unique.Goals as goal

pub returns : goal.returns
returns c = λ first second h k. one_text first second (classes c.args.source.now c.args.tokens.now) h k

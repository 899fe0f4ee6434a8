-- Where a text is refused, its tokens are none, or too deep.
use Rattle.sp_syntax.specs.Classes.{classes}
use Rattle.sp_syntax.proofs.Exclusive.{refused_is_none}
use Rattle.sp_syntax.proofs.laws.refused_is_no_text.Goals as goal

pub returns : goal.returns
returns c = λ end fault h is shallow. refused_is_none end (classes c.args.source.now c.args.tokens.now) fault h is shallow

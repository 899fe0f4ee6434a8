-- Reading is the answer, and the tokens of a source lie in it.
use Rattle.std.proofs.Common.{◌∙◌, arith}
use Rattle.sp_syntax.proofs.Answer.{none_answered, some_answered, within}
use Rattle.sp_syntax.proofs.reader.parse.Goals as goal

pub returns-then-len-eq0 : goal.returns-then-len-eq0
returns-then-len-eq0 c = none_answered c.args.source.now c.args.tokens.now (omega (arith, c.len.ensures, c.if-len-eq0.true))

pub classes-requires : goal.classes-requires
classes-requires c = within c.args.source.now c.args.tokens.now ((c.tokens_by_place.ensures.cut c.args.tokens.now).0 c.requires)

pub returns : goal.returns
returns c = some_answered c.args.source.now c.args.tokens.now c.as_slice.result.now c.text.result c.text.new.cursor.rest.now (λ e. c.if-len-eq0.false (c.len.ensures ∙ e)) (c.as_slice.ensures.value ∙ c.in_ok-list.ensures.ok) c.text.ensures

use Rattle.std.proofs.Common.{Ok, sym, subst}
use Rattle.sp_checks.specs.Answers.{AnswersText}
use Rattle.sp_checks.proofs.WordLemmas.{has_words}
use Rattle.sp_checks.proofs.TextLemmas.{text_answers, error_answers}
use Rattle.sp_checks.proofs.reading.model_of.Goals as goal

pub parts_of-requires : goal.parts_of-requires
parts_of-requires c = has_words c.args.source.now c.args.text.now c.requires c.tokens_by_place.ensures.cut

pub returns-in_err-parts : goal.returns-in_err-parts
returns-in_err-parts c =
    error_answers c.args.source.now c.args.text.now c.requires c.tokens_by_place.ensures.cut c.from_residual.result c.in_err-parts.field-0.0 c.in_err-parts.ensures.value c.from_residual.ensures.1

pub returns : goal.returns
returns c =
    subst (λ p. AnswersText c.args.source.now c.args.text.now (Ok p)) (sym c.new.ensures) (text_answers c.args.source.now c.args.text.now c.requires c.tokens_by_place.ensures.cut (Ok c.in_ok-parts.parts) c.in_ok-parts.ensures.value)

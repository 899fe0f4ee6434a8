use Rattle.std.proofs.Common.{ℕ, inr, subst}
use Rattle.std.proofs.lemmas.Bool.Decides.{when_true, when_false}
use Rattle.sp_core.specs.Settling.{IsOurs}
use Rattle.sp_workers.specs.Sections.{IsSettledAnew}
use Rattle.sp_workers.proofs.sections.settle_on.Goals as goal

pub settle_weighed-requires-clause-ours : goal.settle_weighed-requires-clause-ours
settle_weighed-requires-clause-ours c =
    when_true (IsOurs c.args.book.now c.args.candidate.base) (¬ IsOurs c.args.book.now c.args.candidate.base) c.if-is_ours.true (c.is_ours.ensures c.args.candidate.base c.requires.base)

pub returns-clause-ok : goal.returns-clause-ok
returns-clause-ok c =
    inr (
      when_false (IsOurs c.args.book.now c.args.candidate.base) (¬ IsOurs c.args.book.now c.args.candidate.base) c.if-is_ours.false (c.is_ours.ensures c.args.candidate.base c.requires.base),
      subst (λ (k : ℕ). IsSettledAnew c.args.book.now k c.in_ok-answer.answer c.settle_anew.new.book) c.belief-belief.ensures c.in_ok-answer.ensures.ok,
    )

use Rattle.std.proofs.Common.{◌∙◌, sym, ap, subst, refl, Some}
use Rattle.std.specs.Arc.{arc_value}
use Rattle.sp_core.specs.Settling.{IsOurs}
use Rattle.sp_planner.proofs.Backing.{latest_ours}
use Rattle.sp_workers.specs.Sections.{IsLatest}
use Rattle.sp_planner.proofs.Later.{later_same}
use Rattle.sp_workers.proofs.sections.settle_anew.Goals as goal

pub settle_ours-requires : goal.settle_ours-requires
settle_ours-requires c =
    subst (IsOurs c.args.book.now) (sym c.in_ok-candidate.ensures.base) (latest_ours c.args.book.now c.task.ensures.known (arc_value c.in_ok-base.base) (c.latest.ensures ∙ ap Some (sym c.in_ok-base.ensures)))

pub returns-clause-ok : goal.returns-clause-ok
returns-clause-ok c = record {
  candidate = c.in_ok-candidate.candidate;
  known = c.in_ok-candidate.ensures.backup;
  belief_is = c.in_ok-candidate.ensures.belief;
  base = subst (IsLatest c.args.book.now) (sym c.in_ok-candidate.ensures.base) (c.latest.ensures ∙ ap Some (sym c.in_ok-base.ensures));
  settled = c.in_ok-answer.ensures.ok;
}

pub returns-in_err-base-clause-later : goal.returns-in_err-base-clause-later
returns-in_err-base-clause-later c = later_same _ _ refl

pub returns-in_err-candidate-clause-later : goal.returns-in_err-candidate-clause-later
returns-in_err-candidate-clause-later c = later_same _ _ refl

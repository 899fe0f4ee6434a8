use Rattle.std.proofs.Common.{◌∙◌, ap, sym, subst, Some}
use Rattle.std.specs.Arc.{arc_value}
use Rattle.sp_core.specs.Settling.{IsOurs}
use Rattle.sp_planner.proofs.Backing.{is_backed_up, latest_ours}
use Rattle.sp_planner.proofs.Later.{later_settled}
use Rattle.sp_planner.proofs.planning.back_up.Goals as goal

pub settle_ours-settled-requires : goal.settle_ours-settled-requires
settle_ours-settled-requires c =
    subst (IsOurs c.args.book.now) (sym c.in_ok-candidate.ensures.base) (latest_ours c.args.book.now c.task.ensures.known (arc_value c.in_ok-base.base) (c.latest.ensures ∙ ap Some (sym c.in_ok-base.ensures)))

pub returns-in-Ok-clause-backed_up : goal.returns-in-Ok-clause-backed_up
returns-in-Ok-clause-backed_up c =
    is_backed_up c.args.book.now c.task.ensures.known (arc_value c.in_ok-base.base) (c.latest.ensures ∙ ap Some (sym c.in_ok-base.ensures)) c.in_ok-candidate.candidate c.in_ok-candidate.ensures.backup c.args.belief c.in_ok-candidate.ensures.belief c.in_ok-candidate.ensures.base
    _ c.settle_ours-settled.new.self c.requires.going c.in-Ok.ensures.ok c.task-2.ensures.known

pub returns-in-Ok-clause-later : goal.returns-in-Ok-clause-later
returns-in-Ok-clause-later c = later_settled _ _ _ _ c.in-Ok.ensures.ok

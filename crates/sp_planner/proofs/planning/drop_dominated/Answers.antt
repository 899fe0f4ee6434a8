use Rattle.std.proofs.Common.{◌∙◌, ap, sym, subst, Some, Bool}
use Rattle.std.specs.Arc.{arc_value}
use Rattle.sp_theory.specs.OneThread.{dominated}
use Rattle.sp_model.specs.Problem.{problem}
use Rattle.sp_value.specs.Editions.{EditionParts, IsEdition, members_in}
use Rattle.sp_planner.specs.Turns.{IsPruning}
use Rattle.sp_planner.proofs.Backing.{latest_ours}
use Rattle.sp_planner.proofs.Pruning.{may_go, is_pruning}
use Rattle.sp_planner.proofs.Later.{later_pruned}
use Rattle.sp_planner.proofs.planning.drop_dominated.Goals as goal

pub prune_ours-requires-clause-ours : goal.prune_ours-requires-clause-ours
prune_ours-requires-clause-ours c = latest_ours c.args.book.now c.task.ensures.known (arc_value c.in_ok-base.base) (c.latest.ensures ∙ ap Some (sym c.in_ok-base.ensures))

pub prune_ours-requires-clause-pairs : goal.prune_ours-requires-clause-pairs
prune_ours-requires-clause-pairs c =
    may_go (arc_value c.in_ok-base.base) (subst IsEdition c.deref.ensures c.members.ensures.known) c.in_ok-pairs.pairs
    (c.in_ok-pairs.ensures ∙ ap (λ (e : EditionParts). dominated (problem e.task.model) (members_in e)) c.deref-2.ensures)

pub returns-in-Ok-clause-pruned : goal.returns-in-Ok-clause-pruned
returns-in-Ok-clause-pruned c =
    subst (λ (p : Bool). IsPruning p c.args.book.now c.prune_ours.new.self) (sym c.if-not-pruning.false)
    (is_pruning c.args.book.now _ c.prune_ours.new.self c.task.ensures.known (arc_value c.in_ok-base.base) (c.latest.ensures ∙ ap Some (sym c.in_ok-base.ensures)) (sym c.is_done.ensures ∙ c.if-is_done.false)
    c.in_ok-pairs.pairs
    (c.in_ok-pairs.ensures ∙ ap (λ (e : EditionParts). dominated (problem e.task.model) (members_in e)) c.deref-2.ensures)
    c.in-Ok.ensures.ok)

pub returns-in-Ok-clause-later : goal.returns-in-Ok-clause-later
returns-in-Ok-clause-later c = later_pruned _ (arc_value c.in_ok-base.base) c.in_ok-pairs.pairs _ _ c.in-Ok.ensures.ok

use Rattle.std.proofs.Common.{◌∙◌, ap, subst}
use Rattle.std.specs.Arc.{arc_value}
use Rattle.sp_theory.specs.OneThread.{dominated}
use Rattle.sp_model.specs.Problem.{problem}
use Rattle.sp_value.specs.Editions.{EditionParts, IsEdition, members_in}
use Rattle.sp_planner.proofs.Pruning.{may_go}
use Rattle.sp_workers.proofs.sections.dominated_in.Goals as goal

pub returns : goal.returns
returns c =
    may_go (arc_value c.args.base.now) (subst IsEdition c.deref.ensures c.members.ensures.known) c.in_ok-pairs.pairs
    (c.in_ok-pairs.ensures ∙ ap (λ (e : EditionParts). dominated (problem e.task.model) (members_in e)) c.deref-2.ensures)

use Rattle.std.proofs.Common.{◌≡◌}
use Rattle.sp_theory.specs.Points.{point_of}
use Rattle.sp_theory.specs.Backup.{estimate}
use Rattle.sp_model.specs.Problem.{problem, sizes_of}
use Rattle.sp_model.specs.Links.{weights_of}
use Rattle.sp_value.proofs.BestMember.{IsBestOf}
use Rattle.sp_backup.proofs.pulling.pulled_link.Given as goal

abbrev pub invariant-loop-k : goal.invariant-loop-k
invariant-loop-k l = record {
  kept : l.kept ≡ l.setting.edition.now.task.model;
  best : IsBestOf l.setting.edition.now (λ x. estimate (problem l.setting.edition.now.task.model) (weights_of l.setting.edition.now.task.model l.setting.weights.now) l.action (point_of (sizes_of l.setting.edition.now.task.model.sights) l.joint) x.vector) l.place l.k l.most;
}

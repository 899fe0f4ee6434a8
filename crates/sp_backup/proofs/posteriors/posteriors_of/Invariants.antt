use Rattle.std.proofs.Common.{◌≡◌}
use Rattle.sp_backup.specs.Posteriors.{ArePosteriors}
use Rattle.sp_backup.proofs.posteriors.posteriors_of.Given as goal

abbrev pub invariant-loop-joint : goal.invariant-loop-joint
invariant-loop-joint l = record {
  kept : l.kept ≡ l.model;
  are : ArePosteriors l.model l.weights l.prepared.tables.action l.joint l.made;
}

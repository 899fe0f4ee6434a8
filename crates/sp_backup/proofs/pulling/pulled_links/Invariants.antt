use Rattle.std.proofs.Common.{◌≡◌}
use Rattle.sp_model.specs.Links.{weights_of}
use Rattle.sp_backup.specs.Choosing.{AreLinks}
use Rattle.sp_backup.proofs.pulling.pulled_links.Given as goal

abbrev pub invariant-loop-joint : goal.invariant-loop-joint
invariant-loop-joint l = record {
  kept : l.kept ≡ l.setting.edition.now.task.model;
  links : AreLinks l.setting.edition.now (weights_of l.setting.edition.now.task.model l.setting.weights.now) l.action l.joint l.places;
}

use Rattle.std.proofs.Common.{◌≡◌}
use Rattle.sp_model.specs.Links.{weights_of}
use Rattle.sp_backup.specs.Promises.{AreActionLinks}
use Rattle.sp_backup.proofs.linking.links_of.Given as goal

abbrev pub invariant-loop-joint : goal.invariant-loop-joint
invariant-loop-joint l = record {
  kept : l.kept ≡ l.setting.edition.now.task.model;
  links : AreActionLinks l.setting.edition.now (weights_of l.setting.edition.now.task.model l.setting.weights.now) l.successors.action l.joint (record { places = l.places; future = l.future });
}

use Rattle.std.proofs.Common.{◌≡◌}
use Rattle.sp_model.specs.Links.{weights_of}
use Rattle.sp_backup.proofs.BestLink.{IsBestLink}
use Rattle.sp_backup.proofs.linking.LinkSearch.link.Given as goal

abbrev pub invariant-loop-k : goal.invariant-loop-k
invariant-loop-k l = record {
  kept : l.kept ≡ l.self.setting.now.edition.now.task.model;
  best : IsBestLink l.self.setting.now.edition.now (weights_of l.self.setting.now.edition.now.task.model l.self.setting.now.weights.now) l.self.action l.self.joint l.best l.k;
}

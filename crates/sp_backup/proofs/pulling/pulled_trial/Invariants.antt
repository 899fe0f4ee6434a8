use Rattle.std.proofs.Common.{◌≡◌}
use Rattle.sp_model.specs.Links.{weights_of}
use Rattle.sp_backup.proofs.Trials.{IsBestTrial}
use Rattle.sp_backup.proofs.pulling.pulled_trial.Given as goal

abbrev pub invariant-loop-action : goal.invariant-loop-action
invariant-loop-action l = record {
  kept : l.kept ≡ l.setting.edition.now.task.model;
  best : IsBestTrial l.setting.edition.now (weights_of l.setting.edition.now.task.model l.setting.weights.now) l.action l.best;
}

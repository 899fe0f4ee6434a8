use Rattle.std.proofs.Common.{◌≡◌, map}
use Rattle.std.specs.List.{range_with_len}
use Rattle.sp_belief.specs.Updates.{total_after}
use Rattle.sp_belief.specs.Paths.{IsPath}
use Rattle.sp_belief.proofs.carried.Carried.totals.Given as goal

abbrev pub invariant-loop-observation : goal.invariant-loop-observation
invariant-loop-observation l = record {
  path : IsPath l.fn.self.model.now l.fn.self.action l.fn.self.func l.path.items;
  are : l.totals ≡ map (total_after l.fn.self.model.now l.fn.self.weights.now l.fn.self.action) (range_with_len 0 l.observation);
}

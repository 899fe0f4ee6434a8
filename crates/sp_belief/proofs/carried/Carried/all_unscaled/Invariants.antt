use Rattle.sp_belief.specs.Paths.{IsPath, AreUnscaled}
use Rattle.sp_belief.proofs.carried.Carried.all_unscaled.Given as goal

abbrev pub invariant-loop-observation : goal.invariant-loop-observation
invariant-loop-observation l = record {
  path : IsPath l.fn.self.model.now l.fn.self.action l.fn.self.func l.path.items;
  are : AreUnscaled l.fn.self.model.now l.fn.self.weights.now l.fn.self.action l.observation l.made;
}

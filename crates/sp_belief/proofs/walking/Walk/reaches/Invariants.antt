use Rattle.sp_belief.specs.Paths.{IsPath, LeadsTo}
use Rattle.sp_belief.proofs.walking.Walk.reaches.Given as goal

abbrev pub invariant-loop-variable : goal.invariant-loop-variable
invariant-loop-variable l = record {
  path : IsPath l.self.carried.now.model.now l.self.carried.now.action l.self.carried.now.func l.path.items;
  leads : LeadsTo l.self.carried.now.model.now l.path.items l.observation l.variable;
}

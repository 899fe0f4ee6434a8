use Rattle.sp_dd.specs.Ordered.{node_at}
use Rattle.sp_ddops.proofs.BestLemmas.{IsBestOf}
use Rattle.sp_ddops.proofs.bounds.best_of.Given as goal

abbrev pub invariant-loop-value : goal.invariant-loop-value
invariant-loop-value l = IsBestOf l.is_greatest (node_at l.nodes l.at).parts l.value l.first l.best

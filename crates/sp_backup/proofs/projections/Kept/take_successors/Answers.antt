use Rattle.std.proofs.Common.{ap, subst, IfSome}
use Rattle.lru.specs.LruCache.{LruCache}
use Rattle.sp_model.specs.declared.parts.Parts.{Parts}
use Rattle.sp_backup.specs.Posteriors.{AreSuccessors}
use Rattle.sp_backup.specs.declared.posteriors.Successors.{Successors}
use Rattle.sp_backup.specs.declared.projections.Pair.{Pair}
use Rattle.sp_backup.proofs.KeptLemmas.{looked_up, removed}
use Rattle.sp_backup.proofs.projections.Kept.take_successors.Goals as goal

pub invariant_of-self : goal.invariant_of-self
invariant_of-self c = record {
  prepared = c.self.invariant.prepared;
  successors = removed (AreSuccessors _) _ _ _ (ap (λ (x : LruCache Pair Successors). x.entries) c.pop-taken.ensures.entries) c.self.invariant.successors;
  projections = c.self.invariant.projections;
  ends = c.self.invariant.ends;
  tables = c.self.invariant.tables;
}

pub returns-clause-are : goal.returns-clause-are
returns-clause-are c = subst (λ (p : Parts). IfSome c.pop-taken.result (AreSuccessors p)) c.self.view_is (looked_up (AreSuccessors _) _ _ c.self.invariant.successors c.pop-taken.result c.pop-taken.ensures.value)

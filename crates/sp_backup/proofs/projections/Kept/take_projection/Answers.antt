use Rattle.std.proofs.Common.{ap, subst, IfSome}
use Rattle.lru.specs.LruCache.{LruCache}
use Rattle.sp_model.specs.declared.parts.Parts.{Parts}
use Rattle.sp_backup.specs.Projections.{IsProjection}
use Rattle.sp_backup.specs.declared.projections.Projection.{Projection}
use Rattle.sp_backup.specs.declared.projections.Triple.{Triple}
use Rattle.sp_backup.proofs.KeptLemmas.{looked_up, removed}
use Rattle.sp_backup.proofs.projections.Kept.take_projection.Goals as goal

pub invariant_of-self : goal.invariant_of-self
invariant_of-self c = record {
  prepared = c.self.invariant.prepared;
  successors = c.self.invariant.successors;
  projections = removed (IsProjection _) _ _ _ (ap (λ (x : LruCache Triple Projection). x.entries) c.pop.ensures.entries) c.self.invariant.projections;
  ends = c.self.invariant.ends;
  tables = c.self.invariant.tables;
}

pub returns-clause-is : goal.returns-clause-is
returns-clause-is c = subst (λ (p : Parts). IfSome c.pop.result (IsProjection p)) c.self.view_is (looked_up (IsProjection _) _ _ c.self.invariant.projections c.pop.result c.pop.ensures.value)

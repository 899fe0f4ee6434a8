use Rattle.std.proofs.Common.{ℕ, ap, subst, IfSome}
use Rattle.lru.specs.LruCache.{LruCache}
use Rattle.sp_model.specs.declared.parts.Parts.{Parts}
use Rattle.sp_backup.specs.Preparing.{IsPrepared}
use Rattle.sp_backup.specs.declared.preparing.PreparedAction.{PreparedAction}
use Rattle.sp_backup.proofs.KeptLemmas.{looked_up, removed}
use Rattle.sp_backup.proofs.projections.Kept.take_prepared.Goals as goal

pub invariant_of-self : goal.invariant_of-self
invariant_of-self c = record {
  prepared = removed (IsPrepared _) _ _ _ (ap (λ (x : LruCache ℕ PreparedAction). x.entries) c.pop.ensures.entries) c.self.invariant.prepared;
  successors = c.self.invariant.successors;
  projections = c.self.invariant.projections;
  ends = c.self.invariant.ends;
  tables = c.self.invariant.tables;
}

pub returns-clause-is : goal.returns-clause-is
returns-clause-is c = subst (λ (p : Parts). IfSome c.pop.result (IsPrepared p)) c.self.view_is (looked_up (IsPrepared _) _ _ c.self.invariant.prepared c.pop.result c.pop.ensures.value)

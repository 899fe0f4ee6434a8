use Rattle.std.proofs.Common.{ap, subst, IfSome}
use Rattle.lru.specs.LruCache.{LruCache}
use Rattle.sp_model.specs.declared.parts.Parts.{Parts}
use Rattle.sp_backup.specs.Projections.{AreEnds}
use Rattle.sp_backup.specs.declared.ends.Ends.{Ends}
use Rattle.sp_backup.specs.declared.projections.Sight.{Sight}
use Rattle.sp_backup.proofs.KeptLemmas.{looked_up, removed}
use Rattle.sp_backup.proofs.projections.Kept.take_ends.Goals as goal

pub invariant_of-self : goal.invariant_of-self
invariant_of-self c = record {
  prepared = c.self.invariant.prepared;
  successors = c.self.invariant.successors;
  ends = removed (AreEnds _) _ _ _ (ap (λ (x : LruCache Sight Ends). x.entries) c.pop-taken.ensures.entries) c.self.invariant.ends;
  projections = c.self.invariant.projections;
  tables = c.self.invariant.tables;
}

pub returns-clause-are : goal.returns-clause-are
returns-clause-are c = subst (λ (p : Parts). IfSome c.pop-taken.result (AreEnds p)) c.self.view_is (looked_up (AreEnds _) _ _ c.self.invariant.ends c.pop-taken.result c.pop-taken.ensures.value)

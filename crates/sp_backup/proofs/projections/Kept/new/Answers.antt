use Rattle.std.proofs.Common.{ℕ, List, Contains, subst}
use Rattle.lru.proofs.Splits.{Contains-nil}
use Rattle.sp_backup.specs.declared.posteriors.Successors.{Successors}
use Rattle.sp_backup.specs.declared.preparing.PreparedAction.{PreparedAction}
use Rattle.sp_backup.specs.declared.projections.Projection.{Projection}
use Rattle.sp_backup.specs.declared.projections.Pair.{Pair}
use Rattle.sp_backup.specs.declared.projections.Triple.{Triple}
use Rattle.sp_backup.specs.declared.projections.Sight.{Sight}
use Rattle.sp_backup.specs.declared.ends.Ends.{Ends}
use Rattle.sp_backup.proofs.projections.Kept.new.Goals as goal

pub invariant_of-result : goal.invariant_of-result
invariant_of-result c = record {
  prepared = λ x has. absurd (Contains-nil x (subst (λ (l : List (ℕ × PreparedAction)). Contains l x) c.in_ok-prepared.ensures has));
  successors = λ x has. absurd (Contains-nil x (subst (λ (l : List (Pair × Successors)). Contains l x) c.in_ok-successors.ensures has));
  projections = λ x has. absurd (Contains-nil x (subst (λ (l : List (Triple × Projection)). Contains l x) c.in_ok-projections.ensures has));
  ends = λ x has. absurd (Contains-nil x (subst (λ (l : List (Sight × Ends)). Contains l x) c.in_ok-ends.ensures has));
  tables = λ ts e. absurd (cc);
}

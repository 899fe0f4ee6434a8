-- What is kept between backups.
use Rattle.std.specs.Prelude.{◌≡◌, ℕ, ◌<◌, ℤ, List, Option, Some, length, Contains}
use Rattle.sp_dd.specs.Operations.{everywhere, exchange_of_slots}
use Rattle.sp_theory.specs.Points.{count_of}
use Rattle.sp_theory.specs.Model.{least_return, top}
use Rattle.sp_model.specs.declared.parts.Parts.{Parts}
use Rattle.sp_model.specs.Problem.{problem, shape_of, sizes_of}
use Rattle.sp_value.specs.Editions.{IsVector}
use Rattle.sp_backup.specs.declared.posteriors.Successors.{Successors}
use Rattle.sp_backup.specs.declared.projections.Projection.{Projection}
use Rattle.sp_backup.specs.declared.projections.Pair.{Pair}
use Rattle.sp_backup.specs.declared.projections.Triple.{Triple}
use Rattle.sp_backup.specs.declared.projections.Sight.{Sight}
use Rattle.sp_backup.specs.declared.ends.Ends.{Ends}
use Rattle.sp_backup.specs.declared.preparing.PreparedAction.{PreparedAction}
use Rattle.sp_backup.specs.declared.values.MemberTable.{MemberTable}
use Rattle.sp_backup.specs.MemberTables.{AreTables}
use Rattle.sp_backup.specs.Choosing.{thinned_vector}
use Rattle.sp_backup.specs.Functions.{IsWeighed}
use Rattle.sp_backup.specs.Posteriors.{AreSuccessors}
use Rattle.sp_backup.specs.Preparing.{IsPrepared}

-- the vector as a function of the next state, multiplied by the tables, and the next state weighed out
pub record IsProjection (p : Parts) (x : Projection) : Type 0 where
  pub action : x.action < length p.actions
  pub joint : x.joint < count_of (sizes_of p.sights)
  pub vector : IsVector p x.vector
  pub func : IsWeighed p x.action (thinned_vector p x.action x.joint (exchange_of_slots x.vector)) x.func

-- the projection of the vector that has one value
pub record IsLastProjection (p : Parts) (a joint : ℕ) (z : ℤ) (x : Projection) : Type 0 where
  pub projection : IsProjection p x
  pub action_is : x.action ≡ a
  pub joint_is : x.joint ≡ joint
  pub vector : x.vector ≡ everywhere p.scope z

-- those of the least return and of the top
pub record AreEnds (p : Parts) (x : Ends) : Type 0 where
  pub low : IsLastProjection p x.low.action x.low.joint (least_return (problem p)) x.low
  pub high : IsLastProjection p x.low.action x.low.joint (top (problem p)) x.high

-- each entry is what its fields say, for this model
pub record AreKept (p : Parts) (acts : List (ℕ × PreparedAction)) (pairs : List (Pair × Successors)) (triples : List (Triple × Projection)) (sights : List (Sight × Ends)) (values : Option (List MemberTable)) : Type 0 where
  pub prepared : (x : ℕ × PreparedAction) → Contains acts x → IsPrepared p x.1
  pub successors : (x : Pair × Successors) → Contains pairs x → AreSuccessors p x.1
  pub projections : (x : Triple × Projection) → Contains triples x → IsProjection p x.1
  pub ends : (x : Sight × Ends) → Contains sights x → AreEnds p x.1
  pub tables : (ts : List MemberTable) → values ≡ Some ts → AreTables (shape_of p) ts

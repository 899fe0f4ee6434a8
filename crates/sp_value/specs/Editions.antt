-- Editions: value functions as lists of value vectors (Spaan and Vlassis 2005).
use Rattle.std.specs.Prelude.{◌≡◌, ◌≢◌, ℕ, ◌<◌, ℤ, ◌≤ℤ◌, List, map, length, slice_index_or, All, AllPairs}
use Rattle.sp_dd.specs.Func.{Func, Everywhere, IsOnUnprimed}
use Rattle.sp_theory.specs.Model.{least_return, top}
use Rattle.sp_theory.specs.Values as theory
use Rattle.sp_model.specs.declared.parts.Parts.{Parts}
use Rattle.sp_model.specs.Problem.{shape_of, vector_of, problem, no_func}
use Rattle.sp_value.specs.declared.editions.Member.{Member}
use Rattle.sp_value.specs.Tasks.{TaskParts, IsTask}

-- what contracts see of an edition
pub record EditionParts : Type 0 where
  pub number : ℕ
  pub task : TaskParts
  pub members : List Member

-- a member and an edition, as the theory has them
abbrev pub member_of : Parts → Member → theory.Member
member_of p x = record { id = x.id; action = x.action; vector = vector_of p x.vector }

abbrev pub edition_of : Parts → List Member → theory.Edition
edition_of p members = map (member_of p) members

-- the members of an edition, as the theory has them
abbrev pub members_in : EditionParts → theory.Edition
members_in e = edition_of e.task.model e.members

-- a value vector of the model: a function of the state alone, between the least return and the top
pub record IsVector (p : Parts) (f : Func) : Type 0 where
  pub shape : f.shape ≡ shape_of p
  pub unprimed : IsOnUnprimed f
  pub from_least : Everywhere f (λ v. least_return (problem p) ≤ℤ v)
  pub to_top : Everywhere f (λ v. v ≤ℤ top (problem p))

-- a member with an action and a value vector of the model
pub record IsMemberOf (p : Parts) (x : Member) : Type 0 where
  pub action : x.action < length p.actions
  pub vector : IsVector p x.vector

-- what the type of editions keeps
pub record IsEdition (e : EditionParts) : Type 0 where
  pub task : IsTask e.task
  pub some : 0 < length e.members
  pub different : AllPairs (λ x y. x.id ≢ y.id) e.members
  pub members : All (IsMemberOf e.task.model) e.members

-- what stands past the end of the members
abbrev pub no_member : Member
no_member = record { id = 0; action = 0; vector = no_func }

-- the member at that place is the greatest at the weights, of the least id at a tie
pub record IsGreatestAt (e : EditionParts) (w : theory.Weights) (place : ℕ) : Type 0 where
  pub within : place < length e.members
  pub greatest : member_of e.task.model (slice_index_or e.members place no_member) ≡ theory.greatest_member (problem e.task.model) (members_in e) w

-- the sum of weights times values of the member at a place
abbrev pub member_sum : EditionParts → theory.Weights → ℕ → ℤ
member_sum e w place = theory.dot (problem e.task.model) w (vector_of e.task.model (slice_index_or e.members place no_member).vector)

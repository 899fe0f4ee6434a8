-- What holds of each function that judging gives.
use Rattle.std.specs.Prelude.{◌≡◌, ℕ, ◌<◌, ◌≤◌, ◌^◌, ◌++◌, unsigned_abs, false, List, length, All, IfOk}
use Rattle.sp_dd.specs.Func.{Shape, Func, IsScope, Everywhere, IsIndependentOf}
use Rattle.sp_model.specs.declared.parts.Decl.{Decl}
use Rattle.sp_model.specs.Problem.{sizes_of, twice_each}
use Rattle.sp_trees.specs.declared.slots.Slots.{Slots}
use Rattle.sp_trees.specs.declared.env.Env.{Env}
use Rattle.sp_trees.specs.declared.judged.Judged.{Judged}
use Rattle.sp_trees.specs.Slots.{has}

-- a function of the scope with no value above 10^18 ticks in magnitude
pub record IsFit (s : Shape) (f : Func) : Type 0 where
  pub shape : f.shape ≡ s
  pub small : Everywhere f (λ v. unsigned_abs v ≤ 10 ^ 18)

-- it depends on slots alone that are mentioned
pub record IsGood (s : Shape) (m : Slots) (f : Func) : Type 0 where
  pub fit : IsFit s f
  pub free : (slot : ℕ) → slot < length s.sizes → has m slot ≡ false → IsIndependentOf f slot

-- a tree that isn't refused has a good function
abbrev pub IfGood : Shape → Judged → Type 0
IfGood s j = IfOk j.outcome (λ f. IsGood s j.mentions f)

-- the scope has two slots for each variable, unprimed and primed, and one for each observation variable
abbrev pub shape_for : List Decl → List Decl → Shape
shape_for variables sights = record { sizes = twice_each (sizes_of variables) ++ sizes_of sights; variables = length variables }

-- the names fit the scope, and each dd has a good function
pub record IsEnv (env : Env) : Type 0 where
  pub shape : env.scope ≡ shape_for env.variables env.sights
  pub scope : IsScope env.scope
  pub dds : All (λ d. IsGood env.scope d.1.mentions d.1.func) env.dds

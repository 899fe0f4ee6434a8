-- What holds of the parts of each model.
use Rattle.std.specs.Prelude.{◌≡◌, ◌≢◌, ℕ, ◌+◌, ◌*◌, ◌^◌, ◌<◌, ◌≤◌, ℤ, pos, ◌≤ℤ◌, List, [], ◌∷◌, ◌++◌, map, length, unsigned_abs, All, AllPairs, Contains, slice_index_or}
use Rattle.sp_dd.specs.Floors.{ticks}
use Rattle.sp_dd.specs.Func.{Shape, Func, Everywhere, IsIndependentOf}
use Rattle.sp_dd.specs.Operations.{IsRow, summed_out}
use Rattle.sp_theory.specs.Points.{count_of}
use Rattle.sp_model.specs.declared.parts.Decl.{Decl}
use Rattle.sp_model.specs.declared.parts.Factor.{Factor}
use Rattle.sp_model.specs.declared.parts.ActionPart.{ActionPart}
use Rattle.sp_model.specs.declared.parts.Parts.{Parts}
use Rattle.sp_model.specs.Words.{IsModelName, IsValueName}
use Rattle.sp_theory.specs.Model.{least_return, top}
use Rattle.sp_model.specs.Problem.{sizes_of, shape_of, no_func, problem}

abbrev pub AreDifferent : List (List ℕ) → Type 0
AreDifferent names = AllPairs (λ x y. x ≢ y) names

-- a declaration: a name, and 1 to 64 values of different names
pub record IsDecl (d : Decl) : Type 0 where
  pub name : IsModelName d.name
  pub some : 0 < length d.values
  pub few : length d.values ≤ 64
  pub values : All IsValueName d.values
  pub different : AreDifferent d.values

-- the values are probabilities in ticks
abbrev pub IsProbability : Func → Type 0
IsProbability f = Everywhere f (λ v. (pos 0 ≤ℤ v) × (v ≤ℤ pos ticks))

-- the table of variable i: of unprimed variables, of the primed ones up to its own, and its rows sum to one
pub record IsTransitionTable (s : Shape) (i : ℕ) (f : Func) : Type 0 where
  pub shape : f.shape ≡ s
  pub probability : IsProbability f
  pub row : IsRow f (2 * i + 1)
  pub not_later : (k : ℕ) → i < k → k < s.variables → IsIndependentOf f (2 * k + 1)
  pub not_seen : (j : ℕ) → 2 * s.variables + j < length s.sizes → IsIndependentOf f (2 * s.variables + j)

-- the table of observation variable j: of primed variables and its own slot, and its rows sum to one
pub record IsSight (s : Shape) (j : ℕ) (f : Func) : Type 0 where
  pub shape : f.shape ≡ s
  pub probability : IsProbability f
  pub row : IsRow f (2 * s.variables + j)
  pub not_unprimed : (i : ℕ) → i < s.variables → IsIndependentOf f (2 * i)
  pub not_others : (k : ℕ) → k ≢ j → 2 * s.variables + k < length s.sizes → IsIndependentOf f (2 * s.variables + k)

-- the greatest magnitude of a reward in ticks: a million
abbrev pub most_reward : ℕ
most_reward = 10 ^ 15

-- a reward: of unprimed and primed variables, with a magnitude of at most a million
pub record IsReward (s : Shape) (f : Func) : Type 0 where
  pub shape : f.shape ≡ s
  pub small : Everywhere f (λ v. unsigned_abs v ≤ most_reward)
  pub not_seen : (j : ℕ) → 2 * s.variables + j < length s.sizes → IsIndependentOf f (2 * s.variables + j)

pub record IsAction (s : Shape) (a : ActionPart) : Type 0 where
  pub name : IsModelName a.name
  pub reward : IsReward s a.reward
  pub move_count : length a.moves ≡ s.variables
  pub moves : (i : ℕ) → i < s.variables → IsTransitionTable s i (slice_index_or a.moves i no_func)
  pub sight_count : 2 * s.variables + length a.sight ≡ length s.sizes
  pub sights : (j : ℕ) → j < length a.sight → IsSight s j (slice_index_or a.sight j no_func)

-- f with the unprimed slots of these variables summed out, the last one first
abbrev pub summed_out_own : Func → List ℕ → Func
summed_out_own f [] = f
summed_out_own f (i ∷ own) = summed_out (summed_out_own f own) (2 * i)

-- the numbers rise
abbrev pub NumbersRise : List ℕ → Type 0
NumbersRise own = AllPairs (λ i j. i < j) own

-- a factor of the initial belief: a function of its own variables alone that sums to one over them
pub record IsFactor (s : Shape) (f : Factor) : Type 0 where
  pub shape : f.func.shape ≡ s
  pub probability : IsProbability f.func
  pub within : All (λ i. i < s.variables) f.own
  pub rises : NumbersRise f.own
  pub whole : Everywhere (summed_out_own f.func f.own) (λ v. v ≡ pos ticks)
  pub not_others : (i : ℕ) → i < s.variables → ((k : Contains f.own i) → ⊥) → IsIndependentOf f.func (2 * i)
  pub not_primed : (i : ℕ) → i < s.variables → IsIndependentOf f.func (2 * i + 1)
  pub not_seen : (j : ℕ) → 2 * s.variables + j < length s.sizes → IsIndependentOf f.func (2 * s.variables + j)

-- the own variables of all factors
abbrev pub all_own : List Factor → List ℕ
all_own [] = []
all_own (f ∷ fs) = f.own ++ all_own fs

-- what the type of models keeps
pub record IsModel (p : Parts) : Type 0 where
  -- the limits
  pub some_variable : 0 < length p.variables
  pub few_variables : length p.variables ≤ 24
  pub some_sight : 0 < length p.sights
  pub few_sights : length p.sights ≤ 8
  pub some_action : 0 < length p.actions
  pub few_actions : length p.actions ≤ 256
  pub few_states : count_of (sizes_of p.variables) ≤ 2 ^ 24
  pub few_joint : count_of (sizes_of p.sights) ≤ 4096
  pub discount : p.discount ≤ 999000000
  -- the names
  pub variables : All IsDecl p.variables
  pub sights : All IsDecl p.sights
  pub different : AreDifferent (map (λ d. d.name) (p.variables ++ p.sights))
  pub actions_different : AreDifferent (map (λ a. a.name) p.actions)
  -- the functions
  pub scope : p.scope ≡ shape_of p
  pub actions : All (IsAction (shape_of p)) p.actions
  pub init : All (IsFactor (shape_of p)) p.init
  pub apart : AllPairs (λ i j. i ≢ j) (all_own p.init)
  pub every : (i : ℕ) → i < length p.variables → Contains (all_own p.init) i

-- what is kept beside the parts: how many states and joint observations there are, and the range of the returns
pub record IsKeptBeside (p : Parts) (state_total joint_total : ℕ) (least_worth greatest_worth : ℤ) : Type 0 where
  pub model : IsModel p
  pub states : state_total ≡ count_of (sizes_of p.variables)
  pub joints : joint_total ≡ count_of (sizes_of p.sights)
  pub least : least_worth ≡ least_return (problem p)
  pub greatest : greatest_worth ≡ top (problem p)

-- Slots and values of what a word names.
use Rattle.std.proofs.Common.{◌≡◌, ℕ, zero, suc, ◌+◌, ◌*◌, ◌<◌, ◌≤◌, Bool, true, false, List, [], ◌∷◌, ◌++◌, length, get_or, Option, Some, None, refl, sym, ap, ◌∙◌, subst, arith}
use Rattle.std.specs.Prelude.{slice_index_or, IfSome}
use Rattle.std.specs.Str.{bytes_eq}
use Rattle.std.proofs.lemmas.List.Quantifiers.{position-Some}
use Rattle.sp_dd.specs.Func.{Shape, IsScope, size_of}
use Rattle.sp_dd.proofs.ScopeLemmas.{AllSizes-get_or}
use Rattle.sp_model.specs.declared.parts.Decl.{Decl}
use Rattle.sp_model.specs.Problem.{no_decl, sizes_of, twice_each}
use Rattle.sp_model.proofs.SlotPoints.{size-unprimed, size-primed, size-seen, length-doubled}
use Rattle.sp_model.proofs.Counts.{length-sizes_of}
use Rattle.sp_trees.specs.declared.env.Env.{Env}
use Rattle.sp_trees.specs.declared.nodes.Place.{Place}
use Rattle.sp_trees.specs.declared.nodes.Place.TheVariants.{Variable, Sight}
use Rattle.sp_trees.specs.Words.{number_of}
use Rattle.sp_trees.specs.Good.{IsEnv, shape_for}
use Rattle.sp_trees.specs.Nodes.{IsPlace, values_of, slot_of, number_of_decl, place_by, place_of}

size_at : (ds : List Decl) (i : ℕ) → i < length ds → get_or (sizes_of ds) i 0 ≡ length (slice_index_or ds i no_decl).values
size_at [] i h = absurd (omega arith)
size_at (d ∷ ds) zero h = refl
size_at (d ∷ ds) (suc i) h = size_at ds i (omega arith)

-- a named slot, with as many values as it has names
pub record IsSlot (s : Shape) (slot count : ℕ) : Type 0 where
  pub within : slot < length s.sizes
  pub size : count ≡ size_of s slot

slot_for : (env : Env) (is_primed : Bool) (p : Place) → IsPlace env p → IsSlot (shape_for env.variables env.sights) (slot_of env is_primed p) (length (values_of env p))
slot_for env is_primed p h = go p is_primed h
  where
    ks : List ℕ
    ks = sizes_of env.variables

    js : List ℕ
    js = sizes_of env.sights

    long : length (twice_each ks ++ js) ≡ 2 * length env.variables + length env.sights
    long = let a = length-doubled ks js in let b = length-sizes_of env.variables in let d = length-sizes_of env.sights in omega arith

    go : (p : Place) (b : Bool) → IsPlace env p → IsSlot (shape_for env.variables env.sights) (slot_of env b p) (length (values_of env p))
    go (Variable i) false h =
        let l = length-sizes_of env.variables in
        let e = size-unprimed ks js i (omega arith) in
        record { within = (let w = long in omega arith); size = sym (e ∙ size_at env.variables i h) }
    go (Variable i) true h =
        let l = length-sizes_of env.variables in
        let e = size-primed ks js i (omega arith) in
        record { within = (let w = long in omega arith); size = sym (e ∙ size_at env.variables i h) }
    go (Sight j) b h =
        record { within = (let w = long in omega arith); size = sym (ap (λ n. get_or (twice_each ks ++ js) (2 * n + j) 0) (sym (length-sizes_of env.variables)) ∙ size-seen ks js j ∙ size_at env.sights j h) }

pub slot_is : (env : Env) (is_primed : Bool) (p : Place) → IsEnv env → IsPlace env p → IsSlot env.scope (slot_of env is_primed p) (length (values_of env p))
slot_is env is_primed p e h = subst (λ (s : Shape). IsSlot s (slot_of env is_primed p) (length (values_of env p))) (sym e.shape) (slot_for env is_primed p h)

pub few_values : (s : Shape) (slot count : ℕ) → IsScope s → count ≡ size_of s slot → count ≤ 64
few_values s slot count c e = let h = AllSizes-get_or s.sizes slot c.each in subst (λ n. n ≤ 64) (sym e) h

-- a number among names is below their count
pub number_small : (names : List (List ℕ)) (word : List ℕ) → length names ≤ 64 → IfSome (number_of names word) (λ v. v < 64)
number_small names word h = go (number_of names word) refl
  where
    go : (o : Option ℕ) → number_of names word ≡ o → IfSome o (λ v. v < 64)
    go None e = tt
    go (Some v) e = let below = (position-Some (λ name. bytes_eq name word) names v [] e).0 in omega arith

-- what is found is there
decl_within : (ds : List Decl) (name : List ℕ) → IfSome (number_of_decl ds name) (λ k. k < length ds)
decl_within ds name = go (number_of_decl ds name) refl
  where
    go : (o : Option ℕ) → number_of_decl ds name ≡ o → IfSome o (λ k. k < length ds)
    go None e = tt
    go (Some v) e = (position-Some (λ d. bytes_eq d.name name) ds v no_decl e).0

pub place_within : (env : Env) (name : List ℕ) → IfSome (place_of env name) (IsPlace env)
place_within env name = go (number_of_decl env.variables name) (number_of_decl env.sights name) (decl_within env.variables name) (decl_within env.sights name)
  where
    go : (a b : Option ℕ) → IfSome a (λ k. k < length env.variables) → IfSome b (λ k. k < length env.sights) → IfSome (place_by a b) (IsPlace env)
    go (Some i) b h k = h
    go None (Some j) h k = k
    go None None h k = tt

pub few_names : (env : Env) (is_primed : Bool) (p : Place) → IsEnv env → IsPlace env p → length (values_of env p) ≤ 64
few_names env is_primed p e h = let is = slot_is env is_primed p e h in few_values env.scope (slot_of env is_primed p) (length (values_of env p)) e.scope is.size

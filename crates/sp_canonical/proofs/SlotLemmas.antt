-- The variables of slots.
use Rattle.std.proofs.Common.{◌≡◌, ℕ, zero, suc, ◌+◌, ◌-◌, ◌*◌, ◌/◌, ◌<◌, ◌≤◌, ◌⊎◌, ⊎_elim, Bool, true, false, cond, List, [], ◌∷◌, ◌++◌, length, get_or, Some, refl, sym, ap, ◌∙◌, arith}
use Rattle.std.specs.Prelude.{nat_lt}
use Rattle.std.specs.List.{slice_get}
use Rattle.std.proofs.lemmas.List.{length-map}
use Rattle.std.proofs.lemmas.Option.{get_or_from_slice_get}
use Rattle.std.proofs.lemmas.Bool.Decides.{nat_tests}
use Rattle.sp_dd.specs.Func.{size_of}
use Rattle.sp_model.specs.declared.parts.Decl.{Decl}
use Rattle.sp_model.specs.declared.parts.Parts.{Parts}
use Rattle.sp_model.specs.Problem.{no_decl, sizes_of, shape_of, twice_each}
use Rattle.sp_model.proofs.SlotPoints.{length-doubled, size-unprimed, size-primed, size-seen}
use Rattle.sp_canonical.specs.ModelSigns.{slot_decl}

pub slots_are : (p : Parts) → length (shape_of p).sizes ≡ 2 * length p.variables + length p.sights
slots_are p =
    let all = length-doubled (sizes_of p.variables) (sizes_of p.sights) in
    let n = length-map p.variables (λ (d : Decl). length d.values) in
    let m = length-map p.sights (λ (d : Decl). length d.values) in
    omega arith

pub behind_variables : (p : Parts) (slot : ℕ) → slot < length (shape_of p).sizes → length p.variables ≤ slot / 2 → slot - 2 * length p.variables < length p.sights
behind_variables p slot h l = let e = slots_are p in omega arith

pub found_at : {X : Type 0} (xs : List X) (i : ℕ) (x d : X) → slice_get xs i ≡ Some x → x ≡ get_or xs i d
found_at xs i x d e = sym (get_or_from_slice_get xs i x d e)

-- the size of a declared variable
sizes_at : (ds : List Decl) (i : ℕ) → get_or (sizes_of ds) i 0 ≡ length (get_or ds i no_decl).values
sizes_at [] i = refl
sizes_at (d ∷ ds) zero = refl
sizes_at (d ∷ ds) (suc i) = sizes_at ds i

pub size_of_slot : (p : Parts) (slot : ℕ) → slot < length (shape_of p).sizes → size_of (shape_of p) slot ≡ length (slot_decl p slot).values
size_of_slot p slot h = by (nat_lt (slot / 2) (length p.variables)) refl
  where
    count : length (sizes_of p.variables) ≡ length p.variables
    count = length-map p.variables (λ (d : Decl). length d.values)

    half : (k : ℕ) → (k ≡ 2 * (k / 2)) ⊎ (k ≡ 2 * (k / 2) + 1)
    half k = grind (arith, nat_tests)

    at_variable : slot / 2 < length p.variables → get_or (twice_each (sizes_of p.variables) ++ sizes_of p.sights) slot 0 ≡ get_or (sizes_of p.variables) (slot / 2) 0
    at_variable l =
        let m : slot / 2 < length (sizes_of p.variables) = omega (arith, count) in
        ⊎_elim (λ (e : slot ≡ 2 * (slot / 2)). ap (λ k. get_or (twice_each (sizes_of p.variables) ++ sizes_of p.sights) k 0) e ∙ size-unprimed (sizes_of p.variables) (sizes_of p.sights) (slot / 2) m)
        (λ (e : slot ≡ 2 * (slot / 2) + 1). ap (λ k. get_or (twice_each (sizes_of p.variables) ++ sizes_of p.sights) k 0) e ∙ size-primed (sizes_of p.variables) (sizes_of p.sights) (slot / 2) m)
        (half slot)

    at_sight : length p.variables ≤ slot / 2 → get_or (twice_each (sizes_of p.variables) ++ sizes_of p.sights) slot 0 ≡ get_or (sizes_of p.sights) (slot - 2 * length p.variables) 0
    at_sight l =
        let e : slot ≡ 2 * length (sizes_of p.variables) + (slot - 2 * length p.variables) = omega (arith, count) in
        ap (λ k. get_or (twice_each (sizes_of p.variables) ++ sizes_of p.sights) k 0) e ∙ size-seen (sizes_of p.variables) (sizes_of p.sights) (slot - 2 * length p.variables)

    by : (b : Bool) → nat_lt (slot / 2) (length p.variables) ≡ b → size_of (shape_of p) slot ≡ length (slot_decl p slot).values
    by true e = let l : slot / 2 < length p.variables = grind (arith, nat_tests) in at_variable l ∙ sizes_at p.variables (slot / 2) ∙ ap (λ b. length (cond b (get_or p.variables (slot / 2) no_decl) (get_or p.sights (slot - 2 * length p.variables) no_decl)).values) (sym e)
    by false e = let l : length p.variables ≤ slot / 2 = grind (arith, nat_tests) in at_sight l ∙ sizes_at p.sights (slot - 2 * length p.variables) ∙ ap (λ b. length (cond b (get_or p.variables (slot / 2) no_decl) (get_or p.sights (slot - 2 * length p.variables) no_decl)).values) (sym e)

-- The initial belief of a generated text.
use Rattle.std.proofs.Common.{◌≡◌, ℕ, zero, suc, ◌+◌, ◌*◌, ◌<◌, ◌≤◌, ◌==◌, ◌&&◌, ◌||◌, true, false, List, [], ◌∷◌, length, Some, None, refl, sym, ap, ◌∙◌, subst, arith}
use Rattle.std.specs.Prelude.{ℤ, pos, ◌+ℤ◌, ◌≤ℤ◌, codes}
use Rattle.std.proofs.lemmas.Int.{ints}
use Rattle.sp_dd.specs.Floors.{ticks}
use Rattle.sp_spelled.specs.Signs.{tight, space}
use Rattle.sp_spelled.specs.Shapes.{leaf, group}
use Rattle.sp_model.specs.declared.parts.Factor.{Factor}
use Rattle.sp_trees.specs.declared.slots.Slots.{Slots}
use Rattle.sp_trees.specs.declared.env.Dd.{Dd}
use Rattle.sp_trees.specs.declared.env.Env.{Env}
use Rattle.sp_trees.specs.Slots.{none, one, union, has}
use Rattle.sp_trees.proofs.SlotLemmas.{has_one, has_union, has_none}
use Rattle.sp_trees.proofs.ConditionLemmas.{range_all}
use Rattle.sp_checks.specs.declared.roles.Role.TheVariants as role
use Rattle.sp_checks.specs.declared.state.State.{State}
use Rattle.sp_checks.specs.Roles.{allowed_slots}
use Rattle.sp_checks.specs.Initial.{has_every, value_refusal}
use Rattle.sp_written.specs.Acceptance.{mentions_of}
use Rattle.sp_written.specs.Meanings.{constant_dd, AreWritten}
use Rattle.sp_written.proofs.Tests.{sound_values}
use Rattle.sp_written.proofs.Lines.{Leads}
use Rattle.sp_written.proofs.Init.{own_is, IsFactorOk, AreFactorsOk, factors_of, leads_init}
use Rattle.sp_generated.specs.Signs.{variable_name, two_leaves, row_signs, off_signs, gap_behind, opening_signs}
use Rattle.sp_generated.proofs.Facts.{or_true, or_false, and_false, eq_true, eq_false, by_equal, doubled_eq, none_of}
use Rattle.sp_generated.proofs.Words.{spells_half, spells_one, spells_zero}
use Rattle.sp_generated.proofs.Scope.{scope_of, env_of, decls, decls_count, is_scope}
use Rattle.sp_generated.proofs.Choices.{choice, node_holds, constant_holds, choice_whole, sum_is_one}
use Rattle.sp_generated.proofs.Roles.{init_allows}
use Rattle.sp_generated.proofs.Trees.{writes_unprimed, writes_ticks}

module _ (n : ℕ) (few : n ≤ 24) (dds : List (List ℕ × Dd)) where
  abbrev factor : ℕ → ℤ → ℤ → Dd
  factor k a b = choice n few dds (2 * k) a b

  -- variables that are off, from the k-th on
  abbrev pub off_dds : ℕ → ℕ → List Dd
  off_dds k zero = []
  off_dds k (suc m) = factor k (pos 1000000000) (pos 0) ∷ off_dds (suc k) m

  abbrev pub own_lists : ℕ → ℕ → List (List ℕ)
  own_lists k zero = []
  own_lists k (suc m) = (k ∷ []) ∷ own_lists (suc k) m

  -- ---- mentions
  factor_has : (k : ℕ) (a b : ℤ) (slot : ℕ) → has (factor k a b).mentions slot ≡ (2 * k == slot)
  factor_has k a b slot =
      has_union (union (one (2 * k)) none) none slot ∙ ap (λ c. has (union (one (2 * k)) none) slot || c) (has_none slot) ∙ or_false (has (union (one (2 * k)) none) slot)
      ∙ has_union (one (2 * k)) none slot ∙ ap (λ c. has (one (2 * k)) slot || c) (has_none slot) ∙ or_false (has (one (2 * k)) slot) ∙ has_one (2 * k) slot

  -- no slot of a variable from the k-th on is used
  abbrev IsFree : Slots → ℕ → Type 0
  IsFree used k = (i : ℕ) → k ≤ i → has used (2 * i) ≡ false

  free_next : (used : Slots) (k : ℕ) (a b : ℤ) → IsFree used k → IsFree (union used (factor k a b).mentions) (suc k)
  free_next used k a b h i l =
      has_union used (factor k a b).mentions (2 * i) ∙ ap (λ c. c || has (factor k a b).mentions (2 * i)) (h i (omega arith)) ∙ factor_has k a b (2 * i) ∙ eq_false (2 * k) (2 * i) (λ e. omega arith)

  kept : (ds : List Dd) (used : Slots) (slot : ℕ) → has used slot ≡ true → has (mentions_of used ds) slot ≡ true
  kept [] used slot h = h
  kept (d ∷ ds) used slot h = kept ds (union used d.mentions) slot (has_union used d.mentions slot ∙ ap (λ c. c || has d.mentions slot) h)

  here : (used : Slots) (k : ℕ) (a b : ℤ) → has (union used (factor k a b).mentions) (2 * k) ≡ true
  here used k a b =
      has_union used (factor k a b).mentions (2 * k) ∙ ap (λ c. has used (2 * k) || c) (factor_has k a b (2 * k) ∙ eq_true (2 * k) (2 * k) refl) ∙ or_true (has used (2 * k))

  mentioned : (k m i : ℕ) (used : Slots) → k ≤ i → i < k + m → has (mentions_of used (off_dds k m)) (2 * i) ≡ true
  mentioned k zero i used l h = absurd (omega arith)
  mentioned k (suc m) i used l h = by_equal (has (mentions_of used (off_dds k (suc m))) (2 * i) ≡ true) k i
      (λ e. kept (off_dds (suc k) m) (union used (factor k (pos 1000000000) (pos 0)).mentions) (2 * i) (subst (λ j. has (union used (factor k (pos 1000000000) (pos 0)).mentions) (2 * j) ≡ true) e (here used k (pos 1000000000) (pos 0))))
      (λ e. mentioned (suc k) m i (union used (factor k (pos 1000000000) (pos 0)).mentions) (omega arith) (omega arith))

  -- ---- factors
  module _ (k : ℕ) (a b : ℤ) (l : k < n) (sum : (pos 0 +ℤ a) +ℤ b ≡ pos ticks) (low_a : (pos 0 ≤ℤ a) × (a ≤ℤ pos ticks)) (low_b : (pos 0 ≤ℤ b) × (b ≤ℤ pos ticks)) where
    sound : (at : ℕ) → value_refusal at (factor k a b).func (k ∷ []) ≡ None
    sound at = sound_values at (factor k a b).func (k ∷ []) (is_scope n few)
        (node_holds n few dds (λ v. (pos 0 ≤ℤ v) × (v ≤ℤ pos ticks)) (2 * k) (constant_dd (env_of n dds) a) (constant_dd (env_of n dds) b) (omega arith) (constant_holds n few dds (λ v. (pos 0 ≤ℤ v) × (v ≤ℤ pos ticks)) a low_a) (constant_holds n few dds (λ v. (pos 0 ≤ℤ v) × (v ≤ℤ pos ticks)) b low_b))
        (sum_is_one n few dds (2 * k) (omega arith) (factor k a b).func refl (choice_whole n few dds (2 * k) (omega arith) a b sum))

    factor_is : (used : Slots) → IsFree used k → IsFactorOk (length (decls 1 n)) used (factor k a b) (k ∷ [])
    factor_is used free = record {
      apart = none_of (λ i. has used (2 * i) && has (factor k a b).mentions (2 * i)) 0 (length (decls 1 n)) (λ i m h. by_equal _ k i
          (λ e. ap (λ c. c && has (factor k a b).mentions (2 * i)) (free i (omega arith)))
          (λ e. ap (λ c. has used (2 * i) && c) (factor_has k a b (2 * i) ∙ doubled_eq k i ∙ eq_false k i e) ∙ and_false (has used (2 * i))));
      own_of_it = own_is (length (decls 1 n)) (factor k a b).mentions (k ∷ []) (omega arith, tt) ((let c = decls_count 1 n in omega arith), tt)
          (λ i m. factor_has k a b (2 * i) ∙ doubled_eq k i ∙ sym (or_false (k == i)));
      values = sound;
    }

  off_factors : (k m : ℕ) (used : Slots) → k + m ≤ n → IsFree used k → AreFactorsOk (length (decls 1 n)) used (off_dds k m) (own_lists k m)
  off_factors k zero used l free = tt
  off_factors k (suc m) used l free = (
    factor_is k (pos 1000000000) (pos 0) (omega arith) refl ((omega (arith, ints)), (omega (arith, ints))) ((omega (arith, ints)), (omega (arith, ints))) used free,
    off_factors (suc k) m (union used (factor k (pos 1000000000) (pos 0)).mentions) (omega arith) (free_next used k (pos 1000000000) (pos 0) free),
  )

  off_written : (k m : ℕ) → k + m ≤ n → AreWritten (env_of n dds) (allowed_slots (scope_of n) role.Init) 3 (row_signs off_signs (suc k) m) (off_dds k m)
  off_written k zero l = tt
  off_written k (suc m) l = (
    writes_unprimed n few dds (allowed_slots (scope_of n) role.Init) k 1 (leaf (codes "1.0") tight) (leaf (codes "0.0") tight) _ _ (gap_behind m) (omega arith)
        (writes_ticks n few dds (allowed_slots (scope_of n) role.Init) (codes "1.0") (pos 1000000000) tight spells_one) (writes_ticks n few dds (allowed_slots (scope_of n) role.Init) (codes "0.0") (pos 0) tight spells_zero) (init_allows n k (omega arith)),
    off_written (suc k) m (omega arith),
  )

  -- ---- the section
  abbrev pub opening_dds : ℕ → List Dd
  opening_dds m = factor 0 (pos 500000000) (pos 500000000) ∷ off_dds 1 m

  abbrev pub opening_factors : ℕ → List Factor
  opening_factors m = factors_of (opening_dds m) ((0 ∷ []) ∷ own_lists 1 m)

  all_mentioned : (m : ℕ) → n ≡ suc m → has_every (length (decls 1 n)) (mentions_of none (opening_dds m)) ≡ true
  all_mentioned m same = range_all _ 0 (length (decls 1 n)) (λ i l h. by_equal _ 0 i
      (λ e. kept (off_dds 1 m) (union none (factor 0 (pos 500000000) (pos 500000000)).mentions) (2 * i) (subst (λ j. has (union none (factor 0 (pos 500000000) (pos 500000000)).mentions) (2 * j) ≡ true) e (here none 0 (pos 500000000) (pos 500000000))))
      (λ e. mentioned 1 m i (union none (factor 0 (pos 500000000) (pos 500000000)).mentions) (omega arith) (let c = decls_count 1 n in omega arith)))

  module _ (s : State) (env : s.env ≡ env_of n dds) (new : s.init ≡ None) (m : ℕ) (same : n ≡ suc m) where
    written : AreWritten (env_of n dds) (allowed_slots (scope_of n) role.Init) 3 (group (variable_name 1) (two_leaves (codes "0.5") (codes "0.5")) space ∷ row_signs off_signs 2 m) (opening_dds m)
    written = (
      writes_unprimed n few dds (allowed_slots (scope_of n) role.Init) 0 1 (leaf (codes "0.5") tight) (leaf (codes "0.5") tight) _ _ space (omega arith)
          (writes_ticks n few dds (allowed_slots (scope_of n) role.Init) (codes "0.5") (pos 500000000) tight spells_half) (writes_ticks n few dds (allowed_slots (scope_of n) role.Init) (codes "0.5") (pos 500000000) tight spells_half) (init_allows n 0 (omega arith)),
      off_written 1 m (omega arith),
    )

    sound_factors : AreFactorsOk (length (decls 1 n)) none (opening_dds m) ((0 ∷ []) ∷ own_lists 1 m)
    sound_factors = (
      factor_is 0 (pos 500000000) (pos 500000000) (omega arith) refl ((omega (arith, ints)), (omega (arith, ints))) ((omega (arith, ints)), (omega (arith, ints))) none (λ i l. has_none (2 * i)),
      off_factors 1 m (union none (factor 0 (pos 500000000) (pos 500000000)).mentions) (omega arith) (free_next none 0 (pos 500000000) (pos 500000000) (λ i l. has_none (2 * i))),
    )

    pub leads_opening : Leads s (record s { init = Some (opening_factors m) }) 4 (opening_signs (variable_name 1) m)
    leads_opening = leads_init s 3 (group (variable_name 1) (two_leaves (codes "0.5") (codes "0.5")) space ∷ row_signs off_signs 2 m) (factor 0 (pos 500000000) (pos 500000000)) (off_dds 1 m) ((0 ∷ []) ∷ own_lists 1 m) new
        (subst (λ (e : Env). AreWritten e (allowed_slots e.scope role.Init) 3 (group (variable_name 1) (two_leaves (codes "0.5") (codes "0.5")) space ∷ row_signs off_signs 2 m) (opening_dds m)) (sym env) written)
        (subst (λ (e : Env). AreFactorsOk e.scope.variables none (opening_dds m) ((0 ∷ []) ∷ own_lists 1 m)) (sym env) sound_factors)
        (subst (λ (e : Env). has_every e.scope.variables (mentions_of none (opening_dds m)) ≡ true) (sym env) (all_mentioned m same))

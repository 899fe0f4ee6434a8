-- Functions that choose by a slot of two values.
use Rattle.std.proofs.Common.{◌≡◌, ◌≢◌, ℕ, zero, suc, ◌+◌, ◌*◌, ◌<◌, ◌≤◌, List, [], ◌∷◌, get_or, set, refl, sym, ap, ◌∙◌, subst, arith}
use Rattle.std.specs.Prelude.{ℤ, pos, ◌+ℤ◌}
use Rattle.std.proofs.lemmas.List.{get_or-set_other, get_or-set_same}
use Rattle.sp_dd.specs.Floors.{ticks, sum_to}
use Rattle.sp_dd.specs.Points.{IsPoint, product}
use Rattle.sp_dd.specs.Func.{Func, IsScope, Everywhere, value_of, size_of}
use Rattle.sp_dd.specs.Operations.{everywhere, summed_out}
use Rattle.sp_dd.proofs.FuncLemmas.{scope_some, value_of-function_of, IsPoint-with}
use Rattle.sp_rows.proofs.RowLemmas.{length-point}
use Rattle.sp_rows.proofs.KeptLemmas.{coordinate}
use Rattle.sp_trees.specs.declared.env.Dd.{Dd}
use Rattle.sp_trees.specs.declared.env.Env.{Env}
use Rattle.sp_written.specs.Acceptance.{branched_dd}
use Rattle.sp_written.specs.Meanings.{constant_dd}
use Rattle.sp_generated.proofs.Scope.{scope_of, env_of, slots_count, size_at, is_scope}

module _ (n : ℕ) (few : n ≤ 24) (dds : List (List ℕ × Dd)) where
  abbrev pub the_env : Env
  the_env = env_of n dds

  abbrev sizes : List ℕ
  sizes = (scope_of n).sizes

  some : 0 < product sizes
  some = scope_some (scope_of n) (is_scope n few)

  abbrev pub node_of : ℕ → Dd → Dd → Dd
  node_of slot a b = branched_dd the_env slot (a ∷ b ∷ [])

  abbrev pub choice : ℕ → ℤ → ℤ → Dd
  choice slot a b = node_of slot (constant_dd the_env a) (constant_dd the_env b)

  abbrev pub IsOfScope : Dd → Type 0
  IsOfScope d = d.func.shape ≡ scope_of n

  pub constant_value : (z : ℤ) (x : List ℕ) → IsPoint sizes x → value_of (constant_dd the_env z).func x ≡ z
  constant_value z x p = value_of-function_of (scope_of n) (λ y. z) x some p

  -- ---- values
  pub first_value : (slot : ℕ) (a b : Dd) (x : List ℕ) → IsPoint sizes x → get_or x slot 0 ≡ 0 → value_of (node_of slot a b).func x ≡ value_of a.func x
  first_value slot a b x p e =
      value_of-function_of (scope_of n) (λ y. value_of (get_or (a.func ∷ b.func ∷ []) (get_or y slot 0) (everywhere (scope_of n) (pos 0))) y) x some p
      ∙ ap (λ v. value_of (get_or (a.func ∷ b.func ∷ []) v (everywhere (scope_of n) (pos 0))) x) e

  pub second_value : (slot : ℕ) (a b : Dd) (x : List ℕ) → IsPoint sizes x → get_or x slot 0 ≡ 1 → value_of (node_of slot a b).func x ≡ value_of b.func x
  second_value slot a b x p e =
      value_of-function_of (scope_of n) (λ y. value_of (get_or (a.func ∷ b.func ∷ []) (get_or y slot 0) (everywhere (scope_of n) (pos 0))) y) x some p
      ∙ ap (λ v. value_of (get_or (a.func ∷ b.func ∷ []) v (everywhere (scope_of n) (pos 0))) x) e

  -- a slot has one of two values
  pub by_value : (P : Type 0) (slot : ℕ) (x : List ℕ) → slot < 2 * n + 1 → IsPoint sizes x → (get_or x slot 0 ≡ 0 → P) → (get_or x slot 0 ≡ 1 → P) → P
  by_value P slot x l p zero_case one_case = go (get_or x slot 0) refl
    where
      go : (v : ℕ) → get_or x slot 0 ≡ v → P
      go zero e = zero_case e
      go (suc zero) e = one_case e
      go (suc (suc v)) e =
          let count = slots_count n in
          let low = coordinate sizes x slot p (omega arith) in
          let two = size_at n slot l in absurd (omega arith)

  -- what holds of both parts' values
  pub node_holds : (P : ℤ → Type 0) (slot : ℕ) (a b : Dd) → slot < 2 * n + 1 → ((x : List ℕ) → IsPoint sizes x → P (value_of a.func x)) → ((x : List ℕ) → IsPoint sizes x → P (value_of b.func x)) → Everywhere (node_of slot a b).func P
  node_holds P slot a b l h k x p =
      by_value (P (value_of (node_of slot a b).func x)) slot x l p (λ e. subst P (sym (first_value slot a b x p e)) (h x p)) (λ e. subst P (sym (second_value slot a b x p e)) (k x p))

  pub constant_holds : (P : ℤ → Type 0) (z : ℤ) → P z → (x : List ℕ) → IsPoint sizes x → P (value_of (constant_dd the_env z).func x)
  constant_holds P z h x p = subst P (sym (constant_value z x p)) h

  -- ---- rows
  -- the two values over a slot sum to one
  abbrev pub IsWhole : ℕ → Func → Type 0
  IsWhole slot f = (x : List ℕ) → IsPoint sizes x → (pos 0 +ℤ value_of f (set x slot 0)) +ℤ value_of f (set x slot 1) ≡ pos ticks

  module _ (slot : ℕ) (l : slot < 2 * n + 1) where
    pub with_slot : (x : List ℕ) (v : ℕ) → v < 2 → IsPoint sizes x → IsPoint sizes (set x slot v)
    with_slot x v m p = let two = size_at n slot l in IsPoint-with sizes x slot v p (omega arith)

    slot_set : (x : List ℕ) (v : ℕ) → IsPoint sizes x → get_or (set x slot v) slot 0 ≡ v
    slot_set x v p = let long = length-point sizes x p in let count = slots_count n in get_or-set_same x slot v 0 (omega arith)

    pub choice_whole : (a b : ℤ) → (pos 0 +ℤ a) +ℤ b ≡ pos ticks → IsWhole slot (choice slot a b).func
    choice_whole a b e x p =
        let low : value_of (choice slot a b).func (set x slot 0) ≡ a =
        first_value slot (constant_dd the_env a) (constant_dd the_env b) (set x slot 0) (with_slot x 0 (omega arith) p) (slot_set x 0 p) ∙ constant_value a (set x slot 0) (with_slot x 0 (omega arith) p) in
        let high : value_of (choice slot a b).func (set x slot 1) ≡ b =
        second_value slot (constant_dd the_env a) (constant_dd the_env b) (set x slot 1) (with_slot x 1 (omega arith) p) (slot_set x 1 p) ∙ constant_value b (set x slot 1) (with_slot x 1 (omega arith) p) in
        (λ i. (pos 0 +ℤ low i) +ℤ high i) ∙ e

    pub constant_whole : (z : ℤ) → (pos 0 +ℤ z) +ℤ z ≡ pos ticks → IsWhole slot (constant_dd the_env z).func
    constant_whole z e x p =
        (λ i. (pos 0 +ℤ constant_value z (set x slot 0) (with_slot x 0 (omega arith) p) i) +ℤ constant_value z (set x slot 1) (with_slot x 1 (omega arith) p) i) ∙ e

    -- a choice by another slot
    pub node_whole : (outer : ℕ) (a b : Dd) → outer < 2 * n + 1 → outer ≢ slot → IsWhole slot a.func → IsWhole slot b.func → IsWhole slot (node_of outer a b).func
    node_whole outer a b m apart h k x p = by_value _ outer x m p
        (λ e. (λ i. (pos 0 +ℤ first_value outer a b (set x slot 0) (with_slot x 0 (omega arith) p) (kept 0 ∙ e) i) +ℤ first_value outer a b (set x slot 1) (with_slot x 1 (omega arith) p) (kept 1 ∙ e) i) ∙ h x p)
        (λ e. (λ i. (pos 0 +ℤ second_value outer a b (set x slot 0) (with_slot x 0 (omega arith) p) (kept 0 ∙ e) i) +ℤ second_value outer a b (set x slot 1) (with_slot x 1 (omega arith) p) (kept 1 ∙ e) i) ∙ k x p)
      where
        kept : (v : ℕ) → get_or (set x slot v) outer 0 ≡ get_or x outer 0
        kept v = get_or-set_other x slot outer v 0 apart

    -- so the sum over the slot is one
    pub sum_is_one : (f : Func) → f.shape ≡ scope_of n → IsWhole slot f → Everywhere (summed_out f slot) (λ v. v ≡ pos ticks)
    sum_is_one f shape whole x p =
        let q : IsPoint sizes x = subst (λ s. IsPoint s.sizes x) shape p in
        let two : size_of f.shape slot ≡ 2 = ap (λ s. get_or s.sizes slot 0) shape ∙ size_at n slot l in
        value_of-function_of f.shape (λ y. sum_to (size_of f.shape slot) (λ v. value_of f (set y slot v))) x (scope_some f.shape (subst IsScope (sym shape) (is_scope n few))) p
        ∙ ap (λ k. sum_to k (λ v. value_of f (set x slot v))) two ∙ whole x q

-- The functions of a model mention what their places allow, and can be written.
use Rattle.std.proofs.Common.{◌≡◌, ◌≢◌, ℕ, ◌+◌, ◌-◌, ◌*◌, ◌/◌, ◌%◌, ◌^◌, ◌<◌, ◌≤◌, ◌==◌, ◌&&◌, ◌||◌, Bool, true, false, length, set, refl, sym, ap, ◌∙◌, subst, arith}
use Rattle.std.specs.Prelude.{ℤ, pos, negsuc, ◌*ℤ◌, ◌≤ℤ◌, unsigned_abs, nat_lt, nat_le, nat_eq}
use Rattle.std.proofs.lemmas.Int.{ints}
use Rattle.std.proofs.lemmas.Bool.Decides.{nat_tests, Decides-eqb}
use Rattle.sp_dd.specs.Floors.{ticks}
use Rattle.sp_dd.specs.Func.{Func, IsScope, IsFunc, IsIndependentOf, DependsOn, value_of}
use Rattle.sp_dd.specs.Operations.{scalar_multiple}
use Rattle.sp_dd.proofs.FuncLemmas.{scope_some, value_of-function_of, IsFunc-function_of, IsPoint-with}
use Rattle.sp_model.specs.declared.parts.Factor.{Factor}
use Rattle.sp_model.specs.declared.parts.Parts.{Parts}
use Rattle.sp_model.specs.Problem.{shape_of}
use Rattle.sp_model.specs.Kept.{IsModel, IsTransitionTable, IsSight, IsReward, IsFactor, IsProbability}
use Rattle.sp_rows.specs.declared.tables.Table.TheVariants as table
use Rattle.sp_checks.specs.declared.roles.Role.{Role}
use Rattle.sp_checks.specs.declared.roles.Role.TheVariants as role
use Rattle.sp_checks.specs.Roles.{may_mention}
use Rattle.sp_read_back.proofs.Slots.{n, scope_is}
use Rattle.sp_read_back.proofs.Functions.{IsShown, MayMention}

below : (a b : ℕ) → a < b → nat_lt a b ≡ true
below a b h = grind (arith, nat_tests)

at_most : (a b : ℕ) → a ≤ b → nat_le a b ≡ true
at_most a b h = grind (arith, nat_tests)

or_true : (b : Bool) → (b || true) ≡ true
or_true true = refl
or_true false = refl

both : (a b : Bool) → a ≡ true → b ≡ true → (a && b) ≡ true
both a b h k = (λ i. h i && k i)

dependent : (f : Func) (slot : ℕ) → DependsOn f slot → IsIndependentOf f slot → ⊥
dependent f slot d free = d.apart (free d.point d.other d.inside d.within)

share_small : (v : ℤ) → (pos 0 ≤ℤ v) × (v ≤ℤ pos ticks) → unsigned_abs v ≤ 10 ^ 18
share_small v h = let low = h.0 in let high = h.1 in grind (arith, ints)

negative_small : (v : ℤ) → unsigned_abs v ≤ 10 ^ 15 → unsigned_abs (negsuc 0 *ℤ v) ≤ 10 ^ 18
negative_small v h = grind (arith, ints)

module _ (p : Parts) (m : IsModel p) where
  by_slot : (P : ℕ → Type 0) (slot : ℕ) → slot < length (shape_of p).sizes → ((i : ℕ) → i < n p m → P (2 * i)) → ((i : ℕ) → i < n p m → P (2 * i + 1)) → ((j : ℕ) → 2 * n p m + j < length (shape_of p).sizes → P (2 * n p m + j)) → P slot
  by_slot P slot l h k o = go (nat_lt slot (2 * n p m)) refl (nat_eq (slot % 2) 0) refl
    where
      go : (b : Bool) → nat_lt slot (2 * n p m) ≡ b → (c : Bool) → nat_eq (slot % 2) 0 ≡ c → P slot
      go true e true f =
          let low : slot < 2 * n p m = grind (arith, nat_tests) in
          let even : slot % 2 ≡ 0 = grind (arith, nat_tests) in
          let same : 2 * (slot / 2) ≡ slot = omega arith in subst P same (h (slot / 2) (omega arith))
      go true e false f =
          let low : slot < 2 * n p m = grind (arith, nat_tests) in
          let odd : slot % 2 ≢ 0 = grind (arith, nat_tests) in
          let same : 2 * (slot / 2) + 1 ≡ slot = omega arith in subst P same (k (slot / 2) (omega arith))
      go false e c f =
          let high : 2 * n p m ≤ slot = grind (arith, nat_tests) in
          let same : 2 * n p m + (slot - 2 * n p m) ≡ slot = omega arith in subst P same (o (slot - 2 * n p m) (omega arith))

  even_is : (k : ℕ) → ((2 * k) % 2 == 0) ≡ true
  even_is k = let e : (2 * k) % 2 ≡ 0 = omega arith in (Decides-eqb ((2 * k) % 2) 0).1 e

  odd_is : (k : ℕ) → ((2 * k + 1) % 2 == 1) ≡ true
  odd_is k = let e : (2 * k + 1) % 2 ≡ 1 = omega arith in (Decides-eqb ((2 * k + 1) % 2) 1).1 e

  abbrev Mentions : Role → Func → ℕ → Type 0
  Mentions r f slot = DependsOn f slot → may_mention (n p m) r slot ≡ true

  pub init_mentions : (f : Factor) → IsFactor (shape_of p) f → MayMention p m role.Init f.func
  init_mentions f is slot l = by_slot (Mentions role.Init f.func) slot l
      (λ i h d. both (nat_lt (2 * i) (2 * n p m)) ((2 * i) % 2 == 0) (below (2 * i) (2 * n p m) (omega arith)) (even_is i))
      (λ i h d. absurd (dependent f.func (2 * i + 1) d (is.not_primed i h)))
      (λ j h d. absurd (dependent f.func (2 * n p m + j) d (is.not_seen j h)))

  pub move_mentions : (k : ℕ) (f : Func) → IsTransitionTable (shape_of p) k f → MayMention p m (role.Table (table.Move k)) f
  move_mentions k f is slot l = by_slot (Mentions (role.Table (table.Move k)) f) slot l
      (λ i h d. both (nat_lt (2 * i) (2 * n p m)) ((2 * i) % 2 == 0 || nat_le (2 * i) (2 * k + 1)) (below (2 * i) (2 * n p m) (omega arith)) (ap (λ b. b || nat_le (2 * i) (2 * k + 1)) (even_is i)))
      (λ i h d. earlier i h d (nat_lt k i) refl)
      (λ j h d. absurd (dependent f (2 * n p m + j) d (is.not_seen j h)))
    where
      earlier : (i : ℕ) → i < n p m → DependsOn f (2 * i + 1) → (b : Bool) → nat_lt k i ≡ b → may_mention (n p m) (role.Table (table.Move k)) (2 * i + 1) ≡ true
      earlier i h d true e = let less : k < i = grind (arith, nat_tests) in absurd (dependent f (2 * i + 1) d (is.not_later i less h))
      earlier i h d false e =
          let le : i ≤ k = grind (arith, nat_tests) in
          both (nat_lt (2 * i + 1) (2 * n p m)) ((2 * i + 1) % 2 == 0 || nat_le (2 * i + 1) (2 * k + 1)) (below (2 * i + 1) (2 * n p m) (omega arith))
          (ap (λ b. (2 * i + 1) % 2 == 0 || b) (at_most (2 * i + 1) (2 * k + 1) (omega arith)) ∙ or_true ((2 * i + 1) % 2 == 0))

  pub sight_mentions : (k : ℕ) (f : Func) → IsSight (shape_of p) k f → MayMention p m (role.Table (table.Sight k)) f
  sight_mentions k f is slot l = by_slot (Mentions (role.Table (table.Sight k)) f) slot l
      (λ i h d. absurd (dependent f (2 * i) d (is.not_unprimed i h)))
      (λ i h d. ap (λ b. b || 2 * i + 1 == 2 * n p m + k) (both (nat_lt (2 * i + 1) (2 * n p m)) ((2 * i + 1) % 2 == 1) (below (2 * i + 1) (2 * n p m) (omega arith)) (odd_is i)))
      (λ j h d. own j h d (j == k) refl)
    where
      own : (j : ℕ) → 2 * n p m + j < length (shape_of p).sizes → DependsOn f (2 * n p m + j) → (b : Bool) → (j == k) ≡ b → may_mention (n p m) (role.Table (table.Sight k)) (2 * n p m + j) ≡ true
      own j h d true e =
          let same : 2 * n p m + j ≡ 2 * n p m + k = (let is : j ≡ k = (Decides-eqb j k).0 e in omega arith) in
          ap (λ b. (nat_lt (2 * n p m + j) (2 * n p m) && (2 * n p m + j) % 2 == 1) || b) ((Decides-eqb (2 * n p m + j) (2 * n p m + k)).1 same) ∙ or_true (nat_lt (2 * n p m + j) (2 * n p m) && (2 * n p m + j) % 2 == 1)
      own j h d false e = let other : j ≢ k = grind (arith, nat_tests) in absurd (dependent f (2 * n p m + j) d (is.not_others j other h))

  -- the negative of a function depends on what the function depends on
  free_negative : (f : Func) (slot : ℕ) → f.shape ≡ shape_of p → slot < length (shape_of p).sizes → IsIndependentOf f slot → IsIndependentOf (scalar_multiple f (negsuc 0)) slot
  free_negative f slot shape l free x v q h =
      let scope : IsScope f.shape = subst IsScope (sym shape) (scope_is p m) in
      value_of-function_of f.shape (λ y. negsuc 0 *ℤ value_of f y) (set x slot v) (scope_some f.shape scope) (IsPoint-with f.shape.sizes x slot v q h)
      ∙ ap (λ z. negsuc 0 *ℤ z) (free x v q h) ∙ sym (value_of-function_of f.shape (λ y. negsuc 0 *ℤ value_of f y) x (scope_some f.shape scope) q)

  pub cost_mentions : (f : Func) → IsReward (shape_of p) f → MayMention p m role.Reward (scalar_multiple f (negsuc 0))
  cost_mentions f is slot l = by_slot (Mentions role.Reward (scalar_multiple f (negsuc 0))) slot l
      (λ i h d. below (2 * i) (2 * n p m) (omega arith))
      (λ i h d. below (2 * i + 1) (2 * n p m) (omega arith))
      (λ j h d. absurd (dependent (scalar_multiple f (negsuc 0)) (2 * n p m + j) d (free_negative f (2 * n p m + j) is.shape h (is.not_seen j h))))

  -- ---- functions that can be written
  pub table_shown : (f : Func) → f.shape ≡ shape_of p → IsProbability f → IsFunc f → IsShown p m f
  table_shown f shape shares func = record { shape = shape; small = λ x q. share_small (value_of f x) (shares x q); func = func }

  pub cost_shown : (f : Func) → IsReward (shape_of p) f → IsShown p m (scalar_multiple f (negsuc 0))
  cost_shown f is =
      let scope : IsScope f.shape = subst IsScope (sym is.shape) (scope_is p m) in
      record {
        shape = is.shape;
        small = λ x q. subst (λ v. unsigned_abs v ≤ 10 ^ 18) (sym (value_of-function_of f.shape (λ y. negsuc 0 *ℤ value_of f y) x (scope_some f.shape scope) q)) (negative_small (value_of f x) (is.small x q));
        func = IsFunc-function_of f.shape (λ y. negsuc 0 *ℤ value_of f y) scope;
      }

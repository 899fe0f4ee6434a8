-- The functions of a lawful model aren't refused by their values.
use Rattle.std.proofs.Common.{◌≡◌, ℕ, ◌+◌, ◌*◌, ◌≤◌, true, List, None, sym, ap, ◌∙◌, subst, arith, set}
use Rattle.std.specs.Prelude.{ℤ, pos, negsuc, neg_ℤ, ◌+ℤ◌, ◌*ℤ◌, ◌≤ℤ◌, unsigned_abs}
use Rattle.std.proofs.lemmas.Int.{ints}
use Rattle.sp_dd.specs.Floors.{ticks, sum_to}
use Rattle.sp_dd.specs.Points.{IsPoint}
use Rattle.sp_dd.specs.Func.{Shape, Func, IsScope, IsFunc, IsPointOf, Everywhere, value_of, size_of}
use Rattle.sp_dd.specs.Operations.{everywhere, scalar_multiple, summed_out, IsRow}
use Rattle.sp_dd.proofs.FuncLemmas.{scope_some, value_of-function_of, same_everywhere, IsFunc-function_of}
use Rattle.sp_model.specs.declared.parts.Factor.{Factor}
use Rattle.sp_model.specs.Kept.{most_reward, IsTransitionTable, IsSight, IsReward, IsFactor}
use Rattle.sp_rows.specs.declared.tables.Table.TheVariants as table
use Rattle.sp_rows.specs.Tables.{is_reward, less}
use Rattle.sp_checks.specs.Accepted.{table_refusal}
use Rattle.sp_checks.specs.Initial.{value_refusal}
use Rattle.sp_written.proofs.Tests.{within_true, sound_table, sound_values}

-- rows that sum to one
row_sums : (f : Func) (slot : ℕ) → IsScope f.shape → IsRow f slot → Everywhere (summed_out f slot) (λ v. v ≡ pos ticks)
row_sums f slot scope row x p = value_of-function_of f.shape (λ y. sum_to (size_of f.shape slot) (λ v. value_of f (set y slot v))) x (scope_some f.shape scope) p ∙ row.whole x p

module _ (s : Shape) (scope : IsScope s) where
  same_scope : (f : Func) → f.shape ≡ s → IsScope f.shape
  same_scope f shape = subst IsScope (sym shape) scope

  -- a table of a variable
  pub sound_move : (n action i at : ℕ) (f : Func) → IsTransitionTable s i f → table_refusal n action (table.Move i) at f ≡ None
  sound_move n action i at f is = sound_table n action (table.Move i) at f (same_scope f is.shape) is.probability (row_sums f (2 * i + 1) (same_scope f is.shape) is.row)

  -- a table of an observation variable
  pub sound_sight : (n action j at : ℕ) (f : Func) → IsSight s j f → table_refusal n action (table.Sight j) at f ≡ None
  sound_sight n action j at f is = sound_table n action (table.Sight j) at f (same_scope f is.shape) is.probability
      (row_sums f (2 * f.shape.variables + j) (same_scope f is.shape) (subst (λ (t : Shape). IsRow f (2 * t.variables + j)) (sym is.shape) is.row))

  -- a factor
  pub sound_factor : (at : ℕ) (f : Factor) → IsFactor s f → value_refusal at f.func f.own ≡ None
  sound_factor at f is = sound_values at f.func f.own (same_scope f.func is.shape) is.probability is.whole

  within_most : (v : ℤ) → unsigned_abs v ≤ most_reward → (neg_ℤ (pos most_reward) ≤ℤ v) × (v ≤ℤ pos most_reward)
  within_most v h = ((grind (arith, ints)), (grind (arith, ints)))

  -- a reward
  pub sound_reward : (f : Func) → IsReward s f → is_reward f ≡ true
  sound_reward f is = within_true (neg_ℤ (pos most_reward)) (pos most_reward) f (same_scope f is.shape) (λ x p. within_most (value_of f x) (is.small x p))

  twice_negative : (v : ℤ) → pos 0 +ℤ (negsuc 0 *ℤ (negsuc 0 *ℤ v)) ≡ v
  twice_negative v = omega (arith, ints)

  -- no reward less the negative of a function is the function
  pub less_negative : (f : Func) → f.shape ≡ s → IsFunc f → less (everywhere s (pos 0)) (scalar_multiple f (negsuc 0)) ≡ f
  less_negative f shape is =
      same_everywhere (less (everywhere s (pos 0)) (scalar_multiple f (negsuc 0))) f scope (IsFunc-function_of s _ scope) is (sym shape)
      (λ x p. value_of-function_of s (λ y. value_of (everywhere s (pos 0)) y +ℤ value_of (scalar_multiple (scalar_multiple f (negsuc 0)) (negsuc 0)) y) x (scope_some s scope) p
      ∙ (λ k. value_of-function_of s (λ y. pos 0) x (scope_some s scope) p k +ℤ scaled_twice x p k) ∙ twice_negative (value_of f x))
    where
      scaled_twice : (x : List ℕ) → IsPoint s.sizes x → value_of (scalar_multiple (scalar_multiple f (negsuc 0)) (negsuc 0)) x ≡ negsuc 0 *ℤ (negsuc 0 *ℤ value_of f x)
      scaled_twice x p =
          let own = same_scope f shape in
          let q : IsPointOf f x = subst (λ (t : Shape). IsPoint t.sizes x) (sym shape) p in
          value_of-function_of f.shape (λ y. negsuc 0 *ℤ value_of (scalar_multiple f (negsuc 0)) y) x (scope_some f.shape own) q
          ∙ ap (λ v. negsuc 0 *ℤ v) (value_of-function_of f.shape (λ y. negsuc 0 *ℤ value_of f y) x (scope_some f.shape own) q)

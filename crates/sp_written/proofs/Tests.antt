-- Tests of all values of a function, which pass.
use Rattle.std.proofs.Common.{◌≡◌, ℕ, true, ◌&&◌, List, None, sym, ap, ◌∙◌, subst, arith}
use Rattle.std.specs.Prelude.{ℤ, pos, neg_ℤ, ◌≤ℤ◌, int_le, option_map}
use Rattle.std.proofs.lemmas.Int.{ints}
use Rattle.sp_dd.specs.Floors.{ticks}
use Rattle.sp_dd.specs.Func.{Func, IsScope, Everywhere, value_of}
use Rattle.sp_dd.specs.Operations.{summed_out}
use Rattle.sp_model.specs.Kept.{summed_out_own}
use Rattle.sp_model.proofs.InitialLaw.{summed_out_own-shape}
use Rattle.sp_rows.specs.declared.tables.Table.{Table}
use Rattle.sp_rows.specs.Tables.{is_within, first_apart, slot_of, row_at}
use Rattle.sp_rows.proofs.LeafLemmas.{all_pass, apart_is}
use Rattle.sp_trees.proofs.ConditionLemmas.{all_from}
use Rattle.sp_trees.specs.Conditions as conditions
use Rattle.sp_checks.specs.Accepted.{table_refusal, table_refusal_by, row_refusal}
use Rattle.sp_checks.specs.Initial.{value_refusal, value_refusal_by, sum_refusal}

between : (low high v : ℤ) → low ≤ℤ v → v ≤ℤ high → (int_le low v && int_le v high) ≡ true
between low high v l h = grind (arith, ints)

-- no value lies outside of two numbers
pub within_true : (low high : ℤ) (f : Func) → IsScope f.shape → Everywhere f (λ v. (low ≤ℤ v) × (v ≤ℤ high)) → is_within low high f ≡ true
within_true low high f scope h = all_pass f scope (λ v. int_le low v && int_le v high) (λ x p. let b = h x p in between low high (value_of f x) b.0 b.1)

-- no partial result is too large
pub small_true : (most : ℕ) (f : Func) → IsScope f.shape → Everywhere f (λ v. (neg_ℤ (pos most) ≤ℤ v) × (v ≤ℤ pos most)) → conditions.is_within most f ≡ true
small_true most f scope h = all_from (λ v. int_le (neg_ℤ (pos most)) v && int_le v (pos most)) f scope (λ x p. let b = h x p in between (neg_ℤ (pos most)) (pos most) (value_of f x) b.0 b.1)

-- no value is another number
pub none_apart : (f : Func) (v : ℤ) → IsScope f.shape → Everywhere f (λ u. u ≡ v) → first_apart f v ≡ None
none_apart f v scope h = sym (apart_is f v None scope h)

-- a table of shares whose rows sum to one isn't refused
pub sound_table : (n action : ℕ) (t : Table) (at : ℕ) (f : Func) → IsScope f.shape → Everywhere f (λ v. (pos 0 ≤ℤ v) × (v ≤ℤ pos ticks)) → Everywhere (summed_out f (slot_of f.shape.variables t)) (λ v. v ≡ pos ticks)
    → table_refusal n action t at f ≡ None
unfolding table_refusal
sound_table n action t at f scope shares whole =
    ap (table_refusal_by n action t at f) (within_true (pos 0) (pos ticks) f scope shares)
    ∙ ap (row_refusal n action t at) (ap (option_map (row_at f.shape t (summed_out f (slot_of f.shape.variables t)))) (none_apart (summed_out f (slot_of f.shape.variables t)) (pos ticks) scope whole))

-- a factor of shares that sum to one over its own variables isn't refused
pub sound_values : (at : ℕ) (f : Func) (own : List ℕ) → IsScope f.shape → Everywhere f (λ v. (pos 0 ≤ℤ v) × (v ≤ℤ pos ticks)) → Everywhere (summed_out_own f own) (λ v. v ≡ pos ticks) → value_refusal at f own ≡ None
unfolding value_refusal
sound_values at f own scope shares whole =
    ap (value_refusal_by at f own) (within_true (pos 0) (pos ticks) f scope shares)
    ∙ ap (sum_refusal at) (ap (option_map (value_of (summed_out_own f own))) (none_apart (summed_out_own f own) (pos ticks) (subst IsScope (sym (summed_out_own-shape f own)) scope) whole))

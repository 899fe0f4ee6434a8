-- Functions of states as lists.
use Rattle.std.specs.Prelude.{◌≡◌, ℕ, zero, suc, ◌+◌, ◌-◌, ◌<◌, List, [], ◌∷◌, ◌++◌, length, map, get_or, slice_index_or, drop, ℤ, pos, ◌+ℤ◌, ◌*ℤ◌, unsigned_abs, cond, ◌==◌, not, count_by, All}
use Rattle.std.specs.Ordering.{int_eq}
use Rattle.std.specs.List.{range_with_len}
use Rattle.sp_dd.specs.Points.{place, state_widths}
use Rattle.sp_dd.specs.Func.{Shape, Func, IsScope, function_of, value_of, state_count, state_at}
use Rattle.sp_states.specs.declared.support.Entry.{Entry}

-- how many values states give to each slot: its size for an unprimed state slot, and 1 for each other slot
abbrev pub widths_of : Shape → List ℕ
widths_of s = state_widths s.variables s.sizes

-- the number of a point's state
abbrev pub state_number : Shape → List ℕ → ℕ
state_number s x = place (widths_of s) x

-- ---- tables
-- the function with these values, by the numbers of states
abbrev pub function_of_values : Shape → List ℤ → Func
function_of_values s vs = function_of s (λ x. slice_index_or vs (state_number s x) (pos 0))

-- a value for each state
pub record IsValueList (s : Shape) (vs : List ℤ) : Type 0 where
  pub scope : IsScope s
  pub count : length vs ≡ state_count s

-- ---- states of weight
-- the weight that entries give a state
unfoldable pub weight_in : List Entry → ℕ → ℕ
weight_in [] k = 0
weight_in (e ∷ es) k = cond (e.state == k) e.weight 0 + weight_in es k

-- the function with these weights
abbrev pub function_of_weights : Shape → List Entry → Func
function_of_weights s es = function_of s (λ x. pos (weight_in es (state_number s x)))

-- entries of states
pub record AreEntries (s : Shape) (es : List Entry) : Type 0 where
  pub scope : IsScope s
  pub states : All (λ e. e.state < state_count s) es

-- the values of a function by the numbers of states
abbrev pub state_values : Func → List ℤ
state_values f = map (λ k. value_of f (state_at f.shape k)) (range_with_len 0 (state_count f.shape))

-- at how many states it isn't 0
abbrev pub support_count : Func → ℕ
support_count f = count_by (λ z. not (int_eq z (pos 0))) (state_values f)

-- ---- in the order of states
-- the lists of the first n numbers, one after another
abbrev pub joined_to : ℕ → (ℕ → List ℤ) → List ℤ
joined_to zero g = []
joined_to (suc n) g = joined_to n g ++ g n

-- the values at all points of these widths
unfoldable pub values_at_points : List ℕ → (List ℕ → ℤ) → List ℤ
values_at_points [] φ = φ [] ∷ []
values_at_points (w ∷ ws) φ = joined_to w (λ v. values_at_points ws (λ p. φ (v ∷ p)))

-- a point of the slots from `lo` on
abbrev pub point_from : ℕ → List ℕ → ℕ → ℕ
point_from lo p = λ s. get_or p (s - lo) 0

-- the values at all states of the slots from `lo` on
unfoldable pub values_over : List ℕ → ℕ → ((ℕ → ℕ) → ℤ) → List ℤ
values_over ws lo ψ = values_at_points (drop lo ws) (λ p. ψ (point_from lo p))

-- the entries of values that aren't 0, of the states from number b on
unfoldable pub entries_from : ℕ → List ℤ → List Entry
entries_from b [] = []
entries_from b (z ∷ zs) = cond (int_eq z (pos 0)) (entries_from (suc b) zs) (record { state = b; weight = unsigned_abs z } ∷ entries_from (suc b) zs)

-- the sum of weights times the values of their states
unfoldable pub entry_dot : List Entry → (ℕ → ℤ) → ℤ
entry_dot [] f = pos 0
entry_dot (e ∷ es) f = pos e.weight *ℤ f e.state +ℤ entry_dot es f

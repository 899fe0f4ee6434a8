-- The values of a function at all states, and the functions that a list and a table have.
use Rattle.std.proofs.Common.{◌≡◌, ◌≢◌, ℕ, zero, suc, ◌+◌, ◌-◌, ◌*◌, ◌/◌, ◌%◌, ◌^◌, ◌<◌, ◌≤◌, ◌⊎◌, inl, inr, ⊎_elim, List, [], ◌∷◌, length, get_or, ℤ, pos, ◌≤ℤ◌, unsigned_abs, sym, ◌∙◌, ap, ap₂, refl, subst, arith, All}
use Rattle.std.proofs.lemmas.Bool.{cases_lt}
use Rattle.std.proofs.lemmas.Int.{ints}
use Rattle.std.proofs.lemmas.Nat.{div-add-mod', mod_below, div-mul-add}
use Rattle.std.proofs.lemmas.List.Elements.{All-from_get_or}
use Rattle.std.proofs.lemmas.List.FromFn.{get_or-map-range_with_len, length-map-range_with_len}
use Rattle.std.proofs.Math.Nat.{mod-eq_of_lt}
use Rattle.sp_dd.specs.declared.part.Part.{Part}
use Rattle.sp_dd.specs.declared.part.Part.TheVariants.{Leaf, At}
use Rattle.sp_dd.specs.Ordered.{IsFrom}
use Rattle.sp_states.proofs.Blocks.{whole_weight}
use Rattle.sp_dd.specs.Floors.{sum_to}
use Rattle.sp_dd.specs.NodeLists.{Node}
use Rattle.sp_dd.specs.Points.{product, place, point_at, AllSizes}
use Rattle.sp_dd.specs.Func.{Shape, Func, IsScope, IsFunc, IsPointOf, Everywhere, IsOnUnprimed, IsIndependentOf, value_of, state_count, state_at}
use Rattle.sp_dd.specs.Operations.{state_total}
use Rattle.sp_dd.specs.Diagrams.{node_list, root_part}
use Rattle.sp_dd.proofs.PointLemmas.{place-below, point_at-turn}
use Rattle.sp_dd.proofs.FuncLemmas.{product_pos, scope_some, value_of-function_of, IsFunc-function_of, same_everywhere}
use Rattle.sp_dd.proofs.IndependenceLemmas.{length-point, point-below, agree_same}
use Rattle.sp_dd.proofs.Listed.{IsMade}
use Rattle.sp_dd.proofs.Diagramming.{func_made}
use Rattle.sp_states.specs.declared.support.Entry.{Entry}
use Rattle.sp_states.specs.States.{widths_of, state_number, state_values, support_count, values_over, function_of_values, function_of_weights, entries_from, IsValueList, AreEntries}
use Rattle.sp_states.specs.Walks.{IsPartFrom, IsWeight, value_of_part}
use Rattle.sp_states.proofs.WidthLemmas.{as_long, widths_sizes, states_some, width_state}
use Rattle.sp_states.proofs.Listing.{over-get, length-over}
use Rattle.sp_states.proofs.Cofactors.{value_from}
use Rattle.sp_states.proofs.Entries.{entries_below, entries_count, weight_there}
use Rattle.sp_states.proofs.DotLemmas.{state_within}

-- ---- the state of a point

coordinate : (ws xs : List ℕ) (j : ℕ) → AllSizes ws → length xs ≡ length ws → j < length ws → get_or xs j 0 < get_or ws j 0 → get_or (point_at ws (place ws xs)) j 0 ≡ get_or xs j 0
coordinate [] xs j h e l m = absurd (omega arith)
coordinate (w ∷ ws) [] j h e l m = absurd (omega arith)
coordinate (w ∷ ws) (x ∷ xs) zero h e l m =
    let some : 0 < product ws = product_pos ws h.2 in
    ap (λ n. n % w) (div-mul-add (x % w) (product ws) (place ws xs) (place-below ws xs some)) ∙ mod-eq_of_lt (mod_below x w h.0) ∙ mod-eq_of_lt m
coordinate (w ∷ ws) (x ∷ xs) (suc j) h e l m =
    ap (λ p. get_or p j 0) (point_at-turn ws (x % w) (place ws xs) (product_pos ws h.2)) ∙ coordinate ws xs j h.2 (omega arith) (omega arith) m

free_or_same : (f : Func) (x : List ℕ) (j : ℕ) → IsScope f.shape → IsOnUnprimed f → IsPointOf f x → j < length f.shape.sizes → IsIndependentOf f j ⊎ (get_or (state_at f.shape (state_number f.shape x)) j 0 ≡ get_or x j 0)
free_or_same f x j c u p l =
    let n : ℕ = f.shape.variables in
    ⊎_elim
    (λ (low : j < 2 * n).
    ⊎_elim
    (λ (even : j % 2 < 1).
    (let ne : j % 2 ≢ 1 = λ e. absurd (omega arith) in
    let same : get_or (widths_of f.shape) j 0 ≡ get_or f.shape.sizes j 0 = width_state n j f.shape.sizes c.paired low ne in
    inr (coordinate (widths_of f.shape) x j (widths_sizes f.shape c) (length-point f.shape.sizes x p ∙ sym (as_long f.shape)) (omega (arith, l, as_long f.shape)) (omega (arith, same, point-below f.shape.sizes x j p l)))))
    (λ (odd : 1 ≤ j % 2).
    (let is : 2 * (j / 2) + 1 ≡ j = omega (arith, div-add-mod' j 2, mod_below j 2 (omega arith)) in
    inl (subst (IsIndependentOf f) is (u.not_primed (j / 2) (omega (arith, is))))))
    (cases_lt (j % 2) 1))
    (λ (high : 2 * n ≤ j).
    (let is : 2 * n + (j - 2 * n) ≡ j = omega arith in
    inl (subst (IsIndependentOf f) is (u.not_others (j - 2 * n) (omega (arith, l, is))))))
    (cases_lt j (2 * n))

-- a function of states has at a point the value of the point's state
pub state_same : (f : Func) (x : List ℕ) → IsScope f.shape → IsOnUnprimed f → IsPointOf f x → value_of f (state_at f.shape (state_number f.shape x)) ≡ value_of f x
state_same f x c u p = agree_same f (state_at f.shape (state_number f.shape x)) x (state_within f.shape (state_number f.shape x) c) p (λ j l. free_or_same f x j c u p l)

number_below : (s : Shape) (x : List ℕ) → IsScope s → state_number s x < state_count s
number_below s x c = place-below (widths_of s) x (states_some s c)

-- ---- the values at all states

pub values_at : (f : Func) (k : ℕ) → k < state_count f.shape → get_or (state_values f) k (pos 0) ≡ value_of f (state_at f.shape k)
values_at f k l = get_or-map-range_with_len (λ i. value_of f (state_at f.shape i)) 0 (state_count f.shape) k k (pos 0) l (omega arith)

pub length-state_values : (f : Func) → length (state_values f) ≡ state_count f.shape
length-state_values f = length-map-range_with_len (λ i. value_of f (state_at f.shape i)) 0 (state_count f.shape)

pub all_values : (P : ℤ → Type 0) (f : Func) → ((k : ℕ) → k < state_count f.shape → P (value_of f (state_at f.shape k))) → All P (state_values f)
all_values P f h = All-from_get_or P (state_values f) (pos 0) (λ k l. (let low : k < state_count f.shape = omega (arith, l, length-state_values f) in subst P (sym (values_at f k low)) (h k low)))

same_lists : (xs ys : List ℤ) → length xs ≡ length ys → ((k : ℕ) → k < length xs → get_or xs k (pos 0) ≡ get_or ys k (pos 0)) → xs ≡ ys
same_lists [] [] e h = refl
same_lists [] (y ∷ ys) e h = absurd (omega arith)
same_lists (x ∷ xs) [] e h = absurd (omega arith)
same_lists (x ∷ xs) (y ∷ ys) e h = ap₂ (λ a b. a ∷ b) (h 0 (omega arith)) (same_lists xs ys (omega arith) (λ k l. h (suc k) (omega arith)))

-- what is known of a diagram's root
pub record IsRoot (s : Shape) (ns : List Node) (a : Part) (count : ℕ) (f : Func) : Type 0 where
  pub part : IsPartFrom s ns a 0 count
  pub values : values_over (widths_of s) 0 (value_of_part ns a) ≡ state_values f

root_here : (f : Func) → IsScope f.shape → IsRoot f.shape (node_list f) (root_part f) (state_count f.shape) f
root_here f c =
    let m : IsMade f.shape.sizes (value_of f) (node_list f, root_part f) = func_made f in
    let from : IsPartFrom f.shape (node_list f) (root_part f) 0 (state_count f.shape) = record {
      scope = c;
      ordered = m.ordered;
      before = m.below;
      from = from_none (root_part f) (node_list f);
      within = omega arith;
      states = refl;
    } in
    let long : length (values_over (widths_of f.shape) 0 (value_of_part (node_list f) (root_part f))) ≡ state_count f.shape = length-over (widths_of f.shape) 0 (value_of_part (node_list f) (root_part f)) in
    record {
      part = from;
      values = same_lists _ _ (long ∙ sym (length-state_values f)) (λ k l.
          (let low : k < state_count f.shape = omega (arith, l, long) in
          over-get (widths_of f.shape) (value_of_part (node_list f) (root_part f)) k (value_from f.shape.sizes (node_list f) m.ordered (root_part f) 0 m.below from.from) low
          ∙ m.value (state_at f.shape k) (state_within f.shape k c)
          ∙ sym (values_at f k low)));
    }
  where
    from_none : (a : Part) (ns : List Node) → IsFrom 0 ns a
    from_none (Leaf z) ns = tt
    from_none (At i) ns = omega arith

pub root_is : (s : Shape) (ns : List Node) (a : Part) (count : ℕ) (f : Func) → s ≡ f.shape → IsScope f.shape → ns ≡ node_list f → a ≡ root_part f → count ≡ state_count s → IsRoot s ns a count f
root_is s ns a count f e c n r k =
    subst (λ t. IsRoot t ns a count f) (sym e)
    (subst (λ ms. IsRoot f.shape ms a count f) (sym n)
    (subst (λ b. IsRoot f.shape (node_list f) b count f) (sym r)
    (subst (λ m. IsRoot f.shape (node_list f) (root_part f) m f) (sym (k ∙ ap state_count e)) (root_here f c))))

-- ---- the function of a table

tabulated_here : (f : Func) → IsScope f.shape → IsFunc f → IsOnUnprimed f → function_of_values f.shape (state_values f) ≡ f
tabulated_here f c d u =
    same_everywhere (function_of_values f.shape (state_values f)) f c (IsFunc-function_of f.shape _ c) d refl (λ x p.
    value_of-function_of f.shape _ x (scope_some f.shape c) p ∙ values_at f (state_number f.shape x) (number_below f.shape x c) ∙ state_same f x c u p)

pub tabulated_is : (s : Shape) (vs : List ℤ) (f : Func) → s ≡ f.shape → vs ≡ state_values f → IsScope f.shape → IsFunc f → IsOnUnprimed f → function_of_values s vs ≡ f
tabulated_is s vs f e v c d u = ap₂ function_of_values e v ∙ tabulated_here f c d u

pub table_is : (s : Shape) (vs : List ℤ) (f : Func) → s ≡ f.shape → vs ≡ state_values f → IsScope f.shape → IsValueList s vs
table_is s vs f e v c = record { scope = subst IsScope (sym e) c; count = ap length v ∙ length-state_values f ∙ ap state_count (sym e) }

-- ---- the function of a list

weighted_here : (f : Func) → IsScope f.shape → IsFunc f → IsOnUnprimed f → Everywhere f (λ v. pos 0 ≤ℤ v) → function_of_weights f.shape (entries_from 0 (state_values f)) ≡ f
weighted_here f c d u some =
    same_everywhere (function_of_weights f.shape (entries_from 0 (state_values f))) f c (IsFunc-function_of f.shape _ c) d refl (λ x p.
    (let k : ℕ = state_number f.shape x in
    let there : k < state_count f.shape = number_below f.shape x c in
    value_of-function_of f.shape _ x (scope_some f.shape c) p
    ∙ ap pos (weight_there 0 k k (state_values f) (omega arith))
    ∙ ap (λ z. pos (unsigned_abs z)) (values_at f k there ∙ state_same f x c u p)
    ∙ whole_weight (value_of f x) (some x p)))

pub weighted_is : (s : Shape) (es : List Entry) (f : Func) → s ≡ f.shape → es ≡ entries_from 0 (state_values f) → IsScope f.shape → IsFunc f → IsOnUnprimed f → Everywhere f (λ v. pos 0 ≤ℤ v) → function_of_weights s es ≡ f
weighted_is s es f e v c d u some = ap₂ function_of_weights e v ∙ weighted_here f c d u some

pub entries_are : (s : Shape) (es : List Entry) (f : Func) → s ≡ f.shape → es ≡ entries_from 0 (state_values f) → IsScope f.shape → AreEntries s es
entries_are s es f e v c =
    subst (λ t. AreEntries t es) (sym e) (subst (AreEntries f.shape) (sym v) (record { scope = c; states = entries_below 0 (state_count f.shape) (state_values f) (omega (arith, length-state_values f)) }))

pub count_is : (f : Func) → length (entries_from 0 (state_values f)) ≡ support_count f
count_is f = entries_count 0 (state_values f)

-- each weight is at most the total
part_less : (n k : ℕ) (g : ℕ → ℤ) → ((i : ℕ) → i < n → pos 0 ≤ℤ g i) → k < n → g k ≤ℤ sum_to n g
part_less zero k g h l = absurd (omega arith)
part_less (suc n) k g h l =
    ⊎_elim
    (λ (low : k < n). omega (arith, ints, part_less n k g (λ i m. h i (omega arith)) low, h n (omega arith)))
    (λ (high : n ≤ k). (let is : n ≡ k = omega arith in omega (arith, ints, sum_some n g (λ i m. h i (omega arith)), ap g is)))
    (cases_lt k n)
  where
    sum_some : (n : ℕ) (g : ℕ → ℤ) → ((i : ℕ) → i < n → pos 0 ≤ℤ g i) → pos 0 ≤ℤ sum_to n g
    sum_some zero g h = omega (arith, ints)
    sum_some (suc n) g h = omega (arith, ints, sum_some n g (λ i m. h i (omega arith)), h n (omega arith))

pub are_weights : (f : Func) → IsScope f.shape → Everywhere f (λ v. pos 0 ≤ℤ v) → state_total f ≤ℤ pos (2 ^ 62) → All IsWeight (state_values f)
are_weights f c some total =
    all_values IsWeight f (λ k l.
    (let g : ℕ → ℤ = λ i. value_of f (state_at f.shape i) in
    let low : pos 0 ≤ℤ value_of f (state_at f.shape k) = some (state_at f.shape k) (state_within f.shape k c) in
    let most : value_of f (state_at f.shape k) ≤ℤ state_total f = part_less (state_count f.shape) k g (λ i m. some (state_at f.shape i) (state_within f.shape i c)) l in
    record { not_negative = low; small = omega (arith, ints, low, most, total) }))

-- Sums of products over the values of a slot, for several pairs of parts at once.
use Rattle.std.proofs.Common.{◌≡◌, ℕ, zero, suc, ◌+◌, ◌-◌, ◌*◌, ◌^◌, ◌<◌, ◌≤◌, ⊎_elim, min, List, [], ◌∷◌, ◌++◌, length, get_or, set, take, drop, Bool, true, false, cond, ◌||◌, nat_lt, ℤ, pos, ◌+ℤ◌, ◌*ℤ◌, unsigned_abs, sym, ◌∙◌, ap, ap₂, refl, subst, arith, append_assoc, append-nil, length-append, length-drop, nat_eq, le_trans}
use Rattle.std.proofs.lemmas.Int.{ints, unsigned_abs-mul}
use Rattle.std.proofs.lemmas.List.{get_or-take, take-append-le, drop-append-le, length-take, get_or_past}
use Rattle.std.proofs.Math.Seq.{take-length, drop-length}
use Rattle.std.proofs.lemmas.Bool.{cases_lt}
use Rattle.sp_dd.specs.declared.walk.Step.{Step}
use Rattle.sp_dd.specs.declared.walk.Step.TheVariants.{Leaf as StepLeaf, Branch}
use Rattle.sp_dd.specs.Sources.{IfLeaf, IfBranch}
use Rattle.sp_dd.specs.Points.{IsPoint}
use Rattle.sp_dd.specs.Func.{Shape, Func, Everywhere, IsScope, IsPointOf, value_of, function_of}
use Rattle.sp_dd.specs.Operations.{everywhere, summed_out, weighed_out}
use Rattle.sp_dd.specs.Diagrams.{node_list, root_part}
use Rattle.sp_dd.specs.Ordered.{at as at_point}
use Rattle.sp_dd.proofs.Attained.{Attains}
use Rattle.sp_dd.proofs.Listed.{IsMade}
use Rattle.sp_dd.proofs.ScopeLemmas.{AllSizes-get_or}
use Rattle.sp_dd.proofs.Diagramming.{func_made, scope_positive, length-within}
use Rattle.sp_dd.proofs.FuncLemmas.{same_function, scope_some}
use Rattle.sp_ddops.proofs.SumLemmas.{abs_add}
use Rattle.sp_ddops.proofs.BestLemmas.{leaf_attained, root_attained}
use Rattle.std.proofs.Math.Nat.{mul-le-mul_left, mul-le-mul_right}
use Rattle.std.proofs.lemmas.Bool.{false≢true}
use Rattle.std.proofs.lemmas.Bool.Decides.{Decides-int_eq, Decides-ltb}
use Rattle.sp_dd.specs.declared.part.Part.{Part}
use Rattle.sp_dd.specs.declared.part.Part.TheVariants.{Leaf, At}
use Rattle.sp_dd.specs.Floors.{sum_to, floor_div, ticks}
use Rattle.sp_dd.specs.NodeLists.{Node, made_node, node_value, same_part}
use Rattle.sp_dd.specs.Bundles.{IsNextBundle}
use Rattle.sp_dd.specs.Ordered.{node_at, part_at, IsBefore, IsOrdered}
use Rattle.sp_dd.specs.Walks.{IsFromSlot, with_slot}
use Rattle.sp_dd.proofs.Steps.{with_same, with_step, with_other_step}
use Rattle.sp_ddops.specs.Cofactors.{slot_or, leaf_of, cofactor_of}
use Rattle.sp_ddops.specs.Sums.{total, leaf_total, least_of, pairs_with, cofactors, spread_to, ArePairs, IsPartWithin, ArePartsWithin, AreLight, sum_or_floor, sum_meaning, IsSumWalk, IsSumOf, IsSumBundle, IsBundleSum}
use Rattle.sp_ddops.proofs.CofactorLemmas.{within-set, value_from, cofactor_value, is_cofactor, is_leaf}
use Rattle.sp_ddops.proofs.FixedLemmas.{point_step, is_below}

with_after : (s v : ℕ) (π : ℕ → ℕ) (t : ℕ) → suc s ≤ t → with_slot s v π t ≡ π t
with_after s v π t l = with_other_step (nat_eq t s) s v t (π t) refl (λ e. absurd (omega arith))

add_same : {a b c d : ℤ} → a ≡ b → c ≡ d → a +ℤ c ≡ b +ℤ d
add_same e f = ap₂ (λ x y. x +ℤ y) e f

mul_same : {a b c d : ℤ} → a ≡ b → c ≡ d → a *ℤ c ≡ b *ℤ d
mul_same e f = ap₂ (λ x y. x *ℤ y) e f

zero_first : (z : ℤ) → pos 0 +ℤ z ≡ z
zero_first z = omega (arith, ints)

sum_assoc : (a b c : ℤ) → a +ℤ (b +ℤ c) ≡ (a +ℤ b) +ℤ c
sum_assoc a b c = omega (arith, ints)

spread_few : (a b c k n : ℕ) → c ≡ a + b → a ≤ k * n → b ≤ n → c ≤ suc k * n
spread_few a b c k n e h l = grind arith

-- ---- pairs whose product is 0

leaf_zero : (a : Part) (ns : List Node) (π : ℕ → ℕ) → same_part a (Leaf (pos 0)) ≡ true → node_value π ns a ≡ pos 0
unfolding node_value
leaf_zero (Leaf z) ns π e = (Decides-int_eq z (pos 0)).0 e
leaf_zero (At i) ns π e = absurd (false≢true e)

total_paired_step : (t u : Bool) (f g : List Node) (a b : Part) (ps : List Part) (π : ℕ → ℕ) → same_part a (Leaf (pos 0)) ≡ t → same_part b (Leaf (pos 0)) ≡ u → total f g (cond (t || u) ps (a ∷ b ∷ ps)) π ≡ (node_value π f a *ℤ node_value π g b) +ℤ total f g ps π
total_paired_step true u f g a b ps π e d = first_zero (node_value π f a) (node_value π g b) (total f g ps π) (leaf_zero a f π e)
  where
    first_zero : (x y z : ℤ) → x ≡ pos 0 → z ≡ (x *ℤ y) +ℤ z
    first_zero x y z k = sym (ap (λ w. (w *ℤ y) +ℤ z) k ∙ omega (arith, ints))
total_paired_step false true f g a b ps π e d = second_zero (node_value π f a) (node_value π g b) (total f g ps π) (leaf_zero b g π d)
  where
    second_zero : (x y z : ℤ) → y ≡ pos 0 → z ≡ (x *ℤ y) +ℤ z
    second_zero x y z k = sym (ap (λ w. (x *ℤ w) +ℤ z) k ∙ omega (arith, ints))
total_paired_step false false f g a b ps π e d = refl

total_paired : (f g : List Node) (a b : Part) (ps : List Part) (π : ℕ → ℕ) → total f g (pairs_with a b ps) π ≡ (node_value π f a *ℤ node_value π g b) +ℤ total f g ps π
total_paired f g a b ps π = total_paired_step (same_part a (Leaf (pos 0))) (same_part b (Leaf (pos 0))) f g a b ps π refl refl

paired_step : (t : Bool) (xs ps : List Part) (a b : Part) → (xs ++ cond t [] (a ∷ b ∷ [])) ++ ps ≡ xs ++ cond t ps (a ∷ b ∷ ps)
paired_step true xs ps a b = ap (λ l. l ++ ps) (append-nil xs)
paired_step false xs ps a b = append_assoc xs (a ∷ b ∷ []) ps

-- one more pair behind a list
pub paired_more : (xs ps : List Part) (a b : Part) → (xs ++ pairs_with a b []) ++ ps ≡ xs ++ pairs_with a b ps
paired_more xs ps a b = paired_step (same_part a (Leaf (pos 0)) || same_part b (Leaf (pos 0))) xs ps a b

-- ---- what holds of pairs holds where a slot has a value

pairs_paired_step : (t : Bool) (f g : List Node) (a b : Part) (ps : List Part) → IsBefore (length f) a → IsBefore (length g) b → ArePairs f g ps → ArePairs f g (cond t ps (a ∷ b ∷ ps))
pairs_paired_step true f g a b ps h k l = l
pairs_paired_step false f g a b ps h k l = (h, k, l)

small_paired_step : (t : Bool) (m n : ℕ) (a b : Part) (ps : List Part) → IsPartWithin m a → IsPartWithin n b → ArePartsWithin m n ps → ArePartsWithin m n (cond t ps (a ∷ b ∷ ps))
small_paired_step true m n a b ps h k l = l
small_paired_step false m n a b ps h k l = (h, k, l)

few_paired_step : (t : Bool) (a b : Part) (ps : List Part) (n : ℕ) → length ps ≤ n → length (cond t ps (a ∷ b ∷ ps)) ≤ suc (suc n)
few_paired_step true a b ps n h = omega arith
few_paired_step false a b ps n h = omega arith

least_paired_step : (t : Bool) (n s : ℕ) (f g : List Node) (a b : Part) (ps : List Part) → s ≤ slot_or f a n → s ≤ slot_or g b n → s ≤ least_of n f g ps → s ≤ least_of n f g (cond t ps (a ∷ b ∷ ps))
least_paired_step true n s f g a b ps h k l = l
least_paired_step false n s f g a b ps h k l = omega arith

pub pairs_cofactors : (sizes : List ℕ) (f g : List Node) → IsOrdered sizes f → IsOrdered sizes g → (s v : ℕ) (ps : List Part) → ArePairs f g ps → ArePairs f g (cofactors f g s v ps)
pairs_cofactors sizes f g o q s v [] h = tt
pairs_cofactors sizes f g o q s v (a ∷ []) h = tt
pairs_cofactors sizes f g o q s v (a ∷ b ∷ ps) h =
    pairs_paired_step (same_part (cofactor_of f s v a) (Leaf (pos 0)) || same_part (cofactor_of g s v b) (Leaf (pos 0))) f g _ _ _ (is_below sizes f o s v a h.0).before (is_below sizes g q s v b h.1).before (pairs_cofactors sizes f g o q s v ps h.2)

small_cofactor_step : (t : Bool) (m : ℕ) (f : List Node) (v i : ℕ) → IsPartWithin m (part_at f i v) → IsPartWithin m (cond t (part_at f i v) (At i))
small_cofactor_step true m f v i h = h
small_cofactor_step false m f v i h = tt

small_cofactor : (m : ℕ) (f : List Node) → ((k v : ℕ) → k < length f → IsPartWithin m (part_at f k v)) → (s v : ℕ) (a : Part) → IsBefore (length f) a → IsPartWithin m a → IsPartWithin m (cofactor_of f s v a)
small_cofactor m f h s v (Leaf z) b k = k
small_cofactor m f h s v (At i) b k = small_cofactor_step (nat_eq (node_at f i).slot s) m f v i (h i v b)

pub small_cofactors : (m n : ℕ) (f g : List Node) → ((k v : ℕ) → k < length f → IsPartWithin m (part_at f k v)) → ((k v : ℕ) → k < length g → IsPartWithin n (part_at g k v)) → (s v : ℕ) (ps : List Part) → ArePairs f g ps → ArePartsWithin m n ps → ArePartsWithin m n (cofactors f g s v ps)
small_cofactors m n f g x y s v [] h k = tt
small_cofactors m n f g x y s v (a ∷ []) h k = tt
small_cofactors m n f g x y s v (a ∷ b ∷ ps) h k =
    small_paired_step (same_part (cofactor_of f s v a) (Leaf (pos 0)) || same_part (cofactor_of g s v b) (Leaf (pos 0))) m n _ _ _ (small_cofactor m f x s v a h.0 k.0) (small_cofactor n g y s v b h.1 k.1) (small_cofactors m n f g x y s v ps h.2 k.2)

pub few_cofactors : (f g : List Node) (s v : ℕ) (ps : List Part) → length (cofactors f g s v ps) ≤ length ps
few_cofactors f g s v [] = omega arith
few_cofactors f g s v (a ∷ []) = omega arith
few_cofactors f g s v (a ∷ b ∷ ps) =
    few_paired_step (same_part (cofactor_of f s v a) (Leaf (pos 0)) || same_part (cofactor_of g s v b) (Leaf (pos 0))) _ _ _ (length ps) (few_cofactors f g s v ps)

-- no part branches before a slot k before which none did
pub low_cofactors : (sizes : List ℕ) (f g : List Node) → IsOrdered sizes f → IsOrdered sizes g → (s v k : ℕ) (ps : List Part) → ArePairs f g ps → k ≤ length sizes → k ≤ least_of (length sizes) f g ps → k ≤ least_of (length sizes) f g (cofactors f g s v ps)
low_cofactors sizes f g o q s v k [] h l m = l
low_cofactors sizes f g o q s v k (a ∷ []) h l m = l
low_cofactors sizes f g o q s v k (a ∷ b ∷ ps) h l m =
    least_paired_step (same_part (cofactor_of f s v a) (Leaf (pos 0)) || same_part (cofactor_of g s v b) (Leaf (pos 0))) (length sizes) k f g _ _ _ ((is_below sizes f o s v a h.0).later k l (omega arith)) ((is_below sizes g q s v b h.1).later k l (omega arith)) (low_cofactors sizes f g o q s v k ps h.2 l (omega arith))

-- and none on the slot itself
pub later_cofactors : (sizes : List ℕ) (f g : List Node) → IsOrdered sizes f → IsOrdered sizes g → (s v : ℕ) (ps : List Part) → ArePairs f g ps → s < length sizes → s ≤ least_of (length sizes) f g ps → suc s ≤ least_of (length sizes) f g (cofactors f g s v ps)
later_cofactors sizes f g o q s v [] h l m = l
later_cofactors sizes f g o q s v (a ∷ []) h l m = l
later_cofactors sizes f g o q s v (a ∷ b ∷ ps) h l m =
    least_paired_step (same_part (cofactor_of f s v a) (Leaf (pos 0)) || same_part (cofactor_of g s v b) (Leaf (pos 0))) (length sizes) (suc s) f g _ _ _ (is_cofactor sizes f o (length sizes) s v a h.0 l (omega arith)).later (is_cofactor sizes g q (length sizes) s v b h.1 l (omega arith)).later (later_cofactors sizes f g o q s v ps h.2 l (omega arith))

pub total_cofactors : (sizes : List ℕ) (f g : List Node) → IsOrdered sizes f → IsOrdered sizes g → (s v : ℕ) (ps : List Part) → ArePairs f g ps → (π : ℕ → ℕ) → π s ≡ v → total f g ps π ≡ total f g (cofactors f g s v ps) π
total_cofactors sizes f g o q s v [] h π e = refl
total_cofactors sizes f g o q s v (a ∷ []) h π e = refl
total_cofactors sizes f g o q s v (a ∷ b ∷ ps) h π e =
    add_same (mul_same (cofactor_value sizes f o a h.0 s v π e) (cofactor_value sizes g q b h.1 s v π e)) (total_cofactors sizes f g o q s v ps h.2 π e)
    ∙ sym (total_paired f g (cofactor_of f s v a) (cofactor_of g s v b) (cofactors f g s v ps) π)

-- ---- pairs that don't branch before a slot

pub total_from : (sizes : List ℕ) (f g : List Node) → IsOrdered sizes f → IsOrdered sizes g → (s : ℕ) (ps : List Part) → ArePairs f g ps → s ≤ least_of (length sizes) f g ps → IsFromSlot s (total f g ps)
total_from sizes f g o q s [] h l π ρ e = refl
total_from sizes f g o q s (a ∷ []) h l π ρ e = refl
total_from sizes f g o q s (a ∷ b ∷ ps) h l π ρ e =
    add_same (mul_same (value_from sizes f o a h.0 (length sizes) s (omega arith) π ρ e) (value_from sizes g q b h.1 (length sizes) s (omega arith) π ρ e)) (total_from sizes f g o q s ps h.2 (omega arith) π ρ e)

leaf_value : (π : ℕ → ℕ) (f : List Node) (a : Part) → a ≡ Leaf (leaf_of a) → node_value π f a ≡ leaf_of a
unfolding node_value
leaf_value π f a e = ap (node_value π f) e

pub total_leaves : (sizes : List ℕ) (f g : List Node) → IsOrdered sizes f → IsOrdered sizes g → (ps : List Part) → ArePairs f g ps → length sizes ≤ least_of (length sizes) f g ps → (π : ℕ → ℕ) → total f g ps π ≡ leaf_total ps
total_leaves sizes f g o q [] h l π = refl
total_leaves sizes f g o q (a ∷ []) h l π = refl
total_leaves sizes f g o q (a ∷ b ∷ ps) h l π =
    add_same (mul_same (leaf_value π f a (is_leaf sizes f o a h.0 (omega arith))) (leaf_value π g b (is_leaf sizes g q b h.1 (omega arith)))) (total_leaves sizes f g o q ps h.2 (omega arith) π)

-- ---- pairs behind others

pairs_append : (f g : List Node) (ps qs : List Part) → ArePairs f g ps → ArePairs f g qs → ArePairs f g (ps ++ qs)
pairs_append f g [] qs h k = k
pairs_append f g (a ∷ []) qs h k = absurd h
pairs_append f g (a ∷ b ∷ ps) qs h k = (h.0, h.1, pairs_append f g ps qs h.2 k)

small_append : (f g : List Node) (m n : ℕ) (ps qs : List Part) → ArePairs f g ps → ArePartsWithin m n ps → ArePartsWithin m n qs → ArePartsWithin m n (ps ++ qs)
small_append f g m n [] qs e h k = k
small_append f g m n (a ∷ []) qs e h k = absurd e
small_append f g m n (a ∷ b ∷ ps) qs e h k = (h.0, h.1, small_append f g m n ps qs e.2 h.2 k)

least_append : (n s : ℕ) (f g : List Node) (ps qs : List Part) → ArePairs f g ps → s ≤ least_of n f g ps → s ≤ least_of n f g qs → s ≤ least_of n f g (ps ++ qs)
least_append n s f g [] qs e h k = k
least_append n s f g (a ∷ []) qs e h k = absurd e
least_append n s f g (a ∷ b ∷ ps) qs e h k = omega (arith, least_append n s f g ps qs e.2 (omega arith) k)

total_append : (f g : List Node) (ps qs : List Part) → ArePairs f g ps → (π : ℕ → ℕ) → total f g (ps ++ qs) π ≡ total f g ps π +ℤ total f g qs π
total_append f g [] qs e π = sym (zero_first (total f g qs π))
total_append f g (a ∷ []) qs e π = absurd e
total_append f g (a ∷ b ∷ ps) qs e π =
    ap (λ z. (node_value π f a *ℤ node_value π g b) +ℤ z) (total_append f g ps qs e.2 π) ∙ sum_assoc (node_value π f a *ℤ node_value π g b) (total f g ps π) (total f g qs π)

-- ---- pairs where a slot has each of its values

pub record IsSpread (sizes : List ℕ) (at : ℕ) (f g : List Node) (m n k s : ℕ) (ps : List Part) : Type 0 where
  pub pairs : ArePairs f g (spread_to f g at k ps)
  pub small : ArePartsWithin m n (spread_to f g at k ps)
  pub few : length (spread_to f g at k ps) ≤ k * length ps
  pub low : s ≤ least_of (length sizes) f g (spread_to f g at k ps)
  pub behind : suc at ≤ least_of (length sizes) f g (spread_to f g at k ps)
  pub total : (π : ℕ → ℕ) → sum_to k (λ v. total f g ps (with_slot at v π)) ≡ total f g (spread_to f g at k ps) π

pub is_spread : (sizes : List ℕ) (at : ℕ) (f g : List Node) → (t : IsSumWalk sizes at f g) → (low : ℕ) (ps : List Part) → ArePairs f g ps → ArePartsWithin t.most_left t.most_right ps → at ≤ least_of (length sizes) f g ps → low ≤ length sizes → low ≤ least_of (length sizes) f g ps → (k : ℕ) → IsSpread sizes at f g t.most_left t.most_right k low ps
is_spread sizes at f g t low ps h s l j d zero = record { pairs = tt; small = tt; few = omega arith; low = j; behind = t.within; total = λ π. refl }
is_spread sizes at f g t low ps h s l j d (suc k) =
    let r : IsSpread sizes at f g t.most_left t.most_right k low ps = is_spread sizes at f g t low ps h s l j d k in
    let c : List Part = cofactors f g at k ps in
    let p : ArePairs f g c = pairs_cofactors sizes f g t.left t.right at k ps h in
    let later : suc at ≤ least_of (length sizes) f g c = later_cofactors sizes f g t.left t.right at k ps h t.within l in
    record {
      pairs = pairs_append f g (spread_to f g at k ps) c r.pairs p;
      small = small_append f g t.most_left t.most_right (spread_to f g at k ps) c r.pairs r.small (small_cofactors t.most_left t.most_right f g t.small_left t.small_right at k ps h s);
      few = spread_few (length (spread_to f g at k ps)) (length c) (length (spread_to f g at k ps ++ c)) k (length ps) (length-append (spread_to f g at k ps) c) r.few (few_cofactors f g at k ps);
      low = least_append (length sizes) low f g (spread_to f g at k ps) c r.pairs r.low (low_cofactors sizes f g t.left t.right at k low ps h j d);
      behind = least_append (length sizes) (suc at) f g (spread_to f g at k ps) c r.pairs r.behind later;
      total = λ π.
          add_same (r.total π) (total_cofactors sizes f g t.left t.right at k ps h (with_slot at k π) (with_same at k π) ∙ total_from sizes f g t.left t.right (suc at) c p later (with_slot at k π) π (λ s m. with_after at k π s m))
          ∙ sym (total_append f g (spread_to f g at k ps) c r.pairs π);
    }

-- ---- the steps of loops over pairs

two_there : (xs : List Part) (i : ℕ) (x y : Part) → suc i < length xs → x ≡ get_or xs i x → y ≡ get_or xs (suc i) y → drop i xs ≡ x ∷ y ∷ drop (suc (suc i)) xs
two_there [] i x y l e d = absurd (omega arith)
two_there (a ∷ []) zero x y l e d = absurd (omega arith)
two_there (a ∷ b ∷ xs) zero x y l e d = ap₂ (λ p q. p ∷ q ∷ xs) (sym e) (sym d)
two_there (a ∷ xs) (suc i) x y l e d = two_there xs i x y (omega arith) e d

pub two_here : (xs : List Part) (i k j : ℕ) (x y : Part) → k < length xs → k ≡ i + 1 → j ≡ i + 2 → x ≡ get_or xs i x → y ≡ get_or xs k y → drop i xs ≡ x ∷ y ∷ drop j xs
two_here xs i k j x y l e d a b =
    let next : k ≡ suc i = omega arith in
    let last : suc (suc i) ≡ j = omega arith in
    two_there xs i x y (omega arith) a (b ∙ ap (λ n. get_or xs n y) next) ∙ ap (λ n. x ∷ y ∷ drop n xs) last

pub first_before : (f g : List Node) (xs : List Part) (i : ℕ) (x : Part) → ArePairs f g (drop i xs) → i < length xs → x ≡ get_or xs i x → IsBefore (length f) x
first_before f g [] i x h l e = absurd (omega arith)
first_before f g (a ∷ []) zero x h l e = absurd h
first_before f g (a ∷ b ∷ xs) zero x h l e = subst (IsBefore (length f)) (sym e) h.0
first_before f g (a ∷ xs) (suc i) x h l e = first_before f g xs i x h (omega arith) e

second_there : (f g : List Node) (xs : List Part) (i : ℕ) (x : Part) → ArePairs f g (drop i xs) → suc i < length xs → x ≡ get_or xs (suc i) x → IsBefore (length g) x
second_there f g [] i x h l e = absurd (omega arith)
second_there f g (a ∷ []) zero x h l e = absurd h
second_there f g (a ∷ b ∷ xs) zero x h l e = subst (IsBefore (length g)) (sym e) h.1
second_there f g (a ∷ xs) (suc i) x h l e = second_there f g xs i x h (omega arith) e

pub second_before : (f g : List Node) (xs : List Part) (i k : ℕ) (x : Part) → ArePairs f g (drop i xs) → k ≡ i + 1 → k < length xs → x ≡ get_or xs k x → IsBefore (length g) x
second_before f g xs i k x h q l e =
    let next : k ≡ suc i = omega arith in
    second_there f g xs i x h (omega arith) (e ∙ ap (λ n. get_or xs n x) next)

-- an item of the list as it was
pub item_was : (first now : List Part) (end i : ℕ) (x : Part) → end ≤ length first → i < end → take (length first) now ≡ first → x ≡ get_or now i x → x ≡ get_or (take end first) i x
item_was first now end i x l m k e =
    e ∙ sym (get_or-take (length first) now i x (omega arith)) ∙ ap (λ xs. get_or xs i x) k ∙ sym (get_or-take end first i x m)

pub record IsPushed (f g : List Node) (s v : ℕ) (first more : List Part) (end start j : ℕ) : Type 0 where
  pub long : length first ≤ length more
  pub kept : take (length first) more ≡ first
  pub made : more ++ cofactors f g s v (drop j (take end first)) ≡ first ++ cofactors f g s v (drop start (take end first))
  pub pairs : ArePairs f g (drop j (take end first))

pub is_pushed : (f g : List Node) (s v : ℕ) (first now more : List Part) (end start i k j : ℕ) (x y a b : Part) → end ≤ length first → 1 < end - i → k ≡ i + 1 → j ≡ i + 2 → length first ≤ length now → take (length first) now ≡ first → x ≡ get_or now i x → y ≡ get_or now k y → a ≡ cofactor_of f s v x → b ≡ cofactor_of g s v y → more ≡ now ++ pairs_with a b [] → now ++ cofactors f g s v (drop i (take end first)) ≡ first ++ cofactors f g s v (drop start (take end first)) → ArePairs f g (drop i (take end first)) → IsPushed f g s v first more end start j
is_pushed f g s v first now more end start i k j x y a b l m q r n h e d p o w z c =
    let xs : List Part = take end first in
    let size : length xs ≡ end = omega (arith, length-take end first) in
    let here : drop i xs ≡ x ∷ y ∷ drop j xs = two_here xs i k j x y (omega (arith, size)) q r (item_was first now end i x l (omega arith) h e) (item_was first now end k y l (omega arith) h d) in
    let rest : List Part = cofactors f g s v (drop j xs) in
    record {
      long = omega (arith, ap length w, length-append now (pairs_with a b []));
      kept = ap (take (length first)) w ∙ take-append-le (length first) now (pairs_with a b []) n ∙ h;
      made = ap (λ l. l ++ rest) w ∙ paired_more now rest a b ∙ ap₂ (λ t u. now ++ pairs_with t u rest) p o ∙ ap (λ l. now ++ cofactors f g s v l) (sym here) ∙ z;
      pairs = let P : List Part → Type 0 = λ l. ArePairs f g l in (subst P here c).2;
    }

short_cofactors : (f g : List Node) (s v : ℕ) (xs : List Part) → length xs ≤ 1 → cofactors f g s v xs ≡ []
short_cofactors f g s v [] l = refl
short_cofactors f g s v (a ∷ []) l = refl
short_cofactors f g s v (a ∷ b ∷ xs) l = absurd (omega arith)

pub pushed_all : (f g : List Node) (s v : ℕ) (first now : List Part) (end start i : ℕ) → end ≤ length first → end - i ≤ 1 → now ++ cofactors f g s v (drop i (take end first)) ≡ first ++ cofactors f g s v (drop start (take end first)) → now ≡ first ++ cofactors f g s v (drop start (take end first))
pushed_all f g s v first now end start i l m z =
    let xs : List Part = take end first in
    let short : length (drop i xs) ≤ 1 = omega (arith, length-drop i xs, length-take end first) in
    sym (append-nil now) ∙ ap (λ l. now ++ l) (sym (short_cofactors f g s v (drop i xs) short)) ∙ z

least_within : (n : ℕ) (f g : List Node) (ps : List Part) → least_of n f g ps ≤ n
least_within n f g [] = omega arith
least_within n f g (a ∷ []) = omega arith
least_within n f g (a ∷ b ∷ ps) = omega (arith, least_within n f g ps)

pub least_first : (n : ℕ) (f g : List Node) (ps : List Part) → min n (least_of n f g ps) ≡ least_of n f g ps
least_first n f g ps = omega (arith, least_within n f g ps)

short_least : (n : ℕ) (f g : List Node) (xs : List Part) → length xs ≤ 1 → least_of n f g xs ≡ n
short_least n f g [] l = refl
short_least n f g (a ∷ []) l = refl
short_least n f g (a ∷ b ∷ xs) l = absurd (omega arith)

pub least_last : (n m : ℕ) (f g : List Node) (xs : List Part) (i least start : ℕ) → n ≡ m → length xs - i ≤ 1 → least ≤ n → min least (least_of n f g (drop i xs)) ≡ least_of n f g (drop start xs) → least ≡ least_of m f g (drop start xs)
least_last n m f g xs i least start e l k h =
    let all : least_of n f g (drop i xs) ≡ n = short_least n f g (drop i xs) (omega (arith, length-drop i xs)) in
    let here : least ≡ least_of n f g (drop start xs) = omega (arith, all, h, k) in
    here ∙ ap (λ c. least_of c f g (drop start xs)) e

-- ---- a sum of leaves

abs_two : (x y : ℤ) (m : ℕ) (a b : ℕ) → unsigned_abs x ≤ a * m → unsigned_abs y ≤ m → suc a ≤ b → unsigned_abs (x +ℤ y) ≤ b * m
abs_two x y m a b h k l = le_trans (omega (arith, abs_add x y, h, k)) (mul-le-mul_right m l)

abs_most : (x : ℤ) (a m : ℕ) → unsigned_abs x ≤ a * 2 ^ 100 → a ≤ 128 → unsigned_abs x ≤ 2 ^ 110
abs_most x a m h l = omega (arith, h, mul-le-mul_right (2 ^ 100) l)

pub light_here : (xs : List Part) (i k j : ℕ) (x y : Part) → k < length xs → k ≡ i + 1 → j ≡ i + 2 → x ≡ get_or xs i x → y ≡ get_or xs k y → AreLight (drop i xs) → unsigned_abs (leaf_of x *ℤ leaf_of y) ≤ 2 ^ 100
light_here xs i k j x y l q r e d h = let P : List Part → Type 0 = λ l. AreLight l in (subst P (two_here xs i k j x y l q r e d) h).0

pub sum_fits : (xs : List Part) (start i : ℕ) (old : ℤ) → start ≤ i → i ≤ length xs → length (drop start xs) ≤ 128 → unsigned_abs old ≤ (i - start) * 2 ^ 100 → unsigned_abs old ≤ 2 ^ 110
sum_fits xs start i old o l m h = abs_most old (i - start) 0 h (omega (arith, length-drop start xs, o, l, m))

pub record IsMore (xs : List Part) (start j : ℕ) (new : ℤ) : Type 0 where
  pub small : unsigned_abs new ≤ (j - start) * 2 ^ 100
  pub sum : new +ℤ leaf_total (drop j xs) ≡ leaf_total (drop start xs)
  pub light : AreLight (drop j xs)

pub is_more : (xs : List Part) (start i k j : ℕ) (x y : Part) (old new : ℤ) → k < length xs → k ≡ i + 1 → j ≡ i + 2 → start ≤ i → x ≡ get_or xs i x → y ≡ get_or xs k y → AreLight (drop i xs) → unsigned_abs old ≤ (i - start) * 2 ^ 100 → old +ℤ leaf_total (drop i xs) ≡ leaf_total (drop start xs) → new ≡ old +ℤ (leaf_of x *ℤ leaf_of y) → IsMore xs start j new
is_more xs start i k j x y old new l q r o e d h m s n =
    let here : drop i xs ≡ x ∷ y ∷ drop j xs = two_here xs i k j x y l q r e d in
    let P : List Part → Type 0 = λ l. AreLight l in
    let w : AreLight (x ∷ y ∷ drop j xs) = subst P here h in
    record {
      small = subst (λ z. unsigned_abs z ≤ (j - start) * 2 ^ 100) (sym n) (abs_two old (leaf_of x *ℤ leaf_of y) (2 ^ 100) (i - start) (j - start) m w.0 (omega arith));
      sum = ap (λ z. z +ℤ leaf_total (drop j xs)) n ∙ sym (sum_assoc old (leaf_of x *ℤ leaf_of y) (leaf_total (drop j xs))) ∙ ap (λ l. old +ℤ leaf_total l) (sym here) ∙ s;
      light = w.1;
    }

short_total : (xs : List Part) → length xs ≤ 1 → leaf_total xs ≡ pos 0
short_total [] l = refl
short_total (a ∷ []) l = refl
short_total (a ∷ b ∷ xs) l = absurd (omega arith)

plus_none : (z w t : ℤ) → w ≡ pos 0 → z +ℤ w ≡ t → z ≡ t
plus_none z w t e h = omega (arith, ints, e, h)

pub sum_all : (xs : List Part) (start i : ℕ) (sum : ℤ) → length xs - i ≤ 1 → sum +ℤ leaf_total (drop i xs) ≡ leaf_total (drop start xs) → sum ≡ leaf_total (drop start xs)
sum_all xs start i sum l h = plus_none sum (leaf_total (drop i xs)) (leaf_total (drop start xs)) (short_total (drop i xs) (omega (arith, length-drop i xs))) h

small_leaf : (m : ℕ) (a : Part) → IsPartWithin m a → unsigned_abs (leaf_of a) ≤ m
small_leaf m (Leaf z) h = h
small_leaf m (At i) h = omega arith

pub light_small : (m n : ℕ) → m * n ≤ 2 ^ 100 → (ps : List Part) → ArePartsWithin m n ps → AreLight ps
light_small m n l [] h = tt
light_small m n l (a ∷ []) h = tt
light_small m n l (a ∷ b ∷ ps) h =
    let x : unsigned_abs (leaf_of a) ≤ m = small_leaf m a h.0 in
    let y : unsigned_abs (leaf_of b) ≤ n = small_leaf n b h.1 in
    let p : unsigned_abs (leaf_of a) * unsigned_abs (leaf_of b) ≤ m * n = le_trans (mul-le-mul_right (unsigned_abs (leaf_of b)) x) (mul-le-mul_left m y) in
    (omega (arith, unsigned_abs-mul (leaf_of a) (leaf_of b), p, l), light_small m n l ps h.2)

-- ---- what a bundle means

-- the first slot is behind slot `at`, or before it
lt_false : (a b : ℕ) → b ≤ a → nat_lt a b ≡ false
lt_false a b l = not_true (nat_lt a b) (λ e. absurd (omega (arith, (Decides-ltb a b).0 e)))
  where
    not_true : (t : Bool) → (t ≡ true → ⊥) → t ≡ false
    not_true true h = absurd (h refl)
    not_true false h = refl

lt_true : (a b : ℕ) → a < b → nat_lt a b ≡ true
lt_true a b l = (Decides-ltb a b).1 l

pub meaning_leaf : (mean : Bool) (sizes : List ℕ) (at : ℕ) (f g : List Node) (ps : List Part) (z : ℤ) → IsSumOf sizes at f g false ps → length sizes ≤ least_of (length sizes) f g ps → z ≡ sum_or_floor mean (leaf_total ps) → (π : ℕ → ℕ) → sum_meaning mean sizes at f g false ps π ≡ z
unfolding sum_meaning
meaning_leaf mean sizes at f g ps z h l e π = ap (sum_or_floor mean) (total_leaves sizes f g h.tables.left h.tables.right ps h.pairs l π) ∙ sym e

behind_from : (mean : Bool) (sizes : List ℕ) (at : ℕ) (f g : List Node) (ps : List Part) (s : ℕ) → IsSumOf sizes at f g false ps → s ≤ least_of (length sizes) f g ps → IsFromSlot s (sum_meaning mean sizes at f g false ps)
unfolding sum_meaning
behind_from mean sizes at f g ps s h l π ρ e = ap (sum_or_floor mean) (total_from sizes f g h.tables.left h.tables.right s ps h.pairs l π ρ e)

sum_same : (n : ℕ) (a b : ℕ → ℤ) → ((v : ℕ) → a v ≡ b v) → sum_to n a ≡ sum_to n b
sum_same zero a b h = refl
sum_same (suc n) a b h = add_same (sum_same n a b h) (h n)

before_from : (mean : Bool) (sizes : List ℕ) (at : ℕ) (f g : List Node) (ps : List Part) (s : ℕ) → IsSumOf sizes at f g true ps → s ≤ least_of (length sizes) f g ps → IsFromSlot s (sum_meaning mean sizes at f g true ps)
unfolding sum_meaning
before_from mean sizes at f g ps s h l π ρ e =
    ap (sum_or_floor mean) (sum_same (get_or sizes at 0) _ _ (λ v.
    total_from sizes f g h.tables.left h.tables.right s ps h.pairs l (with_slot at v π) (with_slot at v ρ) (λ t k. with_step (nat_eq t at) at v t (π t) (ρ t) refl (λ ne. e t k))))

settled_step : (t before : Bool) (mean : Bool) (sizes : List ℕ) (at : ℕ) (f g : List Node) (ps : List Part) (s : ℕ) → nat_lt s at ≡ t → t ≡ before → IsSumOf sizes at f g before ps → s ≡ least_of (length sizes) f g ps → s < length sizes → IsFromSlot s (sum_meaning mean sizes at f g before ps) → IsBundleSum mean sizes at f g before ps (made_node s ps)
settled_step t before mean sizes at f g ps s e d h k l q =
    let here : before ≡ nat_lt s at = sym (e ∙ d) in
    let I : Bool → Type 0 = λ b. IsSumOf sizes at f g b ps in
    let F : Bool → Type 0 = λ b. IsFromSlot s (sum_meaning mean sizes at f g b ps) in
    record {
      bundle = record { sum = subst I here h; from = omega (arith, k) };
      within = l;
      later = omega (arith, k);
      from = subst F here q;
      same = λ π. ap (λ b. sum_meaning mean sizes at f g b ps π) here;
    }

pub settled_behind : (mean : Bool) (sizes : List ℕ) (at : ℕ) (f g : List Node) (ps : List Part) (s : ℕ) → IsSumOf sizes at f g false ps → s ≡ least_of (length sizes) f g ps → s < length sizes → IsBundleSum mean sizes at f g false ps (made_node s ps)
settled_behind mean sizes at f g ps s h k l =
    let behind : at < least_of (length sizes) f g ps = h.behind refl in
    settled_step (nat_lt s at) false mean sizes at f g ps s refl (lt_false s at (omega (arith, behind, k))) h k l (behind_from mean sizes at f g ps s h (omega (arith, k)))

pub settled_before : (mean : Bool) (sizes : List ℕ) (at : ℕ) (f g : List Node) (ps : List Part) (s : ℕ) → IsSumOf sizes at f g true ps → s ≡ least_of (length sizes) f g ps → s < at → IsBundleSum mean sizes at f g true ps (made_node s ps)
settled_before mean sizes at f g ps s h k l =
    settled_step (nat_lt s at) true mean sizes at f g ps s refl (lt_true s at l) h k (omega (arith, h.tables.within, l)) (before_from mean sizes at f g ps s h (omega (arith, k)))

-- ---- a bundle that is spread

pub record IsSpreadSum (mean : Bool) (sizes : List ℕ) (at : ℕ) (f g : List Node) (ps qs : List Part) : Type 0 where
  pub sum : IsSumOf sizes at f g false qs
  pub low : least_of (length sizes) f g ps ≤ least_of (length sizes) f g qs
  pub same : (π : ℕ → ℕ) → sum_meaning mean sizes at f g true ps π ≡ sum_meaning mean sizes at f g false qs π

pub spread_sum : (mean : Bool) (sizes : List ℕ) (at : ℕ) (f g : List Node) (ps : List Part) → IsSumOf sizes at f g true ps → at ≤ least_of (length sizes) f g ps → IsSpreadSum mean sizes at f g ps (spread_to f g at (get_or sizes at 0) ps)
unfolding sum_meaning
spread_sum mean sizes at f g ps h l =
    let n : ℕ = get_or sizes at 0 in
    let low : ℕ = least_of (length sizes) f g ps in
    let r : IsSpread sizes at f g h.tables.most_left h.tables.most_right n low ps = is_spread sizes at f g h.tables low ps h.pairs h.small l (least_within (length sizes) f g ps) (omega arith) n in
    record {
      sum = record {
        tables = h.tables;
        pairs = r.pairs;
        small = r.small;
        few = spread_most n (length ps) (length (spread_to f g at n ps)) r.few h.tables.values h.few;
        behind = λ e. omega (arith, r.behind);
      };
      low = r.low;
      same = λ π. ap (sum_or_floor mean) (r.total π);
    }
  where
    spread_most : (n k c : ℕ) → c ≤ n * k → n ≤ 64 → k ≤ 2 → c ≤ 128
    spread_most n k c h l m = le_trans h (le_trans (mul-le-mul_right k l) (mul-le-mul_left 64 m))

pub settled_spread : (mean : Bool) (sizes : List ℕ) (at : ℕ) (f g : List Node) (ps qs : List Part) (c : Node) → IsSpreadSum mean sizes at f g ps qs → IsBundleSum mean sizes at f g false qs c → IsBundleSum mean sizes at f g true ps c
settled_spread mean sizes at f g ps qs c h k =
    record { bundle = k.bundle; within = k.within; later = omega (arith, h.low, k.later); from = k.from; same = λ π. h.same π ∙ k.same π }

-- ---- a bundle where its slot has a value

pub next_sum : (sizes : List ℕ) (at : ℕ) (f g : List Node) (b : Node) (v : ℕ) → IsSumBundle sizes at f g b → b.slot < length sizes → IsSumOf sizes at f g (nat_lt b.slot at) (cofactors f g b.slot v b.parts)
next_sum sizes at f g b v h l =
    let t : IsSumWalk sizes at f g = h.sum.tables in
    record {
      tables = t;
      pairs = pairs_cofactors sizes f g t.left t.right b.slot v b.parts h.sum.pairs;
      small = small_cofactors t.most_left t.most_right f g t.small_left t.small_right b.slot v b.parts h.sum.pairs h.sum.small;
      few = omega (arith, few_cofactors f g b.slot v b.parts, h.sum.few);
      behind = λ e. low_cofactors sizes f g t.left t.right b.slot v (suc at) b.parts h.sum.pairs t.within (h.sum.behind e);
    }

next_same_step : (before : Bool) (mean : Bool) (sizes : List ℕ) (at : ℕ) (f g : List Node) (s v : ℕ) (ps : List Part) → IsOrdered sizes f → IsOrdered sizes g → ArePairs f g ps → (before ≡ true → s < at) → (π : ℕ → ℕ) → π s ≡ v → sum_meaning mean sizes at f g before ps π ≡ sum_meaning mean sizes at f g before (cofactors f g s v ps) π
unfolding sum_meaning
next_same_step true mean sizes at f g s v ps o q h l π e =
    ap (sum_or_floor mean) (sum_same (get_or sizes at 0) _ _ (λ u. total_cofactors sizes f g o q s v ps h (with_slot at u π) (with_other_step (nat_eq s at) at u s (π s) refl (λ r. absurd (omega (arith, l refl, r))) ∙ e)))
next_same_step false mean sizes at f g s v ps o q h l π e = ap (sum_or_floor mean) (total_cofactors sizes f g o q s v ps h π e)

pub next_same : (mean : Bool) (sizes : List ℕ) (at : ℕ) (f g : List Node) (b : Node) (v : ℕ) → IsSumBundle sizes at f g b → (π : ℕ → ℕ) → π b.slot ≡ v → sum_meaning mean sizes at f g (nat_lt b.slot at) b.parts π ≡ sum_meaning mean sizes at f g (nat_lt b.slot at) (cofactors f g b.slot v b.parts) π
next_same mean sizes at f g b v h π e =
    next_same_step (nat_lt b.slot at) mean sizes at f g b.slot v b.parts h.sum.tables.left h.sum.tables.right h.sum.pairs (λ t. (Decides-ltb b.slot at).0 t) π e

pub next_settled : (mean : Bool) (sizes : List ℕ) (at : ℕ) (f g : List Node) (b : Node) (v : ℕ) (c : Node) → IsSumBundle sizes at f g b → b.slot < length sizes → IsBundleSum mean sizes at f g (nat_lt b.slot at) (cofactors f g b.slot v b.parts) c → IsNextBundle sizes (λ d. sum_meaning mean sizes at f g (nat_lt d.slot at) d.parts) (IsSumBundle sizes at f g) b v c
next_settled mean sizes at f g b v c h l k =
    let t : IsSumWalk sizes at f g = h.sum.tables in
    record {
      bundle = k.bundle;
      within = k.within;
      later = omega (arith, later_cofactors sizes f g t.left t.right b.slot v b.parts h.sum.pairs l h.from, k.later);
      from = k.from;
      same = λ π e. next_same mean sizes at f g b v h π e ∙ k.same π;
    }

-- ---- lists with more behind them

take_twice : (k n : ℕ) (xs : List Part) → k ≤ n → take k (take n xs) ≡ take k xs
take_twice zero n xs l = refl
take_twice (suc k) zero xs l = absurd (omega arith)
take_twice (suc k) (suc n) [] l = refl
take_twice (suc k) (suc n) (x ∷ xs) l = ap (λ ys. x ∷ ys) (take_twice k n xs (omega arith))

take_front : (end : ℕ) (first z now : List Part) → end ≡ length first → now ≡ first ++ z → take end now ≡ first
take_front end first z now e d = ap₂ take e d ∙ take-append-le (length first) first z (omega arith) ∙ take-length first

pub drop_front : (end : ℕ) (first z now : List Part) → end ≡ length first → now ≡ first ++ z → drop end now ≡ z
drop_front end first z now e d = ap₂ drop e d ∙ drop-append-le (length first) first z (omega arith) ∙ ap (λ l. l ++ z) (drop-length first)

pub take_all : (end : ℕ) (first : List Part) → end ≡ length first → take end first ≡ first
take_all end first e = ap (λ n. take n first) e ∙ take-length first

pub kept_twice : (first z mid last : List Part) → mid ≡ first ++ z → take (length mid) last ≡ mid → take (length first) last ≡ first
kept_twice first z mid last e k =
    sym (take_twice (length first) (length mid) last (omega (arith, ap length e, length-append first z))) ∙ ap (take (length first)) k ∙ take_front (length first) first z mid refl e

pub spread_more : (f g : List Node) (at v w : ℕ) (first now more : List Part) (start end : ℕ) → end ≡ length first → w ≡ v + 1 → now ≡ first ++ spread_to f g at v (drop start first) → more ≡ now ++ cofactors f g at v (drop start (take end now)) → more ≡ first ++ spread_to f g at w (drop start first)
spread_more f g at v w first now more start end e q d m =
    let z : List Part = spread_to f g at v (drop start first) in
    let next : suc v ≡ w = omega arith in
    m
    ∙ ap₂ (λ l r. l ++ cofactors f g at v (drop start r)) d (take_front end first z now e d)
    ∙ append_assoc first z (cofactors f g at v (drop start first))
    ∙ ap (λ n. first ++ spread_to f g at n (drop start first)) next

-- ---- what a step says, said of another fact

pub leaf_map : (step : Step) (P Q : ℤ → Type 0) → ((z : ℤ) → P z → Q z) → IfLeaf step P → IfLeaf step Q
leaf_map (StepLeaf z) P Q m h = m z h
leaf_map (Branch s) P Q m h = tt

pub branch_map : (step : Step) (P Q : ℕ → Type 0) → ((s : ℕ) → P s → Q s) → IfBranch step P → IfBranch step Q
branch_map (StepLeaf z) P Q m h = tt
branch_map (Branch s) P Q m h = m s h

-- ---- the sum over a slot's values of two functions

small_of : (m : ℕ) (a : Part) → ((z : ℤ) → a ≡ Leaf z → unsigned_abs z ≤ m) → IsPartWithin m a
small_of m (Leaf z) h = h z refl
small_of m (At i) h = tt

attained_small : (f : Func) (m : ℕ) (z : ℤ) → Everywhere f (λ v. unsigned_abs v ≤ m) → Attains f.shape.sizes (value_of f) z → unsigned_abs z ≤ m
attained_small f m z h a = subst (λ v. unsigned_abs v ≤ m) a.value (h a.point a.within)

zero_small : (m : ℕ) (z : ℤ) → pos 0 ≡ z → unsigned_abs z ≤ m
zero_small m z e = omega (arith, ints, e)

leaf_same : (y z : ℤ) → Leaf y ≡ Leaf z → y ≡ z
leaf_same y z e = cc

small_nodes : (f : Func) (m : ℕ) → IsScope f.shape → Everywhere f (λ v. unsigned_abs v ≤ m) → (k v : ℕ) → k < length (node_list f) → IsPartWithin m (part_at (node_list f) k v)
small_nodes f m c h k v l =
    small_of m (part_at (node_list f) k v) (λ z e. ⊎_elim
    (λ (in_node : v < length (node_at (node_list f) k).parts). attained_small f m z h (leaf_attained f c k v z l in_node e))
    (λ (past : length (node_at (node_list f) k).parts ≤ v). zero_small m z (leaf_same (pos 0) z (sym (get_or_past (node_at (node_list f) k).parts v (Leaf (pos 0)) past) ∙ e)))
    (cases_lt v (length (node_at (node_list f) k).parts)))

small_root : (f : Func) (m : ℕ) → IsScope f.shape → Everywhere f (λ v. unsigned_abs v ≤ m) → IsPartWithin m (root_part f)
small_root f m c h = small_of m (root_part f) (λ z e. attained_small f m z h (root_attained f c z e))

-- a function where a slot has a value, by its root
root_with : (f : Func) (at v : ℕ) → IsScope f.shape → at < length f.shape.sizes → v < get_or f.shape.sizes at 0 → (p : List ℕ) → IsPointOf f p → node_value (with_slot at v (at_point p)) (node_list f) (root_part f) ≡ value_of f (set p at v)
root_with f at v k l m p w =
    let h : IsMade f.shape.sizes (value_of f) (node_list f, root_part f) = func_made f in
    let in_p : at < length p = omega (arith, length-within f.shape.sizes p w) in
    value_from f.shape.sizes (node_list f) h.ordered (root_part f) h.below (length f.shape.sizes) 0 (omega arith) (with_slot at v (at_point p)) (at_point (set p at v)) (λ t k. point_step (nat_eq t at) at v t p refl in_p)
    ∙ h.value (set p at v) (within-set f.shape.sizes p at v w m)

sum_below : (n : ℕ) (a b : ℕ → ℤ) → ((v : ℕ) → v < n → a v ≡ b v) → sum_to n a ≡ sum_to n b
sum_below zero a b h = refl
sum_below (suc n) a b h = add_same (sum_below n a b (λ v l. h v (omega arith))) (h n (omega arith))

last_none : (x y z w : ℤ) → x ≡ z → y ≡ w → (x *ℤ y) +ℤ pos 0 ≡ z *ℤ w
last_none x y z w e d = zero_last (x *ℤ y) ∙ mul_same e d
  where
    zero_last : (u : ℤ) → u +ℤ pos 0 ≡ u
    zero_last u = omega (arith, ints)

pub weighing : (f p : Func) (slot : ℕ) → f.shape ≡ p.shape → IsScope f.shape → slot < length f.shape.sizes → Everywhere f (λ v. unsigned_abs v ≤ 2 ^ 62) → Everywhere p (λ v. unsigned_abs v ≤ ticks) → IsSumOf f.shape.sizes slot (node_list p) (node_list f) true (root_part p ∷ root_part f ∷ [])
weighing f p slot e k l h w =
    let m : IsMade f.shape.sizes (value_of f) (node_list f, root_part f) = func_made f in
    let n : IsMade p.shape.sizes (value_of p) (node_list p, root_part p) = func_made p in
    let kp : IsScope p.shape = subst IsScope e k in
    record {
      tables = record {
        positive = scope_positive f.shape k;
        left = subst (λ (s : Shape). IsOrdered s.sizes (node_list p)) (sym e) n.ordered;
        right = m.ordered;
        within = l;
        values = AllSizes-get_or f.shape.sizes slot k.each;
        most_left = ticks;
        most_right = 2 ^ 62;
        product = omega arith;
        small_left = small_nodes p ticks kp w;
        small_right = small_nodes f (2 ^ 62) k h;
      };
      pairs = (n.below, m.below, tt);
      small = (small_root p ticks kp w, small_root f (2 ^ 62) k h, tt);
      few = omega arith;
      behind = λ q. absurd (false≢true (sym q));
    }

pub weighed_is : (f p : Func) (slot : ℕ) → f.shape ≡ p.shape → IsScope f.shape → slot < length f.shape.sizes → function_of f.shape (λ x. sum_meaning true f.shape.sizes slot (node_list p) (node_list f) true (root_part p ∷ root_part f ∷ []) (at_point x)) ≡ weighed_out f slot p
unfolding sum_meaning
weighed_is f p slot e k l =
    same_function f.shape _ _ (scope_some f.shape k) (λ x w.
    ap (λ z. floor_div z ticks) (sum_below (get_or f.shape.sizes slot 0) _ _ (λ v m.
    last_none _ _ _ _
    (root_with p slot v (subst IsScope e k) (subst (λ (s : Shape). slot < length s.sizes) e l) (subst (λ (s : Shape). v < get_or s.sizes slot 0) e m) x (subst (λ (s : Shape). IsPoint s.sizes x) e w))
    (root_with f slot v k l m x w))))

ordered_none : (sizes : List ℕ) (ns : List Node) → ns ≡ [] → IsOrdered sizes ns
ordered_none sizes ns e =
    let none : (k : ℕ) → k < length ns → ⊥ = λ k l. absurd (omega (arith, ap length e)) in
    record { below = λ k l. absurd (none k l); later = λ k l. absurd (none k l); counts = λ k l. absurd (none k l); slots = λ k l. absurd (none k l) }

pub summing : (f : Func) (slot : ℕ) (ns : List Node) → ns ≡ [] → IsScope f.shape → slot < length f.shape.sizes → Everywhere f (λ v. unsigned_abs v ≤ 2 ^ 100) → IsSumOf f.shape.sizes slot ns (node_list f) true (Leaf (pos 1) ∷ root_part f ∷ [])
summing f slot ns e k l h =
    let m : IsMade f.shape.sizes (value_of f) (node_list f, root_part f) = func_made f in
    record {
      tables = record {
        positive = scope_positive f.shape k;
        left = ordered_none f.shape.sizes ns e;
        right = m.ordered;
        within = l;
        values = AllSizes-get_or f.shape.sizes slot k.each;
        most_left = 1;
        most_right = 2 ^ 100;
        product = omega arith;
        small_left = λ i v b. absurd (omega (arith, b, ap length e));
        small_right = small_nodes f (2 ^ 100) k h;
      };
      pairs = (tt, m.below, tt);
      small = (omega (arith, ints), small_root f (2 ^ 100) k h, tt);
      few = omega arith;
      behind = λ q. absurd (false≢true (sym q));
    }

one_times : (x y : ℤ) → x ≡ y → (pos 1 *ℤ x) +ℤ pos 0 ≡ y
one_times x y e = omega (arith, ints, e)

pub summed_is : (f : Func) (slot : ℕ) (ns : List Node) → IsScope f.shape → slot < length f.shape.sizes → function_of f.shape (λ x. sum_meaning false f.shape.sizes slot ns (node_list f) true (Leaf (pos 1) ∷ root_part f ∷ []) (at_point x)) ≡ summed_out f slot
unfolding sum_meaning node_value
summed_is f slot ns k l =
    same_function f.shape _ _ (scope_some f.shape k) (λ x w.
    sum_below (get_or f.shape.sizes slot 0) _ _ (λ v m. one_times _ _ (root_with f slot v k l m x w)))

-- a sum that is the same everywhere
pub same_leaf : (s : Shape) (h : (ℕ → ℕ) → ℤ) (z : ℤ) → IsScope s → ((π : ℕ → ℕ) → h π ≡ z) → everywhere s z ≡ function_of s (λ p. h (at_point p))
same_leaf s h z k e = same_function s _ _ (scope_some s k) (λ x w. sym (e (at_point x)))

pub same_sum : (s : Shape) (h k : (ℕ → ℕ) → ℤ) → IsScope s → ((π : ℕ → ℕ) → h π ≡ k π) → function_of s (λ p. h (at_point p)) ≡ function_of s (λ p. k (at_point p))
same_sum s h k c e = same_function s _ _ (scope_some s c) (λ x w. e (at_point x))

-- The first point at which one part is above another.
use Rattle.std.proofs.Common.{◌≡◌, ◌≢◌, ℕ, suc, ◌+◌, ◌<◌, ◌≤◌, ⊎_elim, List, [], ◌∷◌, ◌++◌, length, get_or, set, ℤ, ◌≤ℤ◌, ◌<ℤ◌, Bool, true, false, not, sym, ◌∙◌, ap, ap₂, subst, subst₂, refl, arith}
use Rattle.std.specs.Bool.{OnTrue, OnFalse}
use Rattle.std.proofs.lemmas.Bool.{cases_lt, false≢true}
use Rattle.std.proofs.lemmas.Int.{ints}
use Rattle.std.proofs.lemmas.List.{get_or_append_left, get_or_push, length_push, get_or-set_same, get_or-set_other}
use Rattle.sp_dd.specs.declared.part.Part.{Part}
use Rattle.sp_dd.specs.declared.part.Part.TheVariants.{Leaf, At}
use Rattle.sp_dd.specs.declared.memo.State.{State}
use Rattle.sp_dd.specs.NodeLists.{Node, node_value}
use Rattle.sp_ddops.specs.declared.pair_table.PairNumber.{PairNumber}
use Rattle.sp_ddops.specs.PairNumbers.{made_number, key_of, part_of_key, pair_of_keys, PairHasNumber}
use Rattle.sp_ddops.specs.Cofactors.{leaf_of, cofactor_of}
use Rattle.sp_ddops.specs.Pairs.{IsPair, least_slot, state_cofactor}
use Rattle.sp_ddops.specs.StateSums.{pair_of}
use Rattle.sp_ddops.specs.Firsts.{IsAssignment, AreBelow, IsFirstFrom, leaf_number, AreNowhere}
use Rattle.sp_ddops.proofs.CofactorLemmas.{value_from, cofactor_value, IsCofactor, is_cofactor, is_leaf}

-- ---- a step

left_cofactor : (sizes : List ℕ) (f g : List Node) (q : State) (s v : ℕ) → IsPair sizes f g q → (π : ℕ → ℕ) → π s ≡ v → node_value π f q.left ≡ node_value π f (cofactor_of f s v q.left)
left_cofactor sizes f g q s v h π e = cofactor_value sizes f h.left q.left h.left_before s v π e

right_cofactor : (sizes : List ℕ) (f g : List Node) (q : State) (s v : ℕ) → IsPair sizes f g q → (π : ℕ → ℕ) → π s ≡ v → node_value π g q.right ≡ node_value π g (cofactor_of g s v q.right)
right_cofactor sizes f g q s v h π e = cofactor_value sizes g h.right q.right h.right_before s v π e

-- a pair is below where it is for each value of a slot
below_at : (sizes : List ℕ) (f g : List Node) (q : State) (s v : ℕ) → IsPair sizes f g q → AreBelow sizes f g (state_cofactor f g s v q) → (π : ℕ → ℕ) → IsAssignment sizes π → π s ≡ v → node_value π f q.left ≤ℤ node_value π g q.right
unfolding AreBelow
below_at sizes f g q s v h b π i e =
    subst₂ (λ x y. x ≤ℤ y) (sym (left_cofactor sizes f g q s v h π e)) (sym (right_cofactor sizes f g q s v h π e)) (b π i)

pub below_all : (sizes : List ℕ) (f g : List Node) (q : State) (s n : ℕ) → IsPair sizes f g q → s < length sizes → n ≡ get_or sizes s 0 → ((v : ℕ) → v < n → AreBelow sizes f g (state_cofactor f g s v q)) → AreBelow sizes f g q
unfolding AreBelow
below_all sizes f g q s n h l e b π i = below_at sizes f g q s (π s) h (b (π s) (omega (arith, e, i s l))) π i refl

pub first_step : (sizes : List ℕ) (f g : List Node) (q r : State) (lo s v : ℕ) (π ρ : ℕ → ℕ) → IsPair sizes f g q → lo ≤ s → s ≡ least_slot sizes f g q → s < length sizes → v < get_or sizes s 0 → r ≡ state_cofactor f g s v q → ((u : ℕ) → u < v → AreBelow sizes f g (state_cofactor f g s u q)) → IsFirstFrom sizes f g r (s + 1) π → ρ s ≡ v → ((i : ℕ) → i ≢ s → ρ i ≡ π i) → IsFirstFrom sizes f g q lo ρ
first_step sizes f g q r lo s v π ρ h m e l w d b k here there =
    let n : ℕ = length sizes in
    let c : IsFirstFrom sizes f g (state_cofactor f g s v q) (s + 1) π = subst (λ t. IsFirstFrom sizes f g t (s + 1) π) d k in
    let x : IsCofactor n s f q.left (cofactor_of f s v q.left) = is_cofactor sizes f h.left n s v q.left h.left_before l (omega arith) in
    let y : IsCofactor n s g q.right (cofactor_of g s v q.right) = is_cofactor sizes g h.right n s v q.right h.right_before l (omega arith) in
    let later : (t : ℕ) → suc s ≤ t → ρ t ≡ π t = λ t a. there t (omega arith) in
    let left : node_value ρ f q.left ≡ node_value π f (cofactor_of f s v q.left) = left_cofactor sizes f g q s v h ρ here ∙ value_from sizes f h.left (cofactor_of f s v q.left) x.before n (suc s) x.later ρ π later in
    let right : node_value ρ g q.right ≡ node_value π g (cofactor_of g s v q.right) = right_cofactor sizes f g q s v h ρ here ∙ value_from sizes g h.right (cofactor_of g s v q.right) y.before n (suc s) y.later ρ π later in
    let low : (i : ℕ) → i < s → ρ i ≡ 0 = λ i a. there i (omega arith) ∙ k.low i (omega arith) in
    record {
      inside = λ i a. ⊎_elim (λ (p : i < s). omega (arith, there i (omega arith), k.inside i a)) (λ (p : s ≤ i). ⊎_elim (λ (o : i < suc s). (let is : i ≡ s = omega arith in omega (arith, ap ρ is, here, w, ap (λ t. get_or sizes t 0) is))) (λ (o : suc s ≤ i). omega (arith, later i o, k.inside i a)) (cases_lt i (suc s))) (cases_lt i s);
      outside = λ i a. later i (omega arith) ∙ k.outside i a;
      low = λ i a. low i (omega arith);
      above = subst₂ (λ a b. a <ℤ b) (sym right) (sym left) c.above;
      before = λ σ i j a o same less.
          ⊎_elim
          (λ (p : j < s). absurd (omega (arith, less, low j p)))
          (λ (p : s ≤ j).
          ⊎_elim
          (λ (z : j < suc s).
          (let is : j ≡ s = omega arith in
          let fewer : σ s < v = omega (arith, less, ap σ is, ap ρ is, here) in
          below_at sizes f g q s (σ s) h (b (σ s) fewer) σ i refl))
          (λ (z : suc s ≤ j).
          (let is : σ s ≡ v = same s m (omega arith) ∙ here in
          subst₂ (λ x y. x ≤ℤ y) (sym (left_cofactor sizes f g q s v h σ is)) (sym (right_cofactor sizes f g q s v h σ is))
          (c.before σ i j (omega arith) o (λ t t1 t2. same t (omega arith) t2 ∙ later t (omega arith)) (omega (arith, less, later j z)))))
          (cases_lt j (suc s)))
          (cases_lt j s);
    }

-- ---- two leaves

leaf_value : (π : ℕ → ℕ) (f : List Node) (a : Part) → a ≡ Leaf (leaf_of a) → node_value π f a ≡ leaf_of a
unfolding node_value
leaf_value π f a e = ap (node_value π f) e

pub leaves_below : (sizes : List ℕ) (f g : List Node) (q : State) → IsPair sizes f g q → length sizes ≤ least_slot sizes f g q → leaf_of q.left ≤ℤ leaf_of q.right → AreBelow sizes f g q
unfolding AreBelow
leaves_below sizes f g q h l k π i =
    let x : q.left ≡ Leaf (leaf_of q.left) = is_leaf sizes f h.left q.left h.left_before (omega arith) in
    let y : q.right ≡ Leaf (leaf_of q.right) = is_leaf sizes g h.right q.right h.right_before (omega arith) in
    subst₂ (λ a b. a ≤ℤ b) (sym (leaf_value π f q.left x)) (sym (leaf_value π g q.right y)) k

pub leaves_first : (sizes : List ℕ) (f g : List Node) (q : State) (lo : ℕ) (π : ℕ → ℕ) → IsPair sizes f g q → length sizes ≤ least_slot sizes f g q → leaf_of q.right <ℤ leaf_of q.left → ((i : ℕ) → π i ≡ 0) → IsFirstFrom sizes f g q lo π
leaves_first sizes f g q lo π h l k blank =
    let x : q.left ≡ Leaf (leaf_of q.left) = is_leaf sizes f h.left q.left h.left_before (omega arith) in
    let y : q.right ≡ Leaf (leaf_of q.right) = is_leaf sizes g h.right q.right h.right_before (omega arith) in
    record {
      inside = λ i a. omega (arith, blank i, h.positive i a);
      outside = λ i a. blank i;
      low = λ i a. blank i;
      above = subst₂ (λ a b. a <ℤ b) (sym (leaf_value π g q.right y)) (sym (leaf_value π f q.left x)) k;
      before = λ σ i j a o same less. absurd (omega (arith, less, blank j));
    }

-- ---- what is remembered

node_leaf : (π : ℕ → ℕ) (f : List Node) (z : ℤ) → node_value π f (Leaf z) ≡ z
unfolding node_value
node_leaf π f z = refl

leaf_less : (sizes : List ℕ) (f g : List Node) (x z : ℤ) (b : Part) → x ≤ℤ z → AreBelow sizes f g (pair_of (Leaf z) b) → AreBelow sizes f g (pair_of (Leaf x) b)
unfolding AreBelow
leaf_less sizes f g x z b l h π i = omega (arith, ints, l, h π i, node_leaf π f x, node_leaf π f z)

leaf_more : (sizes : List ℕ) (f g : List Node) (y z : ℤ) (a : Part) → z ≤ℤ y → AreBelow sizes f g (pair_of a (Leaf z)) → AreBelow sizes f g (pair_of a (Leaf y))
unfolding AreBelow
leaf_more sizes f g y z a l h π i = omega (arith, ints, l, h π i, node_leaf π g y, node_leaf π g z)

pub leaf_left_known : (b : Bool) (sizes : List ℕ) (f g : List Node) (es : List PairNumber) (q : State) (l r j : ℕ) (x z : ℤ) → AreNowhere sizes f g es → PairHasNumber es l r z → l ≡ key_of q.left → r ≡ key_of q.right → q.left ≡ Leaf x → q.right ≡ At j → OnFalse b (x ≤ℤ z) → b ≡ false → AreBelow sizes f g q
unfolding AreBelow
leaf_left_known true sizes f g es q l r j x z k h d e a c o t = absurd (false≢true (sym t))
leaf_left_known false sizes f g es q l r j x z k h d e a c o t =
    let pair : pair_of_keys z l r ≡ pair_of (Leaf z) (At j) = ap₂ pair_of (ap (part_of_key z) (d ∙ ap key_of a)) (ap (part_of_key z) (e ∙ ap key_of c)) in
    subst₂ (λ u v. AreBelow sizes f g (pair_of u v)) (sym a) (sym c) (leaf_less sizes f g x z (At j) o (subst (AreBelow sizes f g) pair (k l r z h)))

pub leaf_right_known : (b : Bool) (sizes : List ℕ) (f g : List Node) (es : List PairNumber) (q : State) (l r i : ℕ) (y z : ℤ) → AreNowhere sizes f g es → PairHasNumber es l r z → l ≡ key_of q.left → r ≡ key_of q.right → q.left ≡ At i → q.right ≡ Leaf y → OnFalse b (z ≤ℤ y) → b ≡ false → AreBelow sizes f g q
unfolding AreBelow
leaf_right_known true sizes f g es q l r i y z k h d e a c o t = absurd (false≢true (sym t))
leaf_right_known false sizes f g es q l r i y z k h d e a c o t =
    let pair : pair_of_keys z l r ≡ pair_of (At i) (Leaf z) = ap₂ pair_of (ap (part_of_key z) (d ∙ ap key_of a)) (ap (part_of_key z) (e ∙ ap key_of c)) in
    subst₂ (λ u v. AreBelow sizes f g (pair_of u v)) (sym a) (sym c) (leaf_more sizes f g y z (At i) o (subst (AreBelow sizes f g) pair (k l r z h)))

pub nodes_known : (sizes : List ℕ) (f g : List Node) (es : List PairNumber) (q : State) (l r i j : ℕ) (z : ℤ) → AreNowhere sizes f g es → PairHasNumber es l r z → l ≡ key_of q.left → r ≡ key_of q.right → q.left ≡ At i → q.right ≡ At j → AreBelow sizes f g q
unfolding AreBelow
nodes_known sizes f g es q l r i j z k h d e a c =
    let pair : pair_of_keys z l r ≡ pair_of (At i) (At j) = ap₂ pair_of (ap (part_of_key z) (d ∙ ap key_of a)) (ap (part_of_key z) (e ∙ ap key_of c)) in
    subst₂ (λ u v. AreBelow sizes f g (pair_of u v)) (sym a) (sym c) (subst (AreBelow sizes f g) pair (k l r z h))

-- the keys of a pair with a node, and its leaf, give the pair
number_pair : (sizes : List ℕ) (f g : List Node) (a b : Part) → least_slot sizes f g (pair_of a b) < length sizes → pair_of_keys (leaf_number a b) (key_of a) (key_of b) ≡ pair_of a b
number_pair sizes f g (Leaf x) (Leaf y) m = absurd (omega arith)
number_pair sizes f g (Leaf x) (At j) m = refl
number_pair sizes f g (At i) (Leaf y) m = refl
number_pair sizes f g (At i) (At j) m = refl

last_number : (sizes : List ℕ) (f g : List Node) (l r m n : ℕ) (y z : ℤ) → AreBelow sizes f g (pair_of_keys y l r) → made_number l r y ≡ made_number m n z → AreBelow sizes f g (pair_of_keys z m n)
last_number sizes f g l r m n y z h e =
    let P : PairNumber → Type 0 = λ x. AreBelow sizes f g (pair_of_keys x.number x.left x.right) in
    subst P e h

pub nowhere_push : (sizes : List ℕ) (f g : List Node) (es more : List PairNumber) (q : State) (l r : ℕ) (z : ℤ) → AreNowhere sizes f g es → least_slot sizes f g q < length sizes → AreBelow sizes f g q → l ≡ key_of q.left → r ≡ key_of q.right → z ≡ leaf_number q.left q.right → more ≡ es ++ made_number l r z ∷ [] → AreNowhere sizes f g more
unfolding AreBelow
nowhere_push sizes f g es more q l r z k m b d e w is =
    let pair : pair_of_keys z l r ≡ pair_of q.left q.right =
    ap (λ t. pair_of_keys t l r) w ∙ ap₂ (pair_of_keys (leaf_number q.left q.right)) d e ∙ number_pair sizes f g q.left q.right m in
    let here : AreBelow sizes f g (pair_of_keys z l r) = subst (AreBelow sizes f g) (sym pair) b in
    let one : PairNumber = made_number l r z in
    subst (λ x. AreNowhere sizes f g x) (sym is) (λ m n y h.
    (let there : PairHasNumber (es ++ one ∷ []) m n y = h in
    ⊎_elim
    (λ (low : there.place < length es). k m n y (record { place = there.place; within = low; is = sym (get_or_append_left es (one ∷ []) (made_number m n y) there.place low) ∙ there.is }))
    (λ (high : length es ≤ there.place).
    (let last : length es ≡ there.place = omega (arith, there.within, length_push es one) in
    last_number sizes f g l r m n z y here (sym (get_or_push es one (made_number m n y) there.place last) ∙ there.is)))
    (cases_lt there.place (length es))))

pub on_yes : (b : Bool) (P Q : Type 0) → (P → Q) → OnTrue b P → OnTrue b Q
on_yes true P Q h p = h p
on_yes false P Q h p = tt

pub on_no : (b : Bool) (P Q : Type 0) → (P → Q) → OnFalse b P → OnFalse b Q
on_no true P Q h p = tt
on_no false P Q h p = h p

pub on_not : (b : Bool) (P : Type 0) → (b ≡ false → P) → OnTrue (not b) P
on_not true P h = tt
on_not false P h = h refl

-- the point with one value more
pub point_here : (point : List ℕ) (s v : ℕ) → s < length point → get_or (set point s v) s 0 ≡ v
point_here point s v l = get_or-set_same point s v 0 l

pub point_there : (point : List ℕ) (s v i : ℕ) → i ≢ s → get_or (set point s v) i 0 ≡ get_or point i 0
point_there point s v i n = get_or-set_other point s i v 0 n

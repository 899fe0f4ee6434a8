-- The values of a part over the slots from one on.
use Rattle.std.proofs.Common.{◌≡◌, ℕ, suc, ◌+◌, ◌*◌, ◌/◌, ◌<◌, ◌≤◌, List, ◌++◌, length, get_or, drop, replicate, ℤ, sym, ◌∙◌, ap, ap₂, refl, subst, arith, All, append_assoc}
use Rattle.std.proofs.lemmas.List.{length-replicate, get_or-replicate}
use Rattle.std.proofs.lemmas.List.Elements.{All-get_or}
use Rattle.std.proofs.Math.Nat.{mul-le-mul_right}
use Rattle.sp_dd.specs.declared.part.Part.{Part}
use Rattle.sp_dd.specs.declared.part.Part.TheVariants.{Leaf, At}
use Rattle.sp_dd.specs.NodeLists.{Node, node_value}
use Rattle.sp_dd.specs.Points.{product}
use Rattle.sp_dd.specs.Func.{Shape}
use Rattle.sp_states.specs.declared.support.Entry.{Entry}
use Rattle.sp_states.specs.States.{widths_of, joined_to, values_over, entries_from}
use Rattle.sp_states.specs.Walks.{IsPartFrom, value_of_part, cofactor_of}
use Rattle.sp_states.proofs.WidthLemmas.{as_long, product_drop, product_some, widths_sizes, width_most}
use Rattle.sp_states.proofs.Listing.{All-joined, over_constant, length-over}
use Rattle.sp_states.proofs.Cofactors.{branch_values, next_part}
use Rattle.sp_states.proofs.Blocks.{joined_more, joined_past}

-- ---- a leaf

leaf_value : (ns : List Node) (z : ℤ) (π : ℕ → ℕ) → value_of_part ns (Leaf z) π ≡ z
unfolding node_value
leaf_value ns z π = refl

pub leaf_over : (s : Shape) (ns : List Node) (a : Part) (slot count : ℕ) (z : ℤ) → IsPartFrom s ns a slot count → a ≡ Leaf z → values_over (widths_of s) slot (value_of_part ns a) ≡ replicate count z
leaf_over s ns a slot count z h e = over_constant (widths_of s) slot count (value_of_part ns a) z (λ π. ap (λ b. value_of_part ns b π) e ∙ leaf_value ns z π) h.states

pub leaf_all : (P : ℤ → Type 0) (s : Shape) (ns : List Node) (a : Part) (slot count : ℕ) (z : ℤ) → IsPartFrom s ns a slot count → a ≡ Leaf z → All P (values_over (widths_of s) slot (value_of_part ns a)) → P z
leaf_all P s ns a slot count z h e all =
    let some : 0 < count = omega (arith, h.states, product_some (widths_of s) slot (widths_sizes s h.scope)) in
    let one : P (get_or (replicate count z) 0 z) = All-get_or P (replicate count z) 0 z (omega (arith, some, length-replicate count z)) (subst (All P) (leaf_over s ns a slot count z h e) all) in
    subst P (get_or-replicate count 0 z z some) one

-- ---- a branch

pub branch_slot : (s : Shape) (ns : List Node) (a : Part) (slot count i : ℕ) → IsPartFrom s ns a slot count → a ≡ At i → slot < length s.sizes
branch_slot s ns a slot count i h e = slot_here s ns i slot count (subst (λ b. IsPartFrom s ns b slot count) e h)
  where
    slot_here : (s : Shape) (ns : List Node) (i slot count : ℕ) → IsPartFrom s ns (At i) slot count → slot < length s.sizes
    slot_here s ns i slot count h = omega (arith, h.from, h.ordered.slots i h.before)

-- the values of the cofactors
abbrev pub cofactor_values : Shape → List Node → Part → ℕ → ℕ → List ℤ
cofactor_values s ns a slot v = values_over (widths_of s) (slot + 1) (value_of_part ns (cofactor_of ns slot v a))

pub branch_within : (s : Shape) (ns : List Node) (a : Part) (slot count width v : ℕ) → IsPartFrom s ns a slot count → slot < length s.sizes → width ≡ get_or (widths_of s) slot 0 → v < width → v < get_or s.sizes slot 0
branch_within s ns a slot count width v h l w m = omega (arith, w, m, width_most s slot h.scope l)

pub branch_all : (P : ℤ → Type 0) (s : Shape) (ns : List Node) (a b : Part) (slot count width v : ℕ) → IsPartFrom s ns a slot count → slot < length s.sizes → width ≡ get_or (widths_of s) slot 0 → v < width → b ≡ cofactor_of ns slot v a → All P (values_over (widths_of s) slot (value_of_part ns a)) → All P (values_over (widths_of s) (slot + 1) (value_of_part ns b))
branch_all P s ns a b slot count width v h l w m e all =
    subst (λ c. All P (values_over (widths_of s) (slot + 1) (value_of_part ns c))) (sym e)
    (All-joined P (get_or (widths_of s) slot 0) v (cofactor_values s ns a slot) (omega (arith, w, m)) (subst (All P) (branch_values s ns a slot count h l) all))

pub branch_done : (s : Shape) (ns : List Node) (a : Part) (slot count width v : ℕ) (xs old : List ℤ) → IsPartFrom s ns a slot count → slot < length s.sizes → width ≡ get_or (widths_of s) slot 0 → v ≡ width → xs ≡ old ++ joined_to v (cofactor_values s ns a slot) → xs ≡ old ++ values_over (widths_of s) slot (value_of_part ns a)
branch_done s ns a slot count width v xs old h l w m e =
    e ∙ ap (λ n. old ++ joined_to n (cofactor_values s ns a slot)) (m ∙ w) ∙ ap (λ vs. old ++ vs) (sym (branch_values s ns a slot count h l))

pub branch_more : (s : Shape) (ns : List Node) (a b : Part) (slot v : ℕ) (xs ys old : List ℤ) → b ≡ cofactor_of ns slot v a → xs ≡ old ++ joined_to v (cofactor_values s ns a slot) → ys ≡ xs ++ values_over (widths_of s) (slot + 1) (value_of_part ns b) → ys ≡ old ++ joined_to (v + 1) (cofactor_values s ns a slot)
branch_more s ns a b slot v xs ys old e f g =
    let up : suc v ≡ v + 1 = omega arith in
    let one : ℕ → List ℤ = cofactor_values s ns a slot in
    g
    ∙ ap₂ (λ x y. x ++ y) f (ap (λ c. values_over (widths_of s) (slot + 1) (value_of_part ns c)) e)
    ∙ append_assoc old (joined_to v one) (one v)
    ∙ ap (λ n. old ++ joined_to n one) up

-- ---- entries of a branch

next_count : (s : Shape) (ns : List Node) (a : Part) (slot count width : ℕ) → IsPartFrom s ns a slot count → slot < length s.sizes → width ≡ get_or (widths_of s) slot 0 → count / width ≡ product (drop (slot + 1) (widths_of s))
next_count s ns a slot count width h l w = (next_part s ns a (cofactor_of ns slot 0 a) slot count width 0 h l w refl).states

all_count : (s : Shape) (ns : List Node) (a : Part) (slot count width : ℕ) → IsPartFrom s ns a slot count → slot < length s.sizes → width ≡ get_or (widths_of s) slot 0 → count ≡ width * (count / width)
all_count s ns a slot count width h l w =
    let up : suc slot ≡ slot + 1 = omega arith in
    h.states ∙ product_drop (widths_of s) slot (omega (arith, as_long s)) ∙ ap₂ (λ x i. x * product (drop i (widths_of s))) (sym w) up ∙ ap (λ n. width * n) (sym (next_count s ns a slot count width h l w))

-- the block of a value is within the whole block
pub block_within : (s : Shape) (ns : List Node) (a : Part) (slot count width v first : ℕ) → IsPartFrom s ns a slot count → slot < length s.sizes → width ≡ get_or (widths_of s) slot 0 → v < width → first + count ≤ 65536 → first + v * (count / width) + count / width ≤ 65536
block_within s ns a slot count width v first h l w m f =
    let p : ℕ = count / width in
    let less : suc v * p ≤ width * p = mul-le-mul_right p m in
    omega (arith, all_count s ns a slot count width h l w, less)

pub support_more : (s : Shape) (ns : List Node) (a b : Part) (slot count width v first : ℕ) (old xs ys : List Entry) → IsPartFrom s ns a slot count → slot < length s.sizes → width ≡ get_or (widths_of s) slot 0 → b ≡ cofactor_of ns slot v a → xs ≡ old ++ entries_from first (joined_to v (cofactor_values s ns a slot)) → ys ≡ xs ++ entries_from (first + v * (count / width)) (values_over (widths_of s) (slot + 1) (value_of_part ns b)) → ys ≡ old ++ entries_from first (joined_to (v + 1) (cofactor_values s ns a slot))
support_more s ns a b slot count width v first old xs ys h l w e f g =
    joined_more first v (count / width) (first + v * (count / width)) (cofactor_values s ns a slot) old xs ys
    (λ u. length-over (widths_of s) (slot + 1) (value_of_part ns (cofactor_of ns slot u a)) ∙ sym (next_count s ns a slot count width h l w))
    refl f (g ∙ ap (λ c. xs ++ entries_from (first + v * (count / width)) (values_over (widths_of s) (slot + 1) (value_of_part ns c))) e)

pub support_past : (s : Shape) (ns : List Node) (a b : Part) (slot count width v first room : ℕ) (old xs : List Entry) → IsPartFrom s ns a slot count → slot < length s.sizes → width ≡ get_or (widths_of s) slot 0 → v < width → b ≡ cofactor_of ns slot v a → xs ≡ old ++ entries_from first (joined_to v (cofactor_values s ns a slot)) → room < length (xs ++ entries_from (first + v * (count / width)) (values_over (widths_of s) (slot + 1) (value_of_part ns b))) → room < length (old ++ entries_from first (values_over (widths_of s) slot (value_of_part ns a)))
support_past s ns a b slot count width v first room old xs h l w m e f g =
    let P : Part → Type 0 = λ c. room < length (xs ++ entries_from (first + v * (count / width)) (values_over (widths_of s) (slot + 1) (value_of_part ns c))) in
    let past : room < length (old ++ entries_from first (joined_to (get_or (widths_of s) slot 0) (cofactor_values s ns a slot))) =
    joined_past first v (get_or (widths_of s) slot 0) (count / width) (first + v * (count / width)) room (cofactor_values s ns a slot) old xs
    (λ u. length-over (widths_of s) (slot + 1) (value_of_part ns (cofactor_of ns slot u a)) ∙ sym (next_count s ns a slot count width h l w))
    refl f (omega (arith, m, w)) (subst P e g) in
    subst (λ vs. room < length (old ++ entries_from first vs)) (sym (branch_values s ns a slot count h l)) past

pub support_done : (s : Shape) (ns : List Node) (a : Part) (slot count width v first : ℕ) (old xs : List Entry) → IsPartFrom s ns a slot count → slot < length s.sizes → width ≡ get_or (widths_of s) slot 0 → v ≡ width → xs ≡ old ++ entries_from first (joined_to v (cofactor_values s ns a slot)) → xs ≡ old ++ entries_from first (values_over (widths_of s) slot (value_of_part ns a))
support_done s ns a slot count width v first old xs h l w m e =
    e ∙ ap (λ n. old ++ entries_from first (joined_to n (cofactor_values s ns a slot))) (m ∙ w) ∙ ap (λ vs. old ++ entries_from first vs) (sym (branch_values s ns a slot count h l))

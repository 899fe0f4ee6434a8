-- A part where a slot has a value.
use Rattle.std.proofs.Common.{◌≡◌, ◌≢◌, ℕ, suc, ◌+◌, ◌*◌, ◌/◌, ◌<◌, ◌≤◌, List, length, get_or, drop, ℤ, Bool, true, false, cond, nat_eq, sym, ◌∙◌, ap, refl, subst, arith, le_refl}
use Rattle.std.proofs.lemmas.Bool.{false≢true}
use Rattle.std.proofs.lemmas.Bool.Decides.{Decides-eqb}
use Rattle.std.proofs.Math.Nat.{mul-div_cancel_left}
use Rattle.sp_dd.specs.declared.part.Part.{Part}
use Rattle.sp_dd.specs.declared.part.Part.TheVariants.{Leaf, At}
use Rattle.sp_dd.specs.NodeLists.{Node, node_value}
use Rattle.sp_dd.specs.Points.{product}
use Rattle.sp_dd.specs.Func.{Shape}
use Rattle.sp_dd.specs.Ordered.{node_at, part_at, IsBefore, IsFrom, IsOrdered}
use Rattle.sp_dd.specs.Walks.{IsFromSlot}
use Rattle.sp_dd.proofs.NodeValues.{value-node, value-agrees, IsBefore-mono}
use Rattle.sp_states.specs.States.{widths_of, joined_to, values_over}
use Rattle.sp_states.specs.Walks.{IsPartFrom, value_of_part, cofactor_of}
use Rattle.sp_states.proofs.WidthLemmas.{as_long, product_drop, width_at}
use Rattle.sp_states.proofs.Listing.{over_branch}

-- a part that speaks of slots from one on has a value by those
pub value_from : (sizes : List ℕ) (ns : List Node) → IsOrdered sizes ns → (a : Part) (s : ℕ) → IsBefore (length ns) a → IsFrom s ns a → IsFromSlot s (value_of_part ns a)
value_from sizes ns o a s b f π ρ e = value-agrees sizes ns o π ρ s e (length ns) a b (le_refl (length ns)) f

-- what is known of a part where a slot has a value
record IsCofactor (ns : List Node) (s v : ℕ) (a b : Part) : Type 0 where
  before : IsBefore (length ns) b
  from : IsFrom (suc s) ns b
  value : (π : ℕ → ℕ) → π s ≡ v → node_value π ns a ≡ node_value π ns b

cofactor_step : (t : Bool) (sizes : List ℕ) (ns : List Node) (s v i : ℕ) → nat_eq (node_at ns i).slot s ≡ t → IsOrdered sizes ns → i < length ns → s ≤ (node_at ns i).slot → IsCofactor ns s v (At i) (cond t (part_at ns i v) (At i))
cofactor_step true sizes ns s v i e o l f =
    let q : (node_at ns i).slot ≡ s = (Decides-eqb (node_at ns i).slot s).0 e in
    let P : ℕ → Type 0 = λ t. IsFrom (suc t) ns (part_at ns i v) in
    record {
      before = IsBefore-mono i (length ns) (part_at ns i v) (omega arith) (o.below i l v);
      from = subst P q (o.later i l v);
      value = λ π h. value-node π ns i l (o.below i l (π (node_at ns i).slot)) ∙ ap (λ k. node_value π ns (part_at ns i k)) (ap π q ∙ h);
    }
cofactor_step false sizes ns s v i e o l f =
    let ne : (node_at ns i).slot ≢ s = λ q. false≢true (sym e ∙ (Decides-eqb (node_at ns i).slot s).1 q) in
    record { before = l; from = omega (arith, ne); value = λ π h. refl }

is_cofactor : (sizes : List ℕ) (ns : List Node) (s v : ℕ) (a : Part) → IsOrdered sizes ns → IsBefore (length ns) a → IsFrom s ns a → IsCofactor ns s v a (cofactor_of ns s v a)
is_cofactor sizes ns s v (Leaf z) o b f = record { before = tt; from = tt; value = λ π h. refl }
is_cofactor sizes ns s v (At i) o b f = cofactor_step (nat_eq (node_at ns i).slot s) sizes ns s v i refl o b f

-- a node's slot is one of the scope's
pub slot_below : (s : Shape) (ns : List Node) (a : Part) (slot count : ℕ) → IsPartFrom s ns a slot count → ((z : ℤ) → a ≢ Leaf z) → slot < length s.sizes
slot_below s ns (Leaf z) slot count h ne = absurd (ne z refl)
slot_below s ns (At i) slot count h ne = omega (arith, h.from, h.ordered.slots i h.before)

-- the values of a slot are values of each node that has it
pub values_within : (s : Shape) (ns : List Node) (slot v : ℕ) → IsOrdered s.sizes ns → v < get_or s.sizes slot 0 → (i : ℕ) → i < length ns → (node_at ns i).slot ≡ slot → v < length (node_at ns i).parts
values_within s ns slot v o m i b e = omega (arith, m, o.counts i b, ap (λ t. get_or s.sizes t 0) e)

-- the part for a value of the slot
pub next_part : (s : Shape) (ns : List Node) (a b : Part) (slot count width v : ℕ) → IsPartFrom s ns a slot count → slot < length s.sizes → width ≡ get_or (widths_of s) slot 0 → b ≡ cofactor_of ns slot v a → IsPartFrom s ns b (slot + 1) (count / width)
next_part s ns a b slot count width v h l w e =
    let c : IsCofactor ns slot v a b = subst (IsCofactor ns slot v a) (sym e) (is_cofactor s.sizes ns slot v a h.ordered h.before h.from) in
    let up : slot + 1 ≡ suc slot = omega arith in
    let P : ℕ → Type 0 = λ t. IsFrom t ns b in
    let some : 0 < width = omega (arith, w, (width_at s slot h.scope l).some) in
    let all : count ≡ width * product (drop (suc slot) (widths_of s)) = h.states ∙ product_drop (widths_of s) slot (omega (arith, as_long s)) ∙ ap (λ k. k * product (drop (suc slot) (widths_of s))) (sym w) in
    record {
      scope = h.scope;
      ordered = h.ordered;
      before = c.before;
      from = subst P (sym up) c.from;
      within = omega arith;
      states = ap (λ n. n / width) all ∙ mul-div_cancel_left (product (drop (suc slot) (widths_of s))) some ∙ ap (λ t. product (drop t (widths_of s))) (sym up);
    }

-- the values of a part are those of its cofactors, one after another
pub branch_values : (s : Shape) (ns : List Node) (a : Part) (slot count : ℕ) → IsPartFrom s ns a slot count → slot < length s.sizes → values_over (widths_of s) slot (value_of_part ns a) ≡ joined_to (get_or (widths_of s) slot 0) (λ v. values_over (widths_of s) (slot + 1) (value_of_part ns (cofactor_of ns slot v a)))
branch_values s ns a slot count h l =
    let c : (v : ℕ) → IsCofactor ns slot v a (cofactor_of ns slot v a) = λ v. is_cofactor s.sizes ns slot v a h.ordered h.before h.from in
    let up : suc slot ≡ slot + 1 = omega arith in
    over_branch (widths_of s) slot (value_of_part ns a) (λ v. value_of_part ns (cofactor_of ns slot v a)) (omega (arith, as_long s)) (λ v. value_from s.sizes ns h.ordered (cofactor_of ns slot v a) (suc slot) (c v).before (c v).from) (λ v π e. (c v).value π e)
    ∙ ap (λ t. joined_to (get_or (widths_of s) slot 0) (λ v. values_over (widths_of s) t (value_of_part ns (cofactor_of ns slot v a)))) up

-- A walk through a list of nodes where slots have the values of others.
use Rattle.std.proofs.Common.{◌≡◌, ◌≢◌, ◌⊎◌, ℕ, suc, ◌+◌, ◌-◌, ◌*◌, ◌%◌, ◌<◌, ◌≤◌, List, length, get_or, ℤ, Bool, true, false, cond, nat_eq, sym, ◌∙◌, ap, refl, subst, arith}
use Rattle.std.proofs.lemmas.Bool.{false≢true}
use Rattle.std.proofs.lemmas.Bool.Decides.{Decides-eqb}
use Rattle.sp_dd.specs.declared.part.Part.{Part}
use Rattle.sp_dd.specs.declared.part.Part.TheVariants.{Leaf, At}
use Rattle.sp_dd.specs.NodeLists.{Node, node_value}
use Rattle.sp_dd.specs.Ordered.{node_at, part_at, IsBefore, IsOrdered, height}
use Rattle.sp_dd.specs.Walks.{IsFromSlot}
use Rattle.sp_ddops.specs.Cofactors.{slot_or, cofactor_of}
use Rattle.sp_ddops.proofs.CofactorLemmas.{value_from, cofactor_value, IsCofactor, is_cofactor}
use Rattle.sp_diagonals.specs.Walks.{slot_read, joined_part, joined_slot, IsRange, IsJoinedPart}
use Rattle.sp_diagonals.proofs.Slots.{IsSlotRead, slot_is_read, mono, below, own, pair, behind_own, behind_pair, alike, twice}

pub joined_leaf : (o low high : ℕ) (ns : List Node) (a : Part) (z : ℤ) → a ≡ Leaf z → (π : ℕ → ℕ) → joined_part o low high ns a π ≡ z
unfolding joined_part node_value
joined_leaf o low high ns a z e π = ap (node_value (λ t. π (slot_read o low high t)) ns) e

joined_from : (sizes : List ℕ) (o low high : ℕ) (ns : List Node) (a : Part) (s : ℕ) → IsRange sizes o low high → IsOrdered sizes ns → IsBefore (length ns) a → s ≤ joined_slot sizes o low high ns a → IsFromSlot s (joined_part o low high ns a)
unfolding joined_part
joined_from sizes o low high ns a s range ordered before l π ρ e =
    let slot : ℕ = slot_or ns a (length sizes) in
    value_from sizes ns ordered a before (length sizes) slot (omega arith) (λ t. π (slot_read o low high t)) (λ t. ρ (slot_read o low high t))
    (λ t k. e (slot_read o low high t)
    (let m : slot_read o low high slot ≤ slot_read o low high t = mono o low high range.small range.low_even range.high_even slot t _ _ (slot_is_read o low high slot) (slot_is_read o low high t) k in omega (arith, l, m)))

pub record IsJoinedStep (sizes : List ℕ) (o low high : ℕ) (ns : List Node) (a : Part) (s : ℕ) : Type 0 where
  pub is : s ≡ joined_slot sizes o low high ns a
  pub within : s < length sizes
  pub later : IsFromSlot s (joined_part o low high ns a)

pub joined_step : (sizes : List ℕ) (o low high : ℕ) (ns : List Node) (a : Part) (i t s : ℕ) → IsJoinedPart sizes o low high ns a → a ≡ At i → t ≡ (node_at ns i).slot → s ≡ slot_read o low high t → IsJoinedStep sizes o low high ns a s
joined_step sizes o low high ns a i t s h e d f =
    let here : i < length ns = subst (IsBefore (length ns)) e h.before in
    let slot : slot_or ns a (length sizes) ≡ t = ap (λ b. slot_or ns b (length sizes)) e ∙ sym d in
    let is : s ≡ joined_slot sizes o low high ns a = f ∙ ap (slot_read o low high) (sym slot) in
    let less : slot_read o low high t < length sizes = below o low high h.range.small h.range.low_even h.range.high_even (length sizes) t _ h.range.within (slot_is_read o low high t) (omega (arith, h.ordered.slots i here, d)) in
    record {
      is = is;
      within = omega (arith, f, less);
      later = joined_from sizes o low high ns a s h.range h.ordered h.before (omega (arith, is));
    }

-- what is known of the state that comes next
pub record IsNextJoined (sizes : List ℕ) (o low high : ℕ) (ns : List Node) (a c : Part) (s v : ℕ) : Type 0 where
  pub state : IsJoinedPart sizes o low high ns c
  pub smaller : height c < height a
  pub later : IsFromSlot (suc s) (joined_part o low high ns c)
  pub value : (π : ℕ → ℕ) → π s ≡ v → joined_part o low high ns a π ≡ joined_part o low high ns c π

-- at a slot outside
pub next_own : (sizes : List ℕ) (o low high : ℕ) (ns : List Node) (a c : Part) (s v : ℕ) → IsJoinedPart sizes o low high ns a → s ≡ joined_slot sizes o low high ns a → s < length sizes → (s < low) ⊎ (high ≤ s) → c ≡ cofactor_of ns s v a → IsNextJoined sizes o low high ns a c s v
unfolding joined_part
next_own sizes o low high ns a c s v h e l out f =
    let n : ℕ = length sizes in
    let slot : ℕ = slot_or ns a n in
    let r = h.range in
    let u : IsSlotRead o low high slot s = subst (IsSlotRead o low high slot) (sym e) (slot_is_read o low high slot) in
    let is : slot ≡ s = own o low high r.small r.low_even r.high_even slot s u out in
    let x : IsCofactor n s ns a c = subst (IsCofactor n s ns a) (sym f) (is_cofactor sizes ns h.ordered n s v a h.before l (omega (arith, is))) in
    let self : slot_read o low high s ≡ s = twice o low high r.small r.low_even r.high_even slot s _ u (slot_is_read o low high s) in
    record {
      state = record { range = r; ordered = h.ordered; before = x.before };
      smaller = x.smaller is;
      later = joined_from sizes o low high ns c (suc s) r h.ordered x.before (behind_own o low high r.small r.low_even r.high_even s (slot_or ns c n) _ out (slot_is_read o low high (slot_or ns c n)) x.later);
      value = λ π q.
          (cofactor_value sizes ns h.ordered a h.before s v (λ t. π (slot_read o low high t)) (ap π self ∙ q)
          ∙ ap (node_value (λ t. π (slot_read o low high t)) ns) (sym f));
    }

-- at a slot inside
pub next_pair : (sizes : List ℕ) (o low high : ℕ) (ns : List Node) (a b c : Part) (s v first : ℕ) → IsJoinedPart sizes o low high ns a → s ≡ joined_slot sizes o low high ns a → s < length sizes → low ≤ s → s < high → first ≡ s - s % 2 → b ≡ cofactor_of ns first v a → c ≡ cofactor_of ns (first + 1) v b → IsNextJoined sizes o low high ns a c s v
unfolding joined_part
next_pair sizes o low high ns a b c s v first h e l i j is f g =
    let n : ℕ = length sizes in
    let slot : ℕ = slot_or ns a n in
    let r = h.range in
    let u : IsSlotRead o low high slot s = subst (IsSlotRead o low high slot) (sym e) (slot_is_read o low high slot) in
    let near : (s - s % 2 ≤ slot) × (slot ≤ s - s % 2 + 1) = pair o low high r.small r.low_even r.high_even slot s u i j in
    let fits : first + 1 < n = omega (arith, is, j, r.within, r.high_even) in
    let x : IsCofactor n first ns a b = subst (IsCofactor n first ns a) (sym f) (is_cofactor sizes ns h.ordered n first v a h.before (omega (arith, fits)) (omega (arith, is, near.0))) in
    let y : IsCofactor n (first + 1) ns b c = subst (IsCofactor n (first + 1) ns b) (sym g) (is_cofactor sizes ns h.ordered n (first + 1) v b x.before fits (omega (arith, x.later))) in
    let self : slot_read o low high s ≡ s = twice o low high r.small r.low_even r.high_even slot s _ u (slot_is_read o low high s) in
    let own_read : IsSlotRead o low high s s = subst (IsSlotRead o low high s) self (slot_is_read o low high s) in
    let one : slot_read o low high first ≡ s = alike o low high r.small r.low_even r.high_even s first _ own_read i j (slot_is_read o low high first) (omega (arith, is)) (omega (arith, is)) in
    let two : slot_read o low high (first + 1) ≡ s = alike o low high r.small r.low_even r.high_even s (first + 1) _ own_read i j (slot_is_read o low high (first + 1)) (omega (arith, is)) (omega (arith, is)) in
    record {
      state = record { range = r; ordered = h.ordered; before = y.before };
      smaller = falls (nat_eq slot first) refl (omega (arith, near.0, is)) (omega (arith, near.1, is)) x.no_higher x.smaller y.no_higher y.smaller;
      later = joined_from sizes o low high ns c (suc s) r h.ordered y.before (behind_pair o low high r.small r.low_even r.high_even s (slot_or ns c n) _ i j (slot_is_read o low high (slot_or ns c n)) (omega (arith, y.later, is)));
      value = λ π q.
          (cofactor_value sizes ns h.ordered a h.before first v (λ t. π (slot_read o low high t)) (ap π one ∙ q)
          ∙ ap (node_value (λ t. π (slot_read o low high t)) ns) (sym f)
          ∙ cofactor_value sizes ns h.ordered b x.before (first + 1) v (λ t. π (slot_read o low high t)) (ap π two ∙ q)
          ∙ ap (node_value (λ t. π (slot_read o low high t)) ns) (sym g));
    }
  where
    stays : (t : Bool) (i : ℕ) → nat_eq (node_at ns i).slot first ≡ t → (node_at ns i).slot ≡ first + 1 → slot_or ns (cond t (part_at ns i v) (At i)) (length sizes) ≡ first + 1
    stays true i q d = absurd (omega (arith, (Decides-eqb (node_at ns i).slot first).0 q, d))
    stays false i q d = d

    -- a part at the second slot stays where the first one has a value
    kept : (a : Part) → slot_or ns a (length sizes) ≡ first + 1 → b ≡ cofactor_of ns first v a → slot_or ns b (length sizes) ≡ first + 1
    kept (Leaf z) d f = ap (λ p. slot_or ns p (length sizes)) f ∙ d
    kept (At i) d f = ap (λ p. slot_or ns p (length sizes)) f ∙ stays (nat_eq (node_at ns i).slot first) i refl d

    falls : (t : Bool) → nat_eq (slot_or ns a (length sizes)) first ≡ t → first ≤ slot_or ns a (length sizes) → slot_or ns a (length sizes) ≤ first + 1 → height b ≤ height a → (slot_or ns a (length sizes) ≡ first → height b < height a) → height c ≤ height b → (slot_or ns b (length sizes) ≡ first + 1 → height c < height b) → height c < height a
    falls true q m k lower low least less = omega (arith, low ((Decides-eqb (slot_or ns a (length sizes)) first).0 q), least)
    falls false q m k lower low least less =
        let apart : slot_or ns a (length sizes) ≢ first = λ d. false≢true (sym q ∙ (Decides-eqb (slot_or ns a (length sizes)) first).1 d) in
        omega (arith, less (kept a (omega (arith, apart, m, k)) f), lower)

-- each node at a slot of this size has a part for the value
pub parts_there : (sizes : List ℕ) (ns : List Node) (v t size : ℕ) → IsOrdered sizes ns → v < size → get_or sizes t 0 ≡ size → (i : ℕ) → i < length ns → (node_at ns i).slot ≡ t → v < length (node_at ns i).parts
parts_there sizes ns v t size o l e i k q = omega (arith, o.counts i k, ap (λ x. get_or sizes x 0) q, e)

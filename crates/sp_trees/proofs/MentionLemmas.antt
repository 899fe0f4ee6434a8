-- What trees mention, and what it means that nothing inside them is refused.
use Rattle.std.proofs.Common.{◌≡◌, ℕ, zero, suc, ◌||◌, Bool, true, false, List, [], ◌∷◌, Option, Some, None, refl, sym, ap, ◌∙◌, subst, arith}
use Rattle.std.specs.Prelude.{Result, Ok, Err, IfOk, All, fold, if◌then◌else◌}
use Rattle.std.proofs.lemmas.Bool.{false≢true}
use Rattle.std.proofs.lemmas.Bool.Decides.{Decides-eqb}
use Rattle.sp_dd.specs.Func.{Func}
use Rattle.sp_trees.specs.declared.refusal.Refusal.{Refusal}
use Rattle.sp_trees.specs.declared.slots.Slots.{Slots}
use Rattle.sp_trees.specs.Refusals.{lesser, is_before}
use Rattle.sp_trees.specs.Slots.{none, one, union, has, is_among}
use Rattle.sp_trees.specs.Judged.{refusal}
use Rattle.sp_trees.proofs.SlotLemmas.{has_one, has_union, has_none, has_among, among_from}

-- these slots are all among those
abbrev pub IsPart : Slots → Slots → Type 0
IsPart a b = (slot : ℕ) → has a slot ≡ true → has b slot ≡ true

either : (a b : Bool) → (a || b) ≡ true → (b ≡ true → a ≡ true) → a ≡ true
either true b h k = refl
either false b h k = k h

left_or : (a b : Bool) → a ≡ true → (a || b) ≡ true
left_or true b h = refl
left_or false b h = absurd (false≢true h)

right_or : (a b : Bool) → b ≡ true → (a || b) ≡ true
right_or true b h = refl
right_or false b h = h

part_left : (a b : Slots) → IsPart a (union a b)
part_left a b slot h = has_union a b slot ∙ left_or (has a slot) (has b slot) h

part_right : (a b : Slots) → IsPart b (union a b)
part_right a b slot h = has_union a b slot ∙ right_or (has a slot) (has b slot) h

union_among : (a b c : Slots) → is_among a c ≡ true → is_among b c ≡ true → is_among (union a b) c ≡ true
union_among a b c h k = among_from (union a b) c (λ slot e. go slot (has a slot) refl (sym (has_union a b slot) ∙ e))
  where
    go : (slot : ℕ) (x : Bool) → has a slot ≡ x → (has a slot || has b slot) ≡ true → has c slot ≡ true
    go slot true e m = has_among a c slot h e
    go slot false e m = has_among b c slot k (sym (ap (λ x. x || has b slot) e) ∙ m)

pub none_among : (c : Slots) → is_among none c ≡ true
none_among c = among_from none c (λ slot e. absurd (false≢true (sym (has_none slot) ∙ e)))

pub one_among : (slot : ℕ) (c : Slots) → has c slot ≡ true → is_among (one slot) c ≡ true
one_among slot c h = among_from (one slot) c (λ k e. subst (λ i. has c i ≡ true) ((Decides-eqb slot k).0 (sym (has_one slot k) ∙ e)) h)

pub one_has : (slot : ℕ) → has (one slot) slot ≡ true
one_has slot = has_one slot slot ∙ (Decides-eqb slot slot).1 refl

-- ---- over a list of anything that mentions slots

module _ {X : Type 0} (m : X → Slots) where
  abbrev pub all_of : Slots → List X → Slots
  all_of a xs = fold (λ all x. union all (m x)) a xs

  pub part_first : (a : Slots) (xs : List X) → IsPart a (all_of a xs)
  part_first a [] slot h = h
  part_first a (x ∷ xs) slot h = part_first (union a (m x)) xs slot (part_left a (m x) slot h)

  pub part_item : (a : Slots) (xs : List X) → All (λ x. IsPart (m x) (all_of a xs)) xs
  part_item a [] k d l = absurd (omega arith)
  part_item a (x ∷ xs) zero d l = λ slot h. part_first (union a (m x)) xs slot (part_right a (m x) slot h)
  part_item a (x ∷ xs) (suc k) d l = part_item (union a (m x)) xs k d (omega arith)

  pub all_among : (a c : Slots) (xs : List X) → is_among a c ≡ true → All (λ x. is_among (m x) c ≡ true) xs → is_among (all_of a xs) c ≡ true
  all_among a c [] h k = h
  all_among a c (x ∷ xs) h k = all_among (union a (m x)) c xs (union_among a (m x) c h (k 0 x (omega arith))) (λ i d l. k (suc i) d (omega arith))

-- ---- nothing is refused

pub lesser_none : (a b : Option Refusal) → lesser a b ≡ None → (a ≡ None) × (b ≡ None)
lesser_none None b h = (refl, h)
lesser_none (Some x) None h = cc
lesser_none (Some x) (Some y) h = go (is_before y x) h
  where
    go : (t : Bool) → (if t then Some y else Some x) ≡ None → (Some x ≡ None) × (Some y ≡ None)
    go true e = cc
    go false e = cc

module _ {X : Type 0} (r : X → Option Refusal) where
  abbrev pub first_of : Option Refusal → List X → Option Refusal
  first_of a xs = fold (λ first x. lesser first (r x)) a xs

  pub first_none : (a : Option Refusal) (xs : List X) → first_of a xs ≡ None → (a ≡ None) × All (λ x. r x ≡ None) xs
  first_none a [] h = (h, λ k d l. absurd (omega arith))
  first_none a (x ∷ xs) h = go (first_none (lesser a (r x)) xs h)
    where
      go : (lesser a (r x) ≡ None) × All (λ x. r x ≡ None) xs → (a ≡ None) × All (λ x. r x ≡ None) (x ∷ xs)
      go p = ((lesser_none a (r x) p.0).0, all (lesser_none a (r x) p.0).1 p.1)
        where
          all : r x ≡ None → All (λ x. r x ≡ None) xs → All (λ x. r x ≡ None) (x ∷ xs)
          all e f zero d l = e
          all e f (suc k) d l = f k d (omega arith)

-- an outcome that isn't refused is a function
pub ok_of : (Q : Type 0) (o : Result Func Refusal) → refusal o ≡ None → IfOk o (λ f. Q) → Q
ok_of Q (Ok f) e h = h
ok_of Q (Err x) e h = cc

-- Members of sets of slots.
use Rattle.std.proofs.Common.{◌≡◌, ◌≢◌, ℕ, ◌^◌, ◌<◌, ◌==◌, ◌||◌, Bool, true, false, max, min, refl, sym, ap, ◌∙◌, arith}
use Rattle.std.specs.Prelude.{bit_and}
use Rattle.std.specs.Int.{bit_at}
use Rattle.std.proofs.lemmas.Bool.Decides.{nat_tests, Decides-eqb}
use Rattle.std.proofs.lemmas.Nat.Bits.{bit_at_or, bit_at_and, bit_at-lt, bit_at-zero, bit_at-pow_same, bit_at-pow_other, same_from_bits}
use Rattle.sp_trees.specs.declared.slots.Slots.{Slots}
use Rattle.sp_trees.specs.Slots.{none, one, union, has, is_among}

-- a set of one slot has that slot alone
pub has_one : (k slot : ℕ) → has (one k) slot ≡ (k == slot)
has_one k slot = go (k == slot) refl
  where
    go : (b : Bool) → (k == slot) ≡ b → has (one k) slot ≡ b
    go true e = let same : k ≡ slot = (Decides-eqb k slot).0 e in ap (λ i. bit_at (2 ^ k) i == 1) (sym same) ∙ ap (λ v. v == 1) (bit_at-pow_same k)
    go false e = let other : slot ≢ k = λ same. grind (arith, nat_tests) in ap (λ v. v == 1) (bit_at-pow_other k slot other)

pub has_union : (a b : Slots) (slot : ℕ) → has (union a b) slot ≡ (has a slot || has b slot)
has_union a b slot =
    let x = bit_at a.bits slot in
    let y = bit_at b.bits slot in
    let lx : x < 2 = bit_at-lt a.bits slot in
    let ly : y < 2 = bit_at-lt b.bits slot in
    ap (λ v. v == 1) (bit_at_or a.bits b.bits slot) ∙ larger x y lx ly
  where
    larger : (x y : ℕ) → x < 2 → y < 2 → (max x y == 1) ≡ ((x == 1) || (y == 1))
    larger x y lx ly = grind (arith, nat_tests)

pub has_none : (slot : ℕ) → has none slot ≡ false
has_none slot = ap (λ v. v == 1) (bit_at-zero slot)

-- what is among a set is in it
pub has_among : (a b : Slots) (slot : ℕ) → is_among a b ≡ true → has a slot ≡ true → has b slot ≡ true
has_among a b slot h e =
    let same : bit_and a.bits b.bits ≡ a.bits = (Decides-eqb (bit_and a.bits b.bits) a.bits).0 h in
    let both : min (bit_at a.bits slot) (bit_at b.bits slot) ≡ bit_at a.bits slot = sym (bit_at_and a.bits b.bits slot) ∙ ap (λ n. bit_at n slot) same in
    smaller (bit_at a.bits slot) (bit_at b.bits slot) (bit_at-lt b.bits slot) both e
  where
    smaller : (x y : ℕ) → y < 2 → min x y ≡ x → (x == 1) ≡ true → (y == 1) ≡ true
    smaller x y l e h = grind (arith, nat_tests)

-- a set whose members are in another is among it
pub among_from : (a b : Slots) → ((slot : ℕ) → has a slot ≡ true → has b slot ≡ true) → is_among a b ≡ true
among_from a b h = (Decides-eqb (bit_and a.bits b.bits) a.bits).1 (same_from_bits (bit_and a.bits b.bits) a.bits (λ i. bit_at_and a.bits b.bits i ∙ smaller (bit_at a.bits i) (bit_at b.bits i) (bit_at-lt a.bits i) (bit_at-lt b.bits i) (h i)))
  where
    smaller : (x y : ℕ) → x < 2 → y < 2 → ((x == 1) ≡ true → (y == 1) ≡ true) → min x y ≡ x
    smaller x y l m f = go (x == 1) refl
      where
        go : (b : Bool) → (x == 1) ≡ b → min x y ≡ x
        go true e = let g = f e in grind (arith, nat_tests)
        go false e = grind (arith, nat_tests)

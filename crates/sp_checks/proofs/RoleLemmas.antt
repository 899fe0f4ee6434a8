-- The slots that a tree may mention.
use Rattle.std.proofs.Common.{◌≡◌, ℕ, zero, suc, ◌+◌, ◌==◌, ◌||◌, Bool, true, false, refl, sym, ap, ◌∙◌, add-one, ◌⊎◌, inl, inr, ⊎_elim}
use Rattle.std.specs.Prelude.{if◌then◌else◌}
use Rattle.std.proofs.lemmas.Bool.{false≢true}
use Rattle.std.proofs.lemmas.Bool.Decides.{Decides-eqb}
use Rattle.sp_trees.specs.declared.slots.Slots.{Slots}
use Rattle.sp_trees.specs.Slots.{none, one, union, has, is_among}
use Rattle.sp_trees.proofs.SlotLemmas.{has_none, has_one, has_union, has_among}
use Rattle.sp_checks.specs.Roles.{slots_where}

pub no_slot : (test : ℕ → Bool) → none ≡ slots_where test 0
unfolding slots_where
no_slot test = refl

pub one_slot_more : (test : ℕ → Bool) (k : ℕ) (set more : Slots) (b : Bool) → set ≡ slots_where test k → b ≡ test k → more ≡ (if b then union set (one k) else set) → more ≡ slots_where test (k + 1)
unfolding slots_where
one_slot_more test k set more b e t h = rw add-one (h ∙ rw (t, e) refl)

-- each of these slots passes the test
either : (a b : Bool) → (a || b) ≡ true → (a ≡ true) ⊎ (b ≡ true)
either true b h = inl refl
either false b h = inr h

pub where_passes : (test : ℕ → Bool) (n k : ℕ) → has (slots_where test n) k ≡ true → test k ≡ true
unfolding slots_where
where_passes test zero k h = absurd (false≢true (sym (has_none k) ∙ h))
where_passes test (suc n) k h = go (test n) refl (where_passes test n k) h
  where
    here : test n ≡ true → (n == k) ≡ true → test k ≡ true
    here e q = ap test (sym ((Decides-eqb n k).0 q)) ∙ e

    go : (b : Bool) → test n ≡ b → (has (slots_where test n) k ≡ true → test k ≡ true) → has (if b then union (slots_where test n) (one n) else slots_where test n) k ≡ true → test k ≡ true
    go true e rest h = ⊎_elim rest (λ (q : has (one n) k ≡ true). here e (sym (has_one n k) ∙ q)) (either (has (slots_where test n) k) (has (one n) k) (sym (has_union (slots_where test n) (one n) k) ∙ h))
    go false e rest h = rest h

-- what is not allowed isn't mentioned
pub not_mentioned : (test : ℕ → Bool) (n k : ℕ) (m : Slots) → is_among m (slots_where test n) ≡ true → test k ≡ false → has m k ≡ false
not_mentioned test n k m h e = go (has m k) refl
  where
    go : (b : Bool) → has m k ≡ b → has m k ≡ false
    go true f = absurd (false≢true (sym e ∙ where_passes test n k (has_among m (slots_where test n) k h f)))
    go false f = f

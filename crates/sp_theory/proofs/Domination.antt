-- The dominated members are those that may go.
use Rattle.std.proofs.Common.{◌≡◌, ◌≢◌, ◌∙◌, ◌⊎◌, ℕ, ◌<◌, ◌≤◌, List, [], ◌∷◌, ◌++◌, sym, refl, subst, Bool, true, false, cond, not, ◌&&◌, ◌||◌, eqb, arith, inl, inr}
use Rattle.std.specs.Prelude.{ℤ, ◌≤ℤ◌, nat_lt, int_lt, filter}
use Rattle.std.specs.List.{flat_map}
use Rattle.std.proofs.lemmas.Int.{ints}
use Rattle.std.proofs.lemmas.Bool.{false≢true}
use Rattle.std.proofs.lemmas.Bool.Decides.{nat_tests}
use Rattle.sp_theory.specs.Model.{Model}
use Rattle.sp_theory.specs.Values.{Member, Edition}
use Rattle.sp_theory.specs.Book.{IsUnder}
use Rattle.sp_theory.specs.OneThread.{nowhere_above, yields, least_id, pair_of, dominated}
use Rattle.sp_theory.specs.Domination.{IsIn, MayGoFor, IsLeastFor, AreDominated, DominatedAreThose}
use Rattle.sp_theory.proofs.Order.{not_eqb}
use Rattle.sp_theory.proofs.Extremes.{both, holds_over_all}
use Rattle.sp_theory.proofs.Dominated.{nowhere_above_at}

-- ---- some of a list

kept : (p : Member → Bool) (es : List Member) (y : Member) → IsIn (filter p es) y → IsIn es y × (p y ≡ true)
kept p [] y h = absurd h
kept p (e ∷ es) y h = go (p e) refl h (kept p es y)
  where
    go : (b : Bool) → p e ≡ b → IsIn (cond b (e ∷ filter p es) (filter p es)) y → (IsIn (filter p es) y → IsIn es y × (p y ≡ true)) → IsIn (e ∷ es) y × (p y ≡ true)
    go true q (inl s) more = (inl s, subst (λ z. p z ≡ true) s q)
    go true q (inr k) more = let m = more k in (inr m.0, m.1)
    go false q k more = let m = more k in (inr m.0, m.1)

keeps : (p : Member → Bool) (es : List Member) (y : Member) → IsIn es y → p y ≡ true → IsIn (filter p es) y
keeps p [] y h q = absurd h
keeps p (e ∷ es) y (inl s) q = subst (λ b. IsIn (cond b (e ∷ filter p es) (filter p es)) y) (sym (subst (λ z. p z ≡ true) (sym s) q)) (inl s)
keeps p (e ∷ es) y (inr k) q = go (p e) (keeps p es y k q)
  where
    go : (b : Bool) → IsIn (filter p es) y → IsIn (cond b (e ∷ filter p es) (filter p es)) y
    go true m = inr m
    go false m = m

-- ---- the least id

record HasLeast (id : ℕ) (ys : List Member) (n : ℕ) : Type 0 where
  first : n ≤ id
  each : (y : Member) → IsIn ys y → n ≤ y.id
  is : (n ≡ id) ⊎ ((y : Member) × IsIn ys y × (n ≡ y.id))

least_of : (id : ℕ) (ys : List Member) → HasLeast id ys (least_id id ys)
unfolding least_id
least_of id [] = record { first = omega arith; each = λ y h. absurd h; is = inl refl }
least_of id (y ∷ ys) = go (nat_lt y.id id) refl (λ n. least_of n ys)
  where
    below : nat_lt y.id id ≡ true → y.id < id
    below q = grind (arith, nat_tests)

    above : nat_lt y.id id ≡ false → id ≤ y.id
    above q = grind (arith, nat_tests)

    go : (b : Bool) → nat_lt y.id id ≡ b → ((n : ℕ) → HasLeast n ys (least_id n ys)) → HasLeast id (y ∷ ys) (least_id (cond b y.id id) ys)
    go true q more =
        let r = more y.id in
        let l = below q in
        let f = r.first in record {
          first = omega arith;
          each = λ z h. elim h [ inl s ↦ subst (λ (z : Member). least_id y.id ys ≤ z.id) s f | inr k ↦ r.each z k ];
          is = elim r.is [ inl e ↦ inr (y, inl refl, e) | inr t ↦ inr (t.0, inr t.1, t.2) ];
        }
    go false q more =
        let r = more id in
        let l = above q in
        let f = r.first in record {
          first = f;
          each = λ z h. elim h [ inl s ↦ subst (λ (z : Member). least_id id ys ≤ z.id) s (omega arith) | inr k ↦ r.each z k ];
          is = elim r.is [ inl e ↦ inl e | inr t ↦ inr (t.0, inr t.1, t.2) ];
        }

module _ (m : Model) where
  -- ---- which may go

  not_less : (a b : ℤ) → a ≤ℤ b → not (int_lt b a) ≡ true
  not_less a b h = grind (arith, ints)

  nowhere_above_all : (x y : Member) → IsUnder m x y → nowhere_above m x y ≡ true
  unfolding nowhere_above
  nowhere_above_all x y under = holds_over_all m.sizes _ (λ s p. not_less (x.vector s) (y.vector s) (under s p))

  goes : (x y : Member) → yields m x y ≡ true → MayGoFor m x y
  unfolding yields
  goes x y e =
      let two = both (not (eqb x.id y.id)) _ e in
      let rest = both (nowhere_above m x y) _ two.1 in
      (not_eqb x.id y.id two.0, nowhere_above_at m x y rest.0, go (nowhere_above m y x) refl rest.1)
    where
      less : nat_lt y.id x.id ≡ true → y.id < x.id
      less h = grind (arith, nat_tests)

      go : (b : Bool) → nowhere_above m y x ≡ b → (not b || nat_lt y.id x.id) ≡ true → (¬ IsUnder m y x) ⊎ (y.id < x.id)
      go true q h = inr (less h)
      go false q h = inl (λ u. false≢true (sym q ∙ nowhere_above_all y x u))

  all_true : (a b : Bool) → a ≡ true → b ≡ true → (a && b) ≡ true
  all_true true b p q = q
  all_true false b p q = p

  differ : (a b : ℕ) → a ≢ b → not (eqb a b) ≡ true
  differ a b h = grind (arith, nat_tests)

  gone : (x y : Member) → MayGoFor m x y → yields m x y ≡ true
  unfolding yields
  gone x y (apart, under, last) = all_true _ _ (differ x.id y.id apart) (all_true _ _ (nowhere_above_all x y under) (go (nowhere_above m y x) refl last))
    where
      more : y.id < x.id → nat_lt y.id x.id ≡ true
      more l = grind (arith, nat_tests)

      go : (b : Bool) → nowhere_above m y x ≡ b → (¬ IsUnder m y x) ⊎ (y.id < x.id) → (not b || nat_lt y.id x.id) ≡ true
      go false q h = refl
      go true q (inl never) = absurd (never (nowhere_above_at m y x q))
      go true q (inr l) = more l

  -- ---- the pairs

  module _ (edition : Edition) where
    abbrev rest_of : List Member → List (ℕ × ℕ)
    rest_of xs = flat_map (λ x. pair_of x (filter (yields m x) edition)) xs

    is_least : (x y : Member) (ys : List Member) → filter (yields m x) edition ≡ y ∷ ys → IsLeastFor m edition x (least_id y.id ys)
    is_least x y ys e = go r.is
      where
        r : HasLeast y.id ys (least_id y.id ys)
        r = least_of y.id ys

        has : (z : Member) → IsIn (y ∷ ys) z → IsIn edition z × MayGoFor m x z
        has z i = let k = kept (yields m x) edition z (subst (λ zs. IsIn zs z) (sym e) i) in (k.0, goes x z k.1)

        below : (z : Member) → IsIn edition z → MayGoFor m x z → least_id y.id ys ≤ z.id
        below z i g = elim (subst (λ zs. IsIn zs z) e (keeps (yields m x) edition z i (gone x z g))) [ inl s ↦ subst (λ (z : Member). least_id y.id ys ≤ z.id) s (r.first) | inr k ↦ r.each z k ]

        made : (z : Member) → IsIn (y ∷ ys) z → least_id y.id ys ≡ z.id → IsLeastFor m edition x (least_id y.id ys)
        made z i q = let h = has z i in record { member = z; among = h.0; goes = h.1; is = q; least = below }

        go : (least_id y.id ys ≡ y.id) ⊎ ((z : Member) × IsIn ys z × (least_id y.id ys ≡ z.id)) → IsLeastFor m edition x (least_id y.id ys)
        go (inl q) = made y (inl refl) q
        go (inr (z, i, q)) = made z (inr i) q

    are_those : (xs : List Member) → AreDominated m edition xs (rest_of xs)
    are_those [] = refl
    are_those (x ∷ xs) = go (filter (yields m x) edition) refl (are_those xs)
      where
        go : (ys : List Member) → filter (yields m x) edition ≡ ys → AreDominated m edition xs (rest_of xs) → AreDominated m edition (x ∷ xs) (pair_of x ys ++ rest_of xs)
        go [] e more = inl (λ y i g. subst (λ zs. IsIn zs y) e (keeps (yields m x) edition y i (gone x y g)), more)
        go (y ∷ ys) e more = inr (least_id y.id ys, rest_of xs, is_least x y ys e, refl, more)

pub dominated_are_those : DominatedAreThose
unfolding dominated
dominated_are_those m edition = are_those m edition edition

-- The own variables of factors, as lists of numbers.
use Rattle.std.proofs.Common.{◌≡◌, ◌≢◌, ℕ, zero, suc, ◌+◌, ◌<◌, ◌≤◌, ◌==◌, ◌&&◌, ◌||◌, Bool, true, false, cond, not, List, [], ◌∷◌, ◌++◌, length, get_or, refl, sym, ap, ◌∙◌, arith, length-append}
use Rattle.std.specs.Prelude.{All, AllPairs, Contains, filter, nat_eq}
use Rattle.std.specs.List.{list_any}
use Rattle.std.proofs.lemmas.Bool.{false≢true}
use Rattle.std.proofs.lemmas.Bool.Decides.{nat_tests, Decides-eqb}
use Rattle.sp_dd.specs.NodeLists.{Node}
use Rattle.sp_dd.specs.Ordered.{node_at}
use Rattle.sp_model.specs.Kept.{NumbersRise}
use Rattle.sp_written.proofs.Init.{is_in, RisesFrom, EndsBelow}

pub contains_in : (xs : List ℕ) (i : ℕ) → Contains xs i → is_in xs i ≡ true
contains_in xs i c = go xs c.0 c.1 c.2
  where
    go : (ys : List ℕ) (k : ℕ) → k < length ys → get_or ys k i ≡ i → is_in ys i ≡ true
    go [] k l e = absurd (omega arith)
    go (y ∷ ys) zero l e = ap (λ b. b || is_in ys i) ((Decides-eqb y i).1 e)
    go (y ∷ ys) (suc k) l e = right (y == i) (is_in ys i) (go ys k (omega arith) e)
      where
        right : (a b : Bool) → b ≡ true → (a || b) ≡ true
        right true b h = refl
        right false b h = h

pub record IsAt (xs : List ℕ) (i : ℕ) : Type 0 where
  pub place : ℕ
  pub within : place < length xs
  pub is : get_or xs place 0 ≡ i

pub in_at : (xs : List ℕ) (i : ℕ) → is_in xs i ≡ true → IsAt xs i
in_at [] i h = absurd (false≢true h)
in_at (x ∷ xs) i h = go (x == i) refl h (λ k. in_at xs i k)
  where
    go : (b : Bool) → (x == i) ≡ b → (b || is_in xs i) ≡ true → (is_in xs i ≡ true → IsAt xs i) → IsAt (x ∷ xs) i
    go true e h more = record { place = 0; within = omega arith; is = (Decides-eqb x i).0 e }
    go false e h more = let r = more h in let l = r.within in record { place = suc r.place; within = omega arith; is = r.is }

get_front : (xs ys : List ℕ) (k : ℕ) → k < length xs → get_or (xs ++ ys) k 0 ≡ get_or xs k 0
get_front [] ys k l = absurd (omega arith)
get_front (x ∷ xs) ys zero l = refl
get_front (x ∷ xs) ys (suc k) l = get_front xs ys k (omega arith)

get_back : (xs ys : List ℕ) (k : ℕ) → get_or (xs ++ ys) (length xs + k) 0 ≡ get_or ys k 0
get_back [] ys k = let e : 0 + k ≡ k = omega arith in ap (λ j. get_or ys j 0) e
get_back (x ∷ xs) ys k = let e : suc (length xs) + k ≡ suc (length xs + k) = omega arith in ap (λ j. get_or (x ∷ (xs ++ ys)) j 0) e ∙ get_back xs ys k

-- numbers that are all different are in one of two parts alone
pub not_both : (xs ys : List ℕ) (i : ℕ) → AllPairs (λ a b. a ≢ b) (xs ++ ys) → is_in xs i ≡ true → is_in ys i ≡ false
not_both xs ys i h k = go (is_in ys i) refl
  where
    go : (b : Bool) → is_in ys i ≡ b → is_in ys i ≡ false
    go false e = e
    go true e =
        let a = in_at xs i k in
        let b = in_at ys i e in
        let la = a.within in
        let lb = b.within in
        let long = length-append xs ys in
        absurd (h a.place (length xs + b.place) 0 (omega arith) (omega arith) (get_front xs ys a.place a.within ∙ a.is ∙ sym b.is ∙ sym (get_back xs ys b.place)))

pub in_both : (xs ys : List ℕ) (i : ℕ) → is_in (xs ++ ys) i ≡ (is_in xs i || is_in ys i)
in_both [] ys i = refl
in_both (x ∷ xs) ys i = ap (λ b. (x == i) || b) (in_both xs ys i) ∙ sym (assoc (x == i) (is_in xs i) (is_in ys i))
  where
    assoc : (a b c : Bool) → ((a || b) || c) ≡ (a || (b || c))
    assoc true b c = refl
    assoc false b c = refl

pub rises_from : (a : ℕ) (xs : List ℕ) → ((k : ℕ) → k < length xs → a ≤ get_or xs k 0) → NumbersRise xs → RisesFrom a xs
rises_from a [] h r = tt
rises_from a (x ∷ xs) h r = (h 0 (omega arith), rises_from (suc x) xs (λ k l. (let less = r 0 (suc k) 0 (omega arith) (omega arith) in omega arith)) (λ i j d l m. r (suc i) (suc j) d (omega arith) (omega arith)))

pub ends_below : (n : ℕ) (xs : List ℕ) → All (λ i. i < n) xs → EndsBelow n xs
ends_below n [] h = tt
ends_below n (x ∷ xs) h = (h 0 0 (omega arith), ends_below n xs (λ k d l. h (suc k) d (omega arith)))

-- those of a list that don't pass
pub in_rest : (P : ℕ → Bool) (xs : List ℕ) (i : ℕ) → is_in (filter (λ j. not (P j)) xs) i ≡ (is_in xs i && not (P i))
in_rest P [] i = refl
in_rest P (x ∷ xs) i = go (P x) refl (x == i) refl (in_rest P xs i)
  where
    go : (b : Bool) → P x ≡ b → (c : Bool) → (x == i) ≡ c → is_in (filter (λ j. not (P j)) xs) i ≡ (is_in xs i && not (P i))
        → is_in (cond (not b) (x ∷ filter (λ j. not (P j)) xs) (filter (λ j. not (P j)) xs)) i ≡ ((c || is_in xs i) && not (P i))
    go true e true f h = let same : P i ≡ true = ap P (sym ((Decides-eqb x i).0 f)) ∙ e in h ∙ (λ k. is_in xs i && not (same k)) ∙ last (is_in xs i) ∙ (λ k. not (sym same k))
      where
        last : (b : Bool) → (b && false) ≡ false
        last true = refl
        last false = refl
    go true e false f h = h
    go false e true f h = let same : P i ≡ false = ap P (sym ((Decides-eqb x i).0 f)) ∙ e in ap (λ b. b || is_in (filter (λ j. not (P j)) xs) i) f ∙ (λ k. not (sym same k))
    go false e false f h = ap (λ b. b || is_in (filter (λ j. not (P j)) xs) i) f ∙ h

pub split_in : (a b : Bool) → (b ≡ true → a ≡ true) → (b || (a && not b)) ≡ a
split_in true true h = refl
split_in true false h = refl
split_in false true h = sym (h refl)
split_in false false h = refl

pub record IsOn (ns : List Node) (slot : ℕ) : Type 0 where
  pub place : ℕ
  pub within : place < length ns
  pub is : (node_at ns place).slot ≡ slot

pub on_at : (ns : List Node) (slot : ℕ) → list_any (λ (n : Node). nat_eq n.slot slot) ns ≡ true → IsOn ns slot
on_at [] slot h = absurd (false≢true h)
on_at (x ∷ ns) slot h = go (nat_eq x.slot slot) refl h (λ k. on_at ns slot k)
  where
    go : (b : Bool) → nat_eq x.slot slot ≡ b → (b || list_any (λ (n : Node). nat_eq n.slot slot) ns) ≡ true → (list_any (λ (n : Node). nat_eq n.slot slot) ns ≡ true → IsOn ns slot) → IsOn (x ∷ ns) slot
    go true e h more = record { place = 0; within = omega arith; is = grind (arith, nat_tests) }
    go false e h more = let r = more h in let l = r.within in record { place = suc r.place; within = omega arith; is = r.is }

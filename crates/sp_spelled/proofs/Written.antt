-- Signs one behind the other.
use Rattle.std.proofs.Common.{◌≡◌, ℕ, ◌≤◌, List, [], ◌∷◌, ◌++◌, Option, Some, None, refl, sym, ap, ◌∙◌, subst, append_assoc, append-nil, arith}
use Rattle.sp_syntax.specs.declared.class.Classed.{Classed}
use Rattle.sp_syntax.specs.Grammar.{AreAll}
use Rattle.sp_syntax.specs.Refusal.{leave, room, room_then}
use Rattle.sp_spelled.specs.Signs.{Sign, opens, closes, left_square, right_square, plus, star, word, primed, Gap, tight, space, line, Spelled, IsSign, IsWordEnd, IsApart, IsSpaced, sign_class, IsSpelled, AreSpelled}
use Rattle.sp_spelled.specs.Written.{sign_room, IsBalanced, Written}

-- ---- spacing
word_end_more : (us vs : List Spelled) → IsWordEnd us → IsWordEnd (us ++ vs)
word_end_more [] vs h = absurd h
word_end_more (u ∷ us) vs h = h

apart_more : (s : Sign) (g : Gap) (us vs : List Spelled) → IsApart s g us → IsApart s g (us ++ vs)
apart_more (word w) tight us vs h = word_end_more us vs h
apart_more (word w) space us vs h = tt
apart_more (word w) line us vs h = tt
apart_more (primed w) g us vs h = tt
apart_more opens g us vs h = tt
apart_more closes g us vs h = tt
apart_more left_square g us vs h = tt
apart_more right_square g us vs h = tt
apart_more plus g us vs h = tt
apart_more star g us vs h = tt

pub spaced_both : (us vs : List Spelled) → IsSpaced us → IsSpaced vs → IsSpaced (us ++ vs)
spaced_both [] vs h k = k
spaced_both (u ∷ us) vs h k = (h.0, apart_more u.sign u.gap us vs h.1, spaced_both us vs h.2 k)

-- ---- brackets
pub room_both : (n : ℕ) (us vs : List Spelled) → sign_room n (us ++ vs) ≡ room_then (λ m. sign_room m vs) (sign_room n us)
room_both n [] vs = refl
room_both n (u ∷ us) vs = go (leave n (sign_class u.sign)) (λ m. room_both m us vs)
  where
    go : (o : Option ℕ) → ((m : ℕ) → sign_room m (us ++ vs) ≡ room_then (λ k. sign_room k vs) (sign_room m us))
        → room_then (λ m. sign_room m (us ++ vs)) o ≡ room_then (λ m. sign_room m vs) (room_then (λ m. sign_room m us) o)
    go None more = refl
    go (Some m) more = more m

pub balanced_both : (depth : ℕ) (us vs : List Spelled) → IsBalanced depth us → IsBalanced depth vs → IsBalanced depth (us ++ vs)
balanced_both depth us vs h k n l = room_both n us vs ∙ ap (room_then (λ m. sign_room m vs)) (h n l) ∙ k n l

pub balanced_nothing : (depth : ℕ) → IsBalanced depth []
balanced_nothing depth n l = refl

pub room_is : (source : List ℕ) (n : ℕ) (ts : List Classed) (ss : List Spelled) → AreSpelled source ts ss → room n ts ≡ sign_room n ss
room_is source n [] [] h = refl
room_is source n [] (s ∷ ss) h = absurd h
room_is source n (t ∷ ts) [] h = absurd h
room_is source n (t ∷ ts) (s ∷ ss) h = ap (λ c. room_then (λ m. room m ts) (leave n c)) h.0.class ∙ go (leave n (sign_class s.sign)) (λ m. room_is source m ts ss h.1)
  where
    go : (o : Option ℕ) → ((m : ℕ) → room m ts ≡ sign_room m ss) → room_then (λ m. room m ts) o ≡ room_then (λ m. sign_room m ss) o
    go None more = refl
    go (Some m) more = more m

-- ---- tokens
pub record Both (source : List ℕ) (ts : List Classed) (us vs : List Spelled) : Type 0 where
  pub front : List Classed
  pub back : List Classed
  pub whole : ts ≡ front ++ back
  pub first : AreSpelled source front us
  pub then : AreSpelled source back vs

pub split : (source : List ℕ) (ts : List Classed) (us vs : List Spelled) → AreSpelled source ts (us ++ vs) → Both source ts us vs
split source ts [] vs h = record { front = []; back = ts; whole = refl; first = tt; then = h }
split source [] (u ∷ us) vs h = absurd h
split source (t ∷ ts) (u ∷ us) vs h =
    let more = split source ts us vs h.1 in
    record { front = t ∷ more.front; back = more.back; whole = ap (λ l. t ∷ l) more.whole; first = (h.0, more.first); then = more.then }

-- one sign
pub record One (source : List ℕ) (ts : List Classed) (s : Sign) : Type 0 where
  pub token : Classed
  pub whole : ts ≡ token ∷ []
  pub is : IsSpelled source token s

pub one : (source : List ℕ) (ts : List Classed) (s : Spelled) → AreSpelled source ts (s ∷ []) → One source ts s.sign
one source [] s h = absurd h
one source (t ∷ []) s h = record { token = t; whole = refl; is = h.0 }
one source (t ∷ (u ∷ ts)) s h = absurd h.1

-- two signs, a part, and one sign
pub record Enclosed (source : List ℕ) (ts : List Classed) (a w : Sign) (us : List Spelled) (b : Sign) : Type 0 where
  pub left : Classed
  pub head : Classed
  pub inner : List Classed
  pub right : Classed
  pub whole : ts ≡ left ∷ head ∷ (inner ++ right ∷ [])
  pub left_is : IsSpelled source left a
  pub head_is : IsSpelled source head w
  pub inner_is : AreSpelled source inner us
  pub right_is : IsSpelled source right b

pub enclosed : (source : List ℕ) (ts : List Classed) (a w : Spelled) (us : List Spelled) (b : Spelled) → AreSpelled source ts (a ∷ w ∷ (us ++ b ∷ [])) → Enclosed source ts a.sign w.sign us b.sign
enclosed source [] a w us b h = absurd h
enclosed source (t ∷ []) a w us b h = absurd h.1
enclosed source (t ∷ (u ∷ ts)) a w us b h =
    let parts = split source ts us (b ∷ []) h.1.1 in
    let last = one source parts.back b parts.then in
    record {
      left = t;
      head = u;
      inner = parts.front;
      right = last.token;
      whole = ap (λ l. t ∷ u ∷ l) (parts.whole ∙ ap (λ l. parts.front ++ l) last.whole);
      left_is = h.0;
      head_is = h.1.0;
      inner_is = parts.first;
      right_is = last.is;
    }

-- ---- parts
-- two signs, a part, and one sign
pub written_enclosed : {X Y : Type 0} (IsX : X → List Classed → Type 0) (IsY : Y → List Classed → Type 0) (Q : List ℕ → X → Type 0) (P : List ℕ → Y → Type 0) (a w : Spelled) (us : List Spelled) (b : Spelled) (inner depth : ℕ)
    → Written IsX Q inner us → IsSpaced (a ∷ w ∷ (us ++ b ∷ [])) → IsBalanced depth (a ∷ w ∷ (us ++ b ∷ []))
    → ((source : List ℕ) (left head right : Classed) (x : X) (ts : List Classed) → IsSpelled source left a.sign → IsSpelled source head w.sign → IsSpelled source right b.sign → IsX x ts → Q source x
    → (y : Y) × IsY y (left ∷ head ∷ (ts ++ right ∷ [])) × P source y)
    → Written IsY P depth (a ∷ w ∷ (us ++ b ∷ []))
written_enclosed IsX IsY Q P a w us b inner depth part spaced balanced make = record {
  spaced = spaced;
  balanced = balanced;
  reads = λ source ts s.
      let e = enclosed source ts a w us b s in
      let x = part.reads source e.inner e.inner_is in
      let y = make source e.left e.head e.right x.0 e.inner e.left_is e.head_is e.right_is x.1 x.2 in
      (y.0, subst (λ l. IsY y.0 l) (sym e.whole) y.1, y.2);
}

-- one part behind another
pub written_both : {X Y Z : Type 0} (IsX : X → List Classed → Type 0) (IsY : Y → List Classed → Type 0) (IsZ : Z → List Classed → Type 0) (P : List ℕ → X → Type 0) (Q : List ℕ → Y → Type 0) (R : List ℕ → Z → Type 0)
    (us vs : List Spelled) (depth : ℕ) → Written IsX P depth us → Written IsY Q depth vs
    → ((source : List ℕ) (x : X) (y : Y) (ts more : List Classed) → IsX x ts → IsY y more → P source x → Q source y → (z : Z) × IsZ z (ts ++ more) × R source z)
    → Written IsZ R depth (us ++ vs)
written_both IsX IsY IsZ P Q R us vs depth first then make = record {
  spaced = spaced_both us vs first.spaced then.spaced;
  balanced = balanced_both depth us vs first.balanced then.balanced;
  reads = λ source ts s.
      let both = split source ts us vs s in
      let x = first.reads source both.front both.first in
      let y = then.reads source both.back both.then in
      let z = make source x.0 y.0 both.front both.back x.1 y.1 x.2 y.2 in
      (z.0, subst (λ l. IsZ z.0 l) (sym both.whole) z.1, z.2);
}

-- signs before a part
pub written_behind : {X Y : Type 0} (IsX : X → List Classed → Type 0) (IsY : Y → List Classed → Type 0) (P : List ℕ → X → Type 0) (Q : List ℕ → Y → Type 0) (a : Spelled) (us : List Spelled) (depth : ℕ)
    → Written IsX P depth us → IsSign a.sign → IsApart a.sign a.gap us → ((n : ℕ) → leave n (sign_class a.sign) ≡ Some n)
    → ((source : List ℕ) (head : Classed) (x : X) (ts : List Classed) → IsSpelled source head a.sign → IsX x ts → P source x → (y : Y) × IsY y (head ∷ ts) × Q source y)
    → Written IsY Q depth (a ∷ us)
written_behind {X = X} {Y = Y} IsX IsY P Q a us depth part h g calm make = record {
  spaced = (h, g, part.spaced);
  balanced = λ n l. ap (room_then (λ m. sign_room m us)) (calm n) ∙ part.balanced n l;
  reads = λ source ts s. go source ts s;
}
  where
    go : (source : List ℕ) (ts : List Classed) → AreSpelled source ts (a ∷ us) → (y : Y) × IsY y ts × Q source y
    go source [] s = absurd s
    go source (t ∷ ts) s = let x = part.reads source ts s.1 in make source t x.0 ts s.0 x.1 x.2

-- at a greater depth
pub deeper : {X : Type 0} (IsX : X → List Classed → Type 0) (P : List ℕ → X → Type 0) (us : List Spelled) (depth more : ℕ) → depth ≤ more → Written IsX P depth us → Written IsX P more us
deeper IsX P us depth more l part = record { spaced = part.spaced; balanced = λ n m. part.balanced n (omega arith); reads = part.reads }

-- a sign, a part, and a sign, of which none is a bracket
pub written_between : {X Y : Type 0} (IsX : X → List Classed → Type 0) (IsY : Y → List Classed → Type 0) (Q : List ℕ → X → Type 0) (P : List ℕ → Y → Type 0) (a : Spelled) (us : List Spelled) (b : Spelled) (depth : ℕ)
    → Written IsX Q depth us → IsSign a.sign → IsApart a.sign a.gap (us ++ b ∷ []) → ((n : ℕ) → leave n (sign_class a.sign) ≡ Some n) → IsSign b.sign → IsApart b.sign b.gap [] → ((n : ℕ) → leave n (sign_class b.sign) ≡ Some n)
    → ((source : List ℕ) (head last : Classed) (x : X) (ts : List Classed) → IsSpelled source head a.sign → IsSpelled source last b.sign → IsX x ts → Q source x → (y : Y) × IsY y (head ∷ (ts ++ last ∷ [])) × P source y)
    → Written IsY P depth (a ∷ (us ++ b ∷ []))
written_between {X = X} {Y = Y} IsX IsY Q P a us b depth part ha ga calm_a hb gb calm_b make = record {
  spaced = (ha, ga, spaced_both us (b ∷ []) part.spaced (hb, gb, tt));
  balanced = λ n l. ap (room_then (λ m. sign_room m (us ++ b ∷ []))) (calm_a n) ∙ balanced_both depth us (b ∷ []) part.balanced (λ m k. ap (room_then (λ i. Some i)) (calm_b m)) n l;
  reads = λ source ts s. go source ts s;
}
  where
    go : (source : List ℕ) (ts : List Classed) → AreSpelled source ts (a ∷ (us ++ b ∷ [])) → (y : Y) × IsY y ts × P source y
    go source [] s = absurd s
    go source (t ∷ ts) s =
        let parts = split source ts us (b ∷ []) s.1 in
        let last = one source parts.back b parts.then in
        let x = part.reads source parts.front parts.first in
        let y = make source t last.token x.0 parts.front s.0 last.is x.1 x.2 in
        (y.0, subst (λ l. IsY y.0 l) (sym (ap (λ l. t ∷ l) (parts.whole ∙ ap (λ l. parts.front ++ l) last.whole))) y.1, y.2)

-- one sign alone
pub written_one : {X : Type 0} (IsX : X → List Classed → Type 0) (P : List ℕ → X → Type 0) (a : Spelled) → IsSign a.sign → IsApart a.sign a.gap [] → ((n : ℕ) → leave n (sign_class a.sign) ≡ Some n)
    → ((source : List ℕ) (t : Classed) → IsSpelled source t a.sign → (x : X) × IsX x (t ∷ []) × P source x) → Written IsX P 0 (a ∷ [])
written_one IsX P a h g calm make = record {
  spaced = (h, g, tt);
  balanced = λ n l. ap (room_then (λ m. Some m)) (calm n);
  reads = λ source ts s. let o = one source ts a s in let x = make source o.token o.is in (x.0, subst (λ l. IsX x.0 l) (sym o.whole) x.1, x.2);
}

-- ---- lists of parts
pub no_tokens : (source : List ℕ) (ts : List Classed) → AreSpelled source ts [] → ts ≡ []
no_tokens source [] h = refl
no_tokens source (t ∷ ts) h = absurd h

all_both : {X : Type 0} (IsX : X → List Classed → Type 0) (xs ys : List X) (ts us : List Classed) → AreAll IsX xs ts → AreAll IsX ys us → AreAll IsX (xs ++ ys) (ts ++ us)
all_both IsX [] ys ts us h k = subst (λ l. AreAll IsX ys (l ++ us)) (sym h) k
all_both IsX (x ∷ xs) ys ts us h k = (h.0, h.1 ++ us, h.2, all_both IsX xs ys h.1 us h.3 k, ap (λ l. l ++ us) h.4 ∙ append_assoc h.0 h.1 us)

module _ {X : Type 0} (IsX : X → List Classed → Type 0) where
  pub written_nothing : (P : List ℕ → List X → Type 0) → ((source : List ℕ) → P source []) → Written (AreAll IsX) P 0 []
  written_nothing P p = record { spaced = tt; balanced = balanced_nothing 0; reads = λ source ts s. ([], no_tokens source ts s, p source) }

  -- a list of one
  pub written_alone : (P : List ℕ → X → Type 0) (Q : List ℕ → List X → Type 0) (us : List Spelled) (depth : ℕ) → Written IsX P depth us → ((source : List ℕ) (x : X) → P source x → Q source (x ∷ [])) → Written (AreAll IsX) Q depth us
  written_alone P Q us depth part p = record {
    spaced = part.spaced;
    balanced = part.balanced;
    reads = λ source ts s. let x = part.reads source ts s in (x.0 ∷ [], (ts, [], x.1, refl, sym (append-nil ts)), p source x.0 x.2);
  }

  -- one list behind another
  pub written_lists : (P Q R : List ℕ → List X → Type 0) (us vs : List Spelled) (depth : ℕ) → Written (AreAll IsX) P depth us → Written (AreAll IsX) Q depth vs
      → ((source : List ℕ) (xs ys : List X) → P source xs → Q source ys → R source (xs ++ ys)) → Written (AreAll IsX) R depth (us ++ vs)
  written_lists P Q R us vs depth first then p = written_both (AreAll IsX) (AreAll IsX) (AreAll IsX) P Q R us vs depth first then
      (λ source xs ys ts more is are p1 q1. (xs ++ ys, all_both IsX xs ys ts more is are, p source xs ys p1 q1))

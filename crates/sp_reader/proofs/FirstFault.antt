-- The grammar refuses tokens at one place, for one reason.
use Rattle.std.proofs.Common.{◌≡◌, ℕ, List, [], ◌∷◌, ◌++◌, Option, Some, None, sym, ap, ◌∙◌, refl, append_assoc, ◌⊎◌, inl, inr}
use Rattle.sp_syntax.specs.declared.class.Classed.{Classed}
use Rattle.sp_syntax.specs.Fault.{Fault}
use Rattle.sp_syntax.specs.Grammar.{IsViable}
use Rattle.sp_syntax.specs.declared.error.SyntaxKind.TheVariants as kind
use Rattle.sp_syntax.specs.Refusal.{RefusesTokens, StopsAt, IsUnsupported, room, room_then, leave, IsShallow}

-- a list that goes on where another ends, with what stands there
record IsLonger {A : Type 0} (xs us ys : List A) : Type 0 where
  mark : A
  more : List A
  behind : List A
  is : ys ≡ xs ++ (mark ∷ more)
  next : us ≡ mark ∷ behind

-- two beginnings of one list are the same, or one is longer
cut : {A : Type 0} (xs us ys vs : List A) → xs ++ us ≡ ys ++ vs → ((xs ≡ ys) × (us ≡ vs)) ⊎ (IsLonger xs us ys ⊎ IsLonger ys vs xs)
cut [] us [] vs e = inl (refl, e)
cut [] us (y ∷ ys) vs e = inr (inl (record { mark = y; more = ys; behind = ys ++ vs; is = refl; next = e }))
cut (x ∷ xs) us [] vs e = inr (inr (record { mark = x; more = xs; behind = xs ++ us; is = refl; next = sym e }))
cut (x ∷ xs) us (y ∷ ys) vs e = join (cut xs us ys vs cc)
  where
    first : x ≡ y
    first = cc

    join : ((xs ≡ ys) × (us ≡ vs)) ⊎ (IsLonger xs us ys ⊎ IsLonger ys vs xs) → (((x ∷ xs) ≡ (y ∷ ys)) × (us ≡ vs)) ⊎ (IsLonger (x ∷ xs) us (y ∷ ys) ⊎ IsLonger (y ∷ ys) vs (x ∷ xs))
    join (inl same) = inl (cc (first, same.0), same.1)
    join (inr (inl h)) = inr (inl (record { mark = h.mark; more = h.more; behind = h.behind; is = cc (first, h.is); next = h.next }))
    join (inr (inr h)) = inr (inr (record { mark = h.mark; more = h.more; behind = h.behind; is = cc (first, h.is); next = h.next }))

-- a beginning of what a text begins with is what a text begins with
viable_before : (xs more : List Classed) (t : Classed) → IsViable (xs ++ (t ∷ more)) → IsViable (xs ++ (t ∷ []))
viable_before xs more t (rest, h) = (more ++ rest, rw (append_assoc xs (t ∷ []) (more ++ rest), sym (append_assoc xs (t ∷ more) rest)) h)

-- where one bracket too many was opened, more tokens mend nothing
none_more : (n : ℕ) (xs ys : List Classed) → room n xs ≡ None → room n (xs ++ ys) ≡ None
none_more n [] ys e = cc
none_more n (t ∷ xs) ys e = by_leave (leave n t.class) (λ m. none_more m xs ys) e
  where
    by_leave : (left : Option ℕ) → ((m : ℕ) → room m xs ≡ None → room m (xs ++ ys) ≡ None) → room_then (λ m. room m xs) left ≡ None → room_then (λ m. room m (xs ++ ys)) left ≡ None
    by_leave None h f = refl
    by_leave (Some m) h f = h m f

-- no reading goes on where it stopped
no_longer : (end : ℕ) (front us fronts : List Classed) (f : Fault) → StopsAt end front us f → IsViable fronts → IsShallow fronts → IsLonger front us fronts → ⊥
no_longer end front us fronts f stops viable shallow h = at_mark (rw h.next at stops)
  where
    viable_there : IsViable (front ++ (h.mark ∷ []))
    viable_there = viable_before front h.more h.mark (rw h.is at viable)

    at_mark : StopsAt end front (h.mark ∷ h.behind) f → ⊥
    at_mark (inl dead) = dead.0 viable_there
    at_mark (inr deep) =
        let none : room 128 (front ++ (h.mark ∷ h.more)) ≡ None = ap (room 128) (sym (append_assoc front (h.mark ∷ []) h.more)) ∙ none_more 128 (front ++ (h.mark ∷ [])) h.more deep.1 in
        let both : ◌≡◌ {A = Option ℕ} (Some shallow.0) None = sym shallow.1 ∙ ap (room 128) h.is ∙ none in
        cc

-- whether the token is refused by its name
abbrev pub IsNamed : List Classed → Classed → Fault → Type 0
IsNamed front t f = (IsUnsupported front t × (f.kind ≡ kind.Unsupported)) ⊎ ((IsUnsupported front t → ⊥) × (f.kind ≡ kind.Unexpected))

one_kind : (front : List Classed) (t : Classed) (f g : Fault) → IsNamed front t f → IsNamed front t g → f.kind ≡ g.kind
one_kind front t f g (inl x) (inl y) = x.1 ∙ sym y.1
one_kind front t f g (inl x) (inr y) = absurd (y.0 x.0)
one_kind front t f g (inr x) (inl y) = absurd (x.0 y.0)
one_kind front t f g (inr x) (inr y) = x.1 ∙ sym y.1

-- at one place it stops for one reason
one_reason : (end : ℕ) (front back : List Classed) (f g : Fault) → StopsAt end front back f → StopsAt end front back g → (f.at ≡ g.at) × (f.kind ≡ g.kind)
one_reason end front [] f g a b = (a.1 ∙ sym b.1, a.2 ∙ sym b.2)
one_reason end front (t ∷ back) f g (inl a) (inl b) = (a.1 ∙ sym b.1, one_kind front t f g a.2 b.2)
one_reason end front (t ∷ back) f g (inl a) (inr b) = absurd (a.0 b.0)
one_reason end front (t ∷ back) f g (inr a) (inl b) = absurd (b.0 a.0)
one_reason end front (t ∷ back) f g (inr a) (inr b) = (a.2 ∙ sym b.2, a.3 ∙ sym b.3)

pub one_fault : (end : ℕ) (ts : List Classed) (f g : Fault) → RefusesTokens end ts f → RefusesTokens end ts g → (f.at ≡ g.at) × (f.kind ≡ g.kind)
one_fault end ts f g a b = by_cut (cut a.front a.back b.front b.back (sym a.whole ∙ b.whole))
  where
    by_cut : ((a.front ≡ b.front) × (a.back ≡ b.back)) ⊎ (IsLonger a.front a.back b.front ⊎ IsLonger b.front b.back a.front) → (f.at ≡ g.at) × (f.kind ≡ g.kind)
    by_cut (inl same) = one_reason end b.front b.back f g (rw (same.0, same.1) at a.stops) b.stops
    by_cut (inr (inl longer)) = absurd (no_longer end a.front a.back b.front f a.stops b.viable b.shallow longer)
    by_cut (inr (inr longer)) = absurd (no_longer end b.front b.back a.front g b.stops a.viable a.shallow longer)

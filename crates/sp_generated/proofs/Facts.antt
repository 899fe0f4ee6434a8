-- Tests of numbers, of ranges and of names.
use Rattle.std.proofs.Common.{◌≡◌, ◌≢◌, ℕ, zero, suc, ◌+◌, ◌*◌, ◌<◌, ◌≤◌, ◌==◌, ◌&&◌, ◌||◌, Bool, true, false, List, [], ◌∷◌, ◌++◌, refl, sym, ap, ◌∙◌, arith}
use Rattle.std.specs.Prelude.{if◌then◌else◌}
use Rattle.std.specs.List.{list_any, range_with_len}
use Rattle.std.specs.Str.{bytes_eq}
use Rattle.std.proofs.lemmas.Bool.{false≢true}
use Rattle.std.proofs.lemmas.Bool.Decides.{Decides-eqb}
use Rattle.sp_names.specs.Names.{with_name}

pub or_true : (b : Bool) → (b || true) ≡ true
or_true true = refl
or_true false = refl

pub or_false : (b : Bool) → (b || false) ≡ b
or_false true = refl
or_false false = refl

pub and_false : (b : Bool) → (b && false) ≡ false
and_false true = refl
and_false false = refl

-- ---- numbers
pub eq_true : (a b : ℕ) → a ≡ b → (a == b) ≡ true
eq_true a b h = (Decides-eqb a b).1 h

pub eq_false : (a b : ℕ) → a ≢ b → (a == b) ≡ false
eq_false a b h = go (a == b) refl
  where
    go : (t : Bool) → (a == b) ≡ t → (a == b) ≡ false
    go true e = absurd (h ((Decides-eqb a b).0 e))
    go false e = e

pub by_equal : (P : Type 0) (a b : ℕ) → (a ≡ b → P) → (a ≢ b → P) → P
by_equal P a b same other = go (a == b) refl
  where
    go : (t : Bool) → (a == b) ≡ t → P
    go true e = same ((Decides-eqb a b).0 e)
    go false e = other (λ h. absurd (false≢true (sym e ∙ (Decides-eqb a b).1 h)))

pub doubled_eq : (a b : ℕ) → (2 * a == 2 * b) ≡ (a == b)
doubled_eq a b = by_equal ((2 * a == 2 * b) ≡ (a == b)) a b
    (λ e. eq_true (2 * a) (2 * b) (ap (λ k. 2 * k) e) ∙ sym (eq_true a b e))
    (λ e. eq_false (2 * a) (2 * b) (λ h. e (omega arith)) ∙ sym (eq_false a b e))

-- ---- ranges
pub none_of : (p : ℕ → Bool) (a n : ℕ) → ((k : ℕ) → a ≤ k → k < a + n → p k ≡ false) → list_any p (range_with_len a n) ≡ false
none_of p a zero h = refl
none_of p a (suc n) h = ap (λ b. b || list_any p (range_with_len (a + 1) n)) (h a (omega arith) (omega arith)) ∙ none_of p (a + 1) n (λ k l m. h k (omega arith) (omega arith))

-- ---- names
any_behind : (p : List ℕ → Bool) (xs : List (List ℕ)) (x : List ℕ) → list_any p xs ≡ false → p x ≡ false → list_any p (xs ++ x ∷ []) ≡ false
any_behind p [] x h k = ap (λ b. b || false) k
any_behind p (y ∷ xs) x h k = go (p y) h (λ e. any_behind p xs x e k)
  where
    go : (b : Bool) → (b || list_any p xs) ≡ false → (list_any p xs ≡ false → list_any p (xs ++ x ∷ []) ≡ false) → (b || list_any p (xs ++ x ∷ [])) ≡ false
    go true e more = absurd (false≢true (sym e))
    go false e more = more e

-- a name that is new stays new behind another one
pub lacks_with : (names : List (List ℕ)) (v w : List ℕ) → list_any (bytes_eq w) names ≡ false → bytes_eq w v ≡ false → list_any (bytes_eq w) (with_name names v) ≡ false
lacks_with names v w h k = go (list_any (bytes_eq v) names)
  where
    go : (b : Bool) → list_any (bytes_eq w) (if b then names else names ++ v ∷ []) ≡ false
    go true = h
    go false = any_behind (bytes_eq w) names v h k

-- Names that are different are new one after another.
use Rattle.std.proofs.Common.{◌≡◌, ◌≢◌, ℕ, zero, suc, ◌+◌, ◌<◌, ◌≤◌, ◌==◌, ◌||◌, Bool, true, false, cond, List, [], ◌∷◌, ◌++◌, length, get_or, Some, None, refl, sym, ap, ◌∙◌, subst, append_assoc, length-append, arith}
use Rattle.std.specs.Prelude.{not, nat_lt, is_some, if◌then◌else◌}
use Rattle.std.specs.List.{list_any, prefix_len}
use Rattle.std.specs.Str.{bytes_eq}
use Rattle.std.proofs.lemmas.Bool.Decides.{nat_tests, Decides-eqb}
use Rattle.sp_model.specs.Kept.{AreDifferent}
use Rattle.sp_names.specs.Names.{with_name}
use Rattle.sp_trees.specs.Words.{number_of}
use Rattle.sp_written.proofs.Names.{differs}
use Rattle.sp_written.proofs.Declared.{AreNew}

pub not_equal : (a b : ℕ) → a ≢ b → (a == b) ≡ false
not_equal a b h = go (a == b) refl
  where
    go : (t : Bool) → (a == b) ≡ t → (a == b) ≡ false
    go true e = absurd (h ((Decides-eqb a b).0 e))
    go false e = e

-- ---- a name that isn't among others
any_behind : (p : List ℕ → Bool) (names : List (List ℕ)) (v : List ℕ) → list_any p names ≡ false → p v ≡ false → list_any p (names ++ v ∷ []) ≡ false
any_behind p [] v h k = ap (λ b. b || false) k
any_behind p (x ∷ names) v h k = go (p x) h (λ e. any_behind p names v e k)
  where
    go : (b : Bool) → (b || list_any p names) ≡ false → (list_any p names ≡ false → list_any p (names ++ v ∷ []) ≡ false) → (b || list_any p (names ++ v ∷ [])) ≡ false
    go true e more = cc
    go false e more = more e

pub lacks_more : (names : List (List ℕ)) (v w : List ℕ) → list_any (bytes_eq w) names ≡ false → w ≢ v → list_any (bytes_eq w) (with_name names v) ≡ false
lacks_more names v w h k = go (list_any (bytes_eq v) names)
  where
    go : (b : Bool) → list_any (bytes_eq w) (if b then names else names ++ v ∷ []) ≡ false
    go true = h
    go false = any_behind (bytes_eq w) names v h (differs w v k)

-- each name is new behind those before it
abbrev pub AreFresh : List (List ℕ) → List (List ℕ) → Type 0
AreFresh names [] = Unit {0}
AreFresh names (w ∷ ws) = (list_any (bytes_eq w) names ≡ false) × AreFresh (with_name names w) ws

abbrev pub names_behind : List (List ℕ) → List (List ℕ) → List (List ℕ)
names_behind names [] = names
names_behind names (w ∷ ws) = names_behind (with_name names w) ws

pub fresh : (names ws : List (List ℕ)) → ((i : ℕ) → i < length ws → list_any (bytes_eq (get_or ws i [])) names ≡ false) → AreDifferent ws → AreFresh names ws
fresh names [] h d = tt
fresh names (w ∷ ws) h d = (
  h 0 (omega arith),
  fresh (with_name names w) ws
      (λ i l. lacks_more names w (get_or ws i []) (h (suc i) (omega arith)) (λ e. d 0 (suc i) [] (omega arith) (omega arith) (sym e)))
      (λ i j c l m. d (suc i) (suc j) c (omega arith) (omega arith)),
)

pub fresh_both : (names us vs : List (List ℕ)) → AreFresh names (us ++ vs) → AreFresh names us × AreFresh (names_behind names us) vs
fresh_both names [] vs h = (tt, h)
fresh_both names (u ∷ us) vs h = let more = fresh_both (with_name names u) us vs h.1 in ((h.0, more.0), more.1)

-- ---- values
none_before : (p : List ℕ → Bool) (xs : List (List ℕ)) → ((i : ℕ) → i < length xs → p (get_or xs i []) ≡ false) → prefix_len (λ x. not (p x)) xs ≡ length xs
none_before p [] h = refl
none_before p (x ∷ xs) h =
    ap (λ b. cond (not b) (1 + prefix_len (λ y. not (p y)) xs) 0) (h 0 (omega arith))
    ∙ (let rest = none_before p xs (λ i l. h (suc i) (omega arith)) in omega arith)

pub no_number : (xs : List (List ℕ)) (w : List ℕ) → ((i : ℕ) → i < length xs → get_or xs i [] ≢ w) → is_some (number_of xs w) ≡ false
no_number xs w h =
    let past = none_before (λ x. bytes_eq x w) xs (λ i l. differs (get_or xs i []) w (h i l)) in
    let outside : nat_lt (length xs) (length xs) ≡ false = grind (arith, nat_tests) in
    ap (λ n. is_some (cond (nat_lt n (length xs)) (Some n) None)) past ∙ ap (λ b. is_some (cond b (Some (length xs)) None)) outside

get_left : (xs ys : List (List ℕ)) (i : ℕ) → i < length xs → get_or (xs ++ ys) i [] ≡ get_or xs i []
get_left [] ys i l = absurd (omega arith)
get_left (x ∷ xs) ys zero l = refl
get_left (x ∷ xs) ys (suc i) l = get_left xs ys i (omega arith)

get_first : (xs : List (List ℕ)) (y : List ℕ) (ys : List (List ℕ)) → get_or (xs ++ y ∷ ys) (length xs) [] ≡ y
get_first [] y ys = refl
get_first (x ∷ xs) y ys = get_first xs y ys

pub values_new : (before ws : List (List ℕ)) → AreDifferent (before ++ ws) → length (before ++ ws) ≤ 64 → AreNew before ws
values_new before [] d l = tt
values_new before (w ∷ ws) d l =
    let long = length-append before (w ∷ ws) in (
      no_number before w (λ i m e. d i (length before) [] m (omega arith) (get_left before (w ∷ ws) i m ∙ e ∙ sym (get_first before w ws))),
      not_equal (length before) 64 (λ e. omega arith),
      values_new (before ++ w ∷ []) ws (subst AreDifferent (sym (append_assoc before (w ∷ []) ws)) d) (subst (λ xs. length xs ≤ 64) (sym (append_assoc before (w ∷ []) ws)) l),
    )

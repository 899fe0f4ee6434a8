-- Parts of a list from a place on.
use Rattle.std.proofs.Common.{◌≡◌, ℕ, zero, suc, ◌+◌, ◌<◌, ◌≤◌, List, [], ◌∷◌, ◌++◌, length, get_or, take, drop, pos, ◌&&◌, sym, ◌∙◌, ap, ap₂, refl, arith, add-one}
use Rattle.std.proofs.lemmas.List.{get_or-take, get_or-drop, length-drop, drop-drop}
use Rattle.sp_dd.specs.declared.part.Part.{Part}
use Rattle.sp_dd.specs.declared.part.Part.TheVariants.{Leaf}
use Rattle.sp_dd.specs.NodeLists.{all_are, same_part, first_part}
use Rattle.sp_dd.specs.Hashes.{part_hash, parts_hash}
use Rattle.sp_dd.proofs.Settled.{same_part_refl}
use Rattle.sp_dd.proofs.Worded.{drop_first}

abbrev pub no_part : Part
no_part = Leaf (pos 0)

take_one : (xs : List Part) (i : ℕ) → i < length xs → take (suc i) xs ≡ take i xs ++ get_or xs i no_part ∷ []
take_one [] i l = absurd (omega arith)
take_one (x ∷ xs) zero l = refl
take_one (x ∷ xs) (suc i) l = ap (λ r. x ∷ r) (take_one xs i (omega arith))

pub range_more : (xs ys : List Part) (f g i n : ℕ) → f + n ≤ length xs → g + n ≤ length ys → i < n → take i (drop f xs) ≡ take i (drop g ys) → get_or xs (f + i) no_part ≡ get_or ys (g + i) no_part → take (i + 1) (drop f xs) ≡ take (i + 1) (drop g ys)
range_more xs ys f g i n l m k e s =
    let one : i + 1 ≡ suc i = add-one i in
    ap (λ j. take j (drop f xs)) one
    ∙ take_one (drop f xs) i (omega (arith, l, k, length-drop f xs))
    ∙ ap₂ (λ a b. a ++ b ∷ []) e (get_or-drop f xs i no_part ∙ s ∙ sym (get_or-drop g ys i no_part))
    ∙ sym (take_one (drop g ys) i (omega (arith, m, k, length-drop g ys)))
    ∙ sym (ap (λ j. take j (drop g ys)) one)

pub range_apart : (xs ys : List Part) (f g i n : ℕ) → i < n → take n (drop f xs) ≡ take n (drop g ys) → get_or xs (f + i) no_part ≡ get_or ys (g + i) no_part
range_apart xs ys f g i n k e =
    sym (get_or-drop f xs i no_part) ∙ sym (get_or-take n (drop f xs) i no_part k)
    ∙ ap (λ r. get_or r i no_part) e
    ∙ get_or-take n (drop g ys) i no_part k ∙ get_or-drop g ys i no_part

pub all_are_more : (a : Part) (xs : List Part) (i : ℕ) → i < length xs → all_are a (drop i xs) ≡ same_part a (get_or xs i no_part) && all_are a (drop (i + 1) xs)
all_are_more a xs i l =
    let one : i + 1 ≡ suc i = add-one i in
    ap (all_are a) (drop_first xs i l) ∙ sym (ap (λ j. same_part a (get_or xs i no_part) && all_are a (drop j xs)) one)

-- the first part is the first
pub all_are_rest : (xs : List Part) (i : ℕ) → all_are (first_part (drop i xs)) (drop (i + 1) xs) ≡ all_are (first_part (drop i xs)) (drop i xs)
all_are_rest xs i = ap (all_are (first_part (drop i xs))) (sym (drop-drop 1 i xs)) ∙ without_first (drop i xs)
  where
    without_first : (ps : List Part) → all_are (first_part ps) (drop 1 ps) ≡ all_are (first_part ps) ps
    without_first [] = refl
    without_first (a ∷ ps) = sym (ap (λ b. b && all_are a ps) (same_part_refl a))

pub first_of_drop : (xs : List Part) (i : ℕ) → i < length xs → get_or xs i no_part ≡ first_part (drop i xs)
first_of_drop xs i l = sym (ap first_part (drop_first xs i l))

pub hash_more : (s r h : ℕ) (xs : List Part) (f i n : ℕ) → f + n ≤ length xs → i < n → h ≡ parts_hash s (take i (drop f xs)) → r ≡ part_hash h (get_or xs (f + i) no_part) → r ≡ parts_hash s (take (i + 1) (drop f xs))
hash_more s r h xs f i n l k e m =
    let one : i + 1 ≡ suc i = add-one i in
    m ∙ ap₂ part_hash e (sym (get_or-drop f xs i no_part))
    ∙ sym (parts_hash_push s (take i (drop f xs)) (get_or (drop f xs) i no_part))
    ∙ ap (parts_hash s) (sym (take_one (drop f xs) i (omega (arith, l, k, length-drop f xs))))
    ∙ sym (ap (λ j. parts_hash s (take j (drop f xs))) one)
  where
    parts_hash_push : (s : ℕ) (ps : List Part) (a : Part) → parts_hash s (ps ++ a ∷ []) ≡ part_hash (parts_hash s ps) a
    parts_hash_push s [] a = refl
    parts_hash_push s (p ∷ ps) a = parts_hash_push (part_hash s p) ps a

-- Lines and words, one after another.
use Rattle.std.proofs.Common.{◌≡◌, ℕ, suc, ◌+◌, ◌<◌, ◌≤◌, Bool, true, false, cond, not, List, [], ◌∷◌, ◌++◌, length, take, drop, eqb, Some, None, refl, sym, ap, ◌∙◌, arith, append_assoc}
use Rattle.std.specs.Prelude.{filter, nat_lt, position}
use Rattle.std.specs.List.{slice_split, onto_first, position_or_len, prefix_len}
use Rattle.std.specs.Str.Lines.{lines, lines_of_parts, strip_carriage_return}
use Rattle.std.proofs.lemmas.Bool.{lt-ltb, ltb-false, ne_eqb}
use Rattle.std.proofs.lemmas.List.Folds.{length-prefix_len}
use Rattle.std.proofs.lemmas.List.Sums.{position_or_len_is, fails_before_first}
use Rattle.std.proofs.lemmas.List.Quantifiers.{position-Some}
use Rattle.std.proofs.lemmas.List.Splits.{slice_split_first, slice_split_none}
use Rattle.std.proofs.Math.Seq.{drop-length}
use Rattle.std.proofs.lemmas.List.{map-append}
use Rattle.std.specs.Borrow.{Bor}
use Rattle.sp_script.specs.Lines.{is_blank, texts, words_of}

-- ---- parts
-- what is parted behind the first part
rest_parts : (ℕ → Bool) → List ℕ → List (List ℕ)
rest_parts p [] = []
rest_parts p (x ∷ xs) = slice_split p xs

-- the length of the first part
abbrev front : (ℕ → Bool) → List ℕ → ℕ
front p xs = prefix_len (λ b. not (p b)) xs

split_is : (p : ℕ → Bool) (xs : List ℕ) → slice_split p xs ≡ take (front p xs) xs ∷ rest_parts p (drop (front p xs) xs)
unfolding rest_parts
split_is p [] = refl
split_is p (x ∷ xs) = go (p x) (split_is p xs)
  where
    go : (b : Bool) → slice_split p xs ≡ take (front p xs) xs ∷ rest_parts p (drop (front p xs) xs)
        → cond b ([] ∷ slice_split p xs) (onto_first x (slice_split p xs)) ≡ take (cond (not b) (1 + front p xs) 0) (x ∷ xs) ∷ rest_parts p (drop (cond (not b) (1 + front p xs) 0) (x ∷ xs))
    go true h = refl
    go false h = let e : 1 + front p xs ≡ suc (front p xs) = omega arith in rw e (ap (onto_first x) h)

-- ---- words
abbrev has_bytes : List ℕ → Bool
has_bytes word = nat_lt 0 (length word)

rest_words : (xs : List ℕ) → filter has_bytes (rest_parts is_blank (drop (front is_blank xs) xs)) ≡ words_of (drop (front is_blank xs) xs)
unfolding rest_parts
rest_words [] = refl
rest_words (x ∷ xs) = go (is_blank x) refl (rest_words xs)
  where
    go : (b : Bool) → is_blank x ≡ b → filter has_bytes (rest_parts is_blank (drop (front is_blank xs) xs)) ≡ words_of (drop (front is_blank xs) xs)
        → filter has_bytes (rest_parts is_blank (drop (cond (not b) (1 + front is_blank xs) 0) (x ∷ xs))) ≡ words_of (drop (cond (not b) (1 + front is_blank xs) 0) (x ∷ xs))
    go true e h = ap (λ (c : Bool). filter has_bytes (cond c ([] ∷ slice_split is_blank xs) (onto_first x (slice_split is_blank xs)))) (sym e)
    go false e h = let one : 1 + front is_blank xs ≡ suc (front is_blank xs) = omega arith in rw one h

-- a blank in front is no word
pub words_of-blank : (xs : List ℕ) → 0 < length xs → front is_blank xs ≡ 0 → words_of (drop 1 xs) ≡ words_of xs
words_of-blank [] some none = absurd (omega arith)
words_of-blank (x ∷ xs) some none = go (is_blank x) refl none
  where
    go : (b : Bool) → is_blank x ≡ b → cond (not b) (1 + front is_blank xs) 0 ≡ 0 → words_of xs ≡ words_of (x ∷ xs)
    go true e h = ap (λ (c : Bool). filter has_bytes (cond c ([] ∷ slice_split is_blank xs) (onto_first x (slice_split is_blank xs)))) (sym e)
    go false e h = absurd (omega (arith, h))

-- a word in front is the first
pub words_of-word : (xs : List ℕ) (n : ℕ) → n ≡ front is_blank xs → 0 < n → n ≤ length xs → take n xs ∷ words_of (drop n xs) ≡ words_of xs
words_of-word xs n is some within =
    let one : take n xs ≡ take (front is_blank xs) xs = ap (λ k. take k xs) is in
    let full : has_bytes (take (front is_blank xs) xs) ≡ true = lt-ltb 0 (length (take (front is_blank xs) xs)) (omega (arith, length-prefix_len (λ b. not (is_blank b)) xs, some, is)) in
    let two : words_of xs ≡ cond (has_bytes (take (front is_blank xs) xs)) (take (front is_blank xs) xs ∷ filter has_bytes (rest_parts is_blank (drop (front is_blank xs) xs))) (filter has_bytes (rest_parts is_blank (drop (front is_blank xs) xs))) = ap (filter has_bytes) (split_is is_blank xs) in
    sym (two ∙ (λ i. cond (full i) (sym one i ∷ rest_words xs i) (rest_words xs i)) ∙ ap (λ k. take n xs ∷ words_of (drop k xs)) (sym is))

-- a word more
pub texts_more : (words new : List (Bor (List ℕ))) (word : Bor (List ℕ)) (rest all : List (List ℕ)) → new ≡ words ++ word ∷ [] → texts words ++ (word.now ∷ rest) ≡ all → texts new ++ rest ≡ all
texts_more words new word rest all is h = ap (λ ws. texts ws ++ rest) is ∙ ap (λ ws. ws ++ rest) (map-append (λ (k : Bor (List ℕ)). k.now) words (word ∷ [])) ∙ append_assoc (texts words) (word.now ∷ []) rest ∙ h

-- ---- lines
parts_are : (text : List ℕ) (k : ℕ) → position (λ b. eqb b 10) text ≡ Some k → slice_split (λ b. eqb b 10) text ≡ take k text ∷ slice_split (λ b. eqb b 10) (drop (k + 1) text)
parts_are text k is =
    let (within, here, before) = position-Some (λ b. eqb b 10) text k 0 is in
    let same = position_or_len_is (λ b. eqb b 10) text k 0 (omega (arith, within)) before (λ _. here) in
    slice_split_first (λ b. eqb b 10) text 0 (omega (arith, within, same)) ∙ (λ i. take (same i) text ∷ slice_split (λ b. eqb b 10) (drop (same i + 1) text))

-- a list of parts has a first
first_part : (xs : List ℕ) → (part : List ℕ) × (parts : List (List ℕ)) × (slice_split (λ b. eqb b 10) xs ≡ part ∷ parts)
first_part xs = (_, _, split_is (λ b. eqb b 10) xs)

-- the line before a line feed, and those behind it
pub lines_feed : (text : List ℕ) (k : ℕ) → position (λ b. eqb b 10) text ≡ Some k → lines text ≡ strip_carriage_return (take k text) ∷ lines (drop (k + 1) text)
lines_feed text k is =
    let (part, parts, e) = first_part (drop (k + 1) text) in
    ap lines_of_parts (parts_are text k is ∙ ap (λ (ps : List (List ℕ)). take k text ∷ ps) e) ∙ ap (λ (ps : List (List ℕ)). strip_carriage_return (take k text) ∷ lines_of_parts ps) (sym e)

absent : (text : List ℕ) → position (λ b. eqb b 10) text ≡ None → length text ≤ position_or_len (λ b. eqb b 10) text
absent text none = go (nat_lt (position_or_len (λ b. eqb b 10) text) (length text)) refl none
  where
    go : (b : Bool) → nat_lt (position_or_len (λ b. eqb b 10) text) (length text) ≡ b → cond b (Some (position_or_len (λ b. eqb b 10) text)) None ≡ None → length text ≤ position_or_len (λ b. eqb b 10) text
    go true e h = absurd (cc)
    go false e h = ltb-false (position_or_len (λ b. eqb b 10) text) (length text) e

-- a text without a line feed is one line
pub lines_last : (text : List ℕ) → 0 < length text → position (λ b. eqb b 10) text ≡ None → lines text ≡ text ∷ lines (drop (length text) text)
lines_last text some none =
    let all : slice_split (λ b. eqb b 10) text ≡ text ∷ [] = slice_split_none (λ b. eqb b 10) text (λ k d less. fails_before_first (λ b. eqb b 10) text k d (omega (arith, less, absent text none))) in
    let empty : eqb (length text) 0 ≡ false = ne_eqb (length text) 0 (λ e. absurd (omega (arith, e, some))) in
    ap lines_of_parts all ∙ ap (λ (c : Bool). cond c [] (text ∷ [])) empty ∙ ap (λ (rest : List ℕ). text ∷ lines rest) (sym (drop-length text))

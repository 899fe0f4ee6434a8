-- The signs of words and brackets round parts.
use Rattle.std.specs.Prelude.{ℕ, List, [], ◌∷◌, ◌++◌}
use Rattle.sp_spelled.specs.Signs.{Sign, opens, closes, left_square, right_square, plus, star, word, primed, Gap, tight, space, line, Spelled}

abbrev pub sign : Sign → Gap → Spelled
sign s g = record { sign = s; gap = g }

-- a word with a space or a line's end behind it
abbrev pub spaced_word : List ℕ → Spelled
spaced_word w = sign (word w) space

abbrev pub last_word : List ℕ → Spelled
last_word w = sign (word w) line

-- "(" WORD ")"
abbrev pub leaf : List ℕ → Gap → List Spelled
leaf w g = sign opens tight ∷ sign (word w) tight ∷ sign closes g ∷ []

-- "(" WORD .. ")"
abbrev pub group : List ℕ → List Spelled → Gap → List Spelled
group w us g = sign opens tight ∷ sign (word w) space ∷ (us ++ sign closes g ∷ [])

-- "(" PRIMED .. ")"
abbrev pub primed_group : List ℕ → List Spelled → Gap → List Spelled
primed_group w us g = sign opens tight ∷ sign (primed w) space ∷ (us ++ sign closes g ∷ [])

-- "[" "+" .. "]"
abbrev pub sum_group : List Spelled → Gap → List Spelled
sum_group us g = sign left_square tight ∷ sign plus space ∷ (us ++ sign right_square g ∷ [])

-- "[" "*" .. "]"
abbrev pub product_group : List Spelled → Gap → List Spelled
product_group us g = sign left_square tight ∷ sign star space ∷ (us ++ sign right_square g ∷ [])

-- the words of a list, and its bracket directly behind the last
abbrev pub closed_words : List (List ℕ) → Gap → List Spelled
closed_words [] g = sign closes g ∷ []
closed_words (w ∷ []) g = sign (word w) tight ∷ sign closes g ∷ []
closed_words (w ∷ (v ∷ ws)) g = spaced_word w ∷ closed_words (v ∷ ws) g

-- "(" NAME VALUE+ ")"
abbrev pub declaration_signs : List ℕ → List (List ℕ) → Gap → List Spelled
declaration_signs w ws g = sign opens tight ∷ (spaced_word w ∷ closed_words ws g)

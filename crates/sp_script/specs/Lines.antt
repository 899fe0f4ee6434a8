-- The words of a script's lines.
use Rattle.std.specs.Prelude.{ℕ, ◌==◌, ◌||◌, Bool, true, List, [], ◌∷◌, filter, length, map, nat_eq, nat_lt, codes}
use Rattle.std.specs.List.{slice_split, starts_with}
use Rattle.std.specs.Borrow.{Bor}

-- a space or a tab
abbrev pub is_blank : ℕ → Bool
is_blank b = b == 32 || b == 9

-- the words of a line, which blanks part
abbrev pub words_of : List ℕ → List (List ℕ)
words_of line = filter (λ word. nat_lt 0 (length word)) (slice_split is_blank line)

-- whether a line of these words is skipped: it has none, or the first begins with `//`
abbrev pub is_skipped : List (List ℕ) → Bool
is_skipped [] = true
is_skipped (word ∷ words) = starts_with nat_eq word (codes "//")

-- the texts that references point to
abbrev pub texts : List (Bor (List ℕ)) → List (List ℕ)
texts ks = map (λ k. k.now) ks

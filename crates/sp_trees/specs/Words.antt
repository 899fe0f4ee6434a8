-- Words of a source, and names.
use Rattle.std.specs.Prelude.{ℕ, ◌-◌, Bool, true, false, List, Option, position, slice_range}
use Rattle.std.specs.Str.{bytes_eq}
use Rattle.sp_lex.specs.declared.lexeme.Span.{Span}

-- the bytes of a span
abbrev pub text : List ℕ → Span → List ℕ
text source span = slice_range source span.start span.end

-- the number of a word among names
abbrev pub number_of : List (List ℕ) → List ℕ → Option ℕ
number_of names word = position (λ name. bytes_eq name word) names

-- the name in a variable's word: a primed one ends with a quote behind it
abbrev pub name_span : Bool → Span → Span
name_span true span = record { start = span.start; end = span.end - 1 }
name_span false span = span

use Rattle.std.proofs.Common.{◌≡◌, ◌≢◌, ℕ, ◌+◌, ◌++◌, List, length, take, drop, Option, Some, None, true, false, nat_eq, sym, ap, ◌∙◌, Bor}
use Rattle.std.specs.Prelude.{MatchOption}
use Rattle.std.specs.Cmp.Lexicographic.{same_text, other_text}
use Rattle.std.proofs.lemmas.List.{take-append-drop}
use Rattle.std.proofs.Math.Seq.{take-append_seam}
use lib.Pointwise.{pointwise}
use Rattle.sp_lines.proofs.reading.behind.Goals as goal

told : (r : Option (Bor (List ℕ))) (text word : List ℕ)
    → MatchOption r (pointwise nat_eq (take (length word) text) word ≡ false) (λ x. (pointwise nat_eq (take (length word) text) word ≡ true) × (x.now ≡ drop (length word) text) × (length x.now + length word ≡ length text))
    → MatchOption r ((rest : List ℕ) → text ≢ word ++ rest) (λ rest. text ≡ word ++ rest.now)
told None text word e = λ rest is. other_text (take (length word) text) word (sym e) (ap (take (length word)) is ∙ take-append_seam word rest)
told (Some x) text word e = sym (take-append-drop (length word) text) ∙ ap (λ l. l ++ drop (length word) text) (same_text (take (length word) text) word (sym e.0)) ∙ ap (λ l. word ++ l) (sym e.1)

pub returns : goal.returns
returns c = told c.strip_prefix.result c.args.text.now c.args.word.now c.strip_prefix.ensures.cases

use Rattle.std.proofs.Common.{◌≡◌, ◌∷◌, [], ◌++◌, ℕ, List, ap, sym, ◌∙◌}
use Rattle.std.proofs.Common.{Option, Some, None, ◌≢◌}
use Rattle.std.specs.Prelude.{MatchOption}
use Rattle.sp_lines.specs.Lines.{numbers_behind_spaces, IsSmall}
use Rattle.sp_planfile.specs.PlanText.{count_line}
use Rattle.sp_planfile.proofs.Sections.{behind_same}
use Rattle.sp_filed.proofs.options.count_of.Goals as goal

told : (r : Option ℕ) (line word text : List ℕ) → line ≡ word ++ text → MatchOption r ((x : ℕ) → IsSmall x → text ≢ numbers_behind_spaces (x ∷ [])) (λ x. IsSmall x × (text ≡ numbers_behind_spaces (x ∷ [])))
    → MatchOption r ((n : ℕ) → IsSmall n → line ≢ count_line word n) (λ n. IsSmall n × (line ≡ count_line word n))
told None line word text e none = λ n small is. none n small (behind_same word text (numbers_behind_spaces (n ∷ [])) (sym e ∙ is))
told (Some n) line word text e read = (read.0, e ∙ ap (λ l. word ++ l) read.1)

pub returns : goal.returns
returns c = told c.one_number.result c.args.line.now c.args.word.now c.in_ok-text.text.now c.in_ok-text.ensures c.one_number.ensures

-- The line of a refusal from its pieces.
use Rattle.std.proofs.Common.{◌≡◌, ℕ, List, ◌++◌, ◌∙◌, ap, append_assoc, codes}
use Rattle.std.specs.Fmt.{decimal}
use Rattle.sp_tool.specs.Lines.{refused_line, not_legal_line}

pub refused_is : (file : List ℕ) (at : ℕ) (kind front one end : List ℕ) → front ≡ codes "perseus: refused: " ++ (file ++ (codes ": byte " ++ (decimal at ++ codes ": "))) → one ≡ front ++ kind → end ≡ one ++ codes "\n" → end ≡ refused_line file at kind
refused_is file at kind front one end e f g =
    let tail = kind ++ codes "\n" in
    g ∙ ap (λ l. l ++ codes "\n") f ∙ append_assoc front kind (codes "\n") ∙ ap (λ l. l ++ tail) e
    ∙ append_assoc (codes "perseus: refused: ") (file ++ (codes ": byte " ++ (decimal at ++ codes ": "))) tail
    ∙ ap (λ l. codes "perseus: refused: " ++ l) (append_assoc file (codes ": byte " ++ (decimal at ++ codes ": ")) tail
    ∙ ap (λ l. file ++ l) (append_assoc (codes ": byte ") (decimal at ++ codes ": ") tail ∙ ap (λ l. codes ": byte " ++ l) (append_assoc (decimal at) (codes ": ") tail)))

pub not_legal_is : (file note front one end : List ℕ) → front ≡ codes "perseus: not legal: " ++ (file ++ codes ": ") → one ≡ front ++ note → end ≡ one ++ codes "\n" → end ≡ not_legal_line file note
not_legal_is file note front one end e f g =
    let tail = note ++ codes "\n" in
    g ∙ ap (λ l. l ++ codes "\n") f ∙ append_assoc front note (codes "\n") ∙ ap (λ l. l ++ tail) e
    ∙ append_assoc (codes "perseus: not legal: ") (file ++ codes ": ") tail
    ∙ ap (λ l. codes "perseus: not legal: " ++ l) (append_assoc file (codes ": ") tail)

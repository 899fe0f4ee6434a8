-- The lines of the model.
use Rattle.std.proofs.Common.{◌≡◌, ℕ, ◌-◌, List, [], ◌∷◌, ◌++◌, length, take, ap, sym, ◌∙◌, append_assoc, arith, codes, subst}
use Rattle.std.specs.List.{AllByRecursion}
use Rattle.std.proofs.lemmas.List.{take_at, length-append}
use Rattle.sp_lines.specs.Lines.{lines_of, Lacks}
use Rattle.sp_lines.proofs.Lists.{lacks_none}
use Rattle.sp_planfile.specs.Form.{IsModelLine}
use Rattle.sp_planfile.proofs.Sections.{cut_at, ends_there}

-- the front of a text whose rest is known
pub front_is : (text front rest : List ℕ) → text ≡ front ++ rest → take (length text - length rest) text ≡ front
front_is text front rest e = ap (λ t. take (length t - length rest) t) e ∙ take_at front rest (length (front ++ rest) - length rest) (omega (arith, length-append front rest))

-- a model that doesn't end
pub ends_nowhere : (xs ys : List (List ℕ)) (rest more : List ℕ) → AllByRecursion IsModelLine xs → AllByRecursion IsModelLine ys → Lacks 10 rest
    → lines_of (λ line. line) xs ++ rest ≡ lines_of (λ line. line) ys ++ (codes "endmodel\n" ++ more) → ⊥
ends_nowhere [] [] rest more a b lacks e = lacks_none (codes "endmodel") more (subst (Lacks 10) e lacks)
ends_nowhere [] (y ∷ ys) rest more a b lacks e = lacks_none y (lines_of (λ line. line) ys ++ (codes "endmodel\n" ++ more)) (subst (Lacks 10) (e ∙ append_assoc y (10 ∷ lines_of (λ line. line) ys) (codes "endmodel\n" ++ more)) lacks)
ends_nowhere (x ∷ xs) [] rest more a b lacks e = ends_there x more (lines_of (λ line. line) xs ++ rest) a.0 (sym e ∙ append_assoc x (10 ∷ lines_of (λ line. line) xs) rest)
ends_nowhere (x ∷ xs) (y ∷ ys) rest more a b lacks e =
    let cut = cut_at 10 x y (lines_of (λ line. line) xs ++ rest) (lines_of (λ line. line) ys ++ (codes "endmodel\n" ++ more)) a.0.whole b.0.whole
    (sym (append_assoc x (10 ∷ lines_of (λ line. line) xs) rest) ∙ e ∙ append_assoc y (10 ∷ lines_of (λ line. line) ys) (codes "endmodel\n" ++ more)) in
    ends_nowhere xs ys rest more a.1 b.1 lacks cut.1

use Rattle.std.proofs.Common.{[], ◌∷◌, ◌++◌, ◌∙◌, refl, ap, drop_of_length-le}
use Rattle.sp_spelled.specs.Signs.{word, closes, text_of_signs}
use Rattle.sp_spelled.specs.Shapes.{sign, closed_words}
use Rattle.sp_canonical.specs.Gaps.{gap_of}
use Rattle.sp_canonical.proofs.Loops.{went_on, ended, next_word}
use Rattle.sp_canonical.proofs.declarations.put_values.Goals as goal

pub loop-i-preserved : goal.loop-i-preserved
loop-i-preserved c =
    went_on _ _ _ _ _ (sign (word c.index-values-i.result) (gap_of c.gap_if.result) ∷ []) _ c.loop-i.invariant
    (c.in_ok-put_word.ensures ∙ ap (λ w. c.loop-i.page ++ text_of_signs (sign (word w) (gap_of c.gap_if.result) ∷ [])) c.bytes.ensures)
    (next_word c.args.values.now c.loop-i.i c.index-values-i.result _ (gap_of c.args.gap) c.loop-i-test.true c.index-values-i.is c.gap_if.ensures)

pub returns : goal.returns
returns c =
    ended _ _ _ [] (went_on _ _ _ _ _ (sign closes (gap_of c.args.gap) ∷ []) [] c.loop-i.invariant c.in_ok-put_closing.ensures (ap (λ vs. closed_words vs (gap_of c.args.gap)) (drop_of_length-le c.args.values.now c.loop-i-test.false))) refl

use Rattle.std.proofs.Common.{◌∷◌, [], arith, sym, ◌∙◌, codes}
use Rattle.sp_lines.specs.Lines.{numbers_behind_spaces}
use Rattle.sp_planfile.proofs.Sections.{behind_same}
use Rattle.sp_filed.proofs.Lines.{two_same}
use Rattle.sp_filed.proofs.options.move_of.Goals as goal
use Rattle.sp_filed.proofs.options.move_of.Goals.{else-action-sizes-via-then-action-sizes+else-observation-sizes, else-action-sizes-via-else-action-sizes}

pub returns-else-action-sizes : goal.returns-else-action-sizes
returns-else-action-sizes c = λ x good is.
    let read = c.in_ok-action.ensures in
    let text = behind_same (codes "belief") c.in_ok-text.text.now (numbers_behind_spaces (x.0 ∷ x.1 ∷ [])) (sym c.in_ok-text.ensures ∙ is) in
    let same = two_same c.in_ok-action.action c.in_ok-action.observation x.0 x.1 c.in_ok-text.text.now read.0 read.1 good.1.0 good.1.1 read.2 text in
    elim c.else-action-sizes.branch as (λ _. ⊥) [
      | else-action-sizes-via-then-action-sizes+else-observation-sizes w ↦ omega (arith, w.if-observation-sizes.false, same.1, good.0.1)
      | else-action-sizes-via-else-action-sizes w ↦ omega (arith, w.if-action-sizes.false, same.0, good.0.0)
    ]

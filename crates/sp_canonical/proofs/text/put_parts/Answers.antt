use Rattle.std.proofs.Common.{ℕ, List, ◌++◌, ◌∙◌, ap}
use Rattle.std.specs.Prelude.{codes}
use Rattle.sp_spelled.specs.Signs.{text_of_signs}
use Rattle.sp_model.specs.declared.parts.Decl.{Decl}
use Rattle.sp_canonical.specs.ModelSigns.{actions_signs, declarations_line, discount_signs, init_signs, model_signs, reward_signs, lines_total, factor_tables}
use Rattle.sp_canonical.proofs.Pieces.{follows}
use Rattle.sp_canonical.proofs.text.put_parts.Goals as goal

pub returns : goal.returns
unfolding model_signs
returns c =
    let p = c.args.parts.now in
    follows _ _ _ (declarations_line (codes "variables") p.variables) _ (c.in_ok-put_declarations.ensures ∙ ap (λ (ds : List Decl). c.args.page.now ++ text_of_signs (declarations_line (codes "variables") ds)) c.as_slice.ensures)
    (follows _ _ _ (declarations_line (codes "observations") p.sights) _ (c.in_ok-put_declarations-2.ensures ∙ ap (λ (ds : List Decl). c.put_declarations.new.page ++ text_of_signs (declarations_line (codes "observations") ds)) c.as_slice-2.ensures)
    (follows _ _ _ (init_signs p p.init) _ c.in_ok-base.ensures.text
    (follows _ _ _ (actions_signs p (lines_total (factor_tables p.init)) p.actions) _ (c.in_ok-put_actions.ensures ∙ ap (λ (n : ℕ). c.put_init.new.page ++ text_of_signs (actions_signs p n p.actions)) c.in_ok-base.ensures.count)
    (follows _ _ _ reward_signs (discount_signs p.discount) c.in_ok-put_reward.ensures c.in_ok-put_discount.ensures))))

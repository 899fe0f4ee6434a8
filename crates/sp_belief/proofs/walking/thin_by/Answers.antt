use Rattle.std.proofs.Common.{◌≡◌, ◌*◌, ◌+◌, ◌≤◌, ◌^◌, ap, subst, sym, ◌∙◌, length}
use Rattle.std.specs.Prelude.{unsigned_abs}
use Rattle.sp_dd.specs.Func.{Func, Everywhere}
use Rattle.sp_dd.specs.Operations.{restriction, product_floor}
use Rattle.sp_model.specs.Problem.{sight_of}
use Rattle.sp_belief.specs.Progress.{IsThinned}
use Rattle.sp_belief.proofs.SeenLemmas.{sight_is, at_value_small, thinned_is}
use Rattle.sp_belief.proofs.walking.thin_by.Goals.{After-chance}
use Rattle.sp_belief.proofs.walking.thin_by.Goals as goal

chance-is : (c : After-chance) → c.chance.result.now ≡ restriction (sight_of c.args.model.now c.args.tables.now.action c.args.variable) (2 * length c.args.model.now.variables + c.args.variable) c.args.value
chance-is c = c.chance.ensures ∙ (c.requires.tables.chances.each c.args.variable c.requires.variable).each c.args.value c.requires.value

pub mul_floor-requires-clause-scopes : goal.mul_floor-requires-clause-scopes
mul_floor-requires-clause-scopes c =
    ap (λ (f : Func). f.shape) (chance-is (goal.at.mul_floor-requires-clause-scopes c).After-chance)
    ∙ (sight_is c.args.model.now c.parts.ensures.known c.args.tables.now.action c.requires.tables.known c.args.variable c.requires.variable).shape ∙ sym c.requires.next.shape

pub mul_floor-requires-clause-small_f : goal.mul_floor-requires-clause-small_f
mul_floor-requires-clause-small_f c =
    let Small : Func → Type 0 = λ f. Everywhere f (λ v. unsigned_abs v ≤ 2 ^ 62) in
    subst Small (sym (chance-is (goal.at.mul_floor-requires-clause-small_f c).After-chance))
    (at_value_small c.args.model.now c.parts.ensures.known c.args.tables.now.action c.requires.tables.known c.args.variable c.requires.variable c.args.value c.requires.value)

pub returns : goal.returns
returns c =
    subst (IsThinned c.args.model.now c.args.tables.now.action c.args.variable c.args.value c.args.f.now)
    (sym (c.in_ok-made.ensures ∙ ap (λ (f : Func). product_floor f c.args.f.now) (chance-is (goal.at.returns c).After-chance)))
    (thinned_is c.args.model.now c.parts.ensures.known c.args.tables.now.action c.requires.tables.known c.args.variable c.requires.variable c.args.value c.requires.value c.args.f.now c.requires.next c.requires.small)

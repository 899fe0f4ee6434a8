use Rattle.std.proofs.Common.{◌≡◌, ◌∙◌, ◌≤◌, ℕ, subst, sym, refl, arith, length}
use Rattle.sp_dd.specs.Func.{Func}
use Rattle.sp_belief.specs.Progress.{IsCarrying, IsOnTheWay}
use Rattle.sp_belief.proofs.CarriedLemmas.{carrying_first, carried_is}
use Rattle.sp_belief.proofs.carried.Carried.through.Goals as goal

pub loop-table-init : goal.loop-table-init
loop-table-init c =
    let p = c.args.model.now in
    let same : c.in_ok-func.func ≡ c.args.weights.now = c.in_ok-func.ensures ∙ c.func.ensures.value in
    record {
      within = omega arith;
      carrying = subst (IsCarrying p c.args.action 0) (sym same) (carrying_first p c.parts.ensures.known c.args.action c.args.weights.now c.requires.scope c.func.ensures.known);
      way = subst (λ (f : Func). IsOnTheWay p c.args.action 0 c.args.weights.now 0 f) (sym same) (λ s t at to. refl);
    }

pub invariant_of-result : goal.invariant_of-result
invariant_of-result c =
    let p = c.args.model.now in
    let within : c.loop-table.table ≤ length p.variables = c.loop-table.invariant.within in
    let last : c.loop-table.table ≡ length p.variables = omega (arith, c.loop-table-test.false, within, c.variable_count.ensures.value) in
    record {
      scope = c.requires.scope;
      known = c.requires.action;
      carried = carried_is p c.parts.ensures.known c.args.action c.args.weights.now c.requires.scope c.func.ensures.known c.loop-table.func
          (subst (λ (i : ℕ). IsCarrying p c.args.action i c.loop-table.func) last c.loop-table.invariant.carrying)
          (subst (λ (i : ℕ). IsOnTheWay p c.args.action 0 c.args.weights.now i c.loop-table.func) last c.loop-table.invariant.way);
    }

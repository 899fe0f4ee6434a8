use Rattle.std.proofs.Common.{◌<◌, ℕ, ap, subst, sym, ◌∙◌, arith, List, length, Bool, true, false, not}
use Rattle.std.specs.Bool.{OnTrue, OnFalse}
use Rattle.sp_dd.specs.Func.{Func}
use Rattle.sp_belief.specs.declared.walking.Step.{Step}
use Rattle.sp_belief.specs.Progress.{IsThinned}
use Rattle.sp_belief.specs.Paths.{func_after}
use Rattle.sp_belief.proofs.PathLemmas.{path_more, leads_more, none_left}
use Rattle.sp_belief.proofs.walking.Walk.reaches.Goals as goal

on_not : (b : Bool) (A B : Type 0) → (A → B) → OnTrue b A → OnFalse (not b) B
on_not true A B f h = f h
on_not false A B f h = tt

pub returns-then-is_zero-clause-no : goal.returns-then-is_zero-clause-no
returns-then-is_zero-clause-no c =
    let x = c.args.self.now.carried.now in
    none_left x.model.now c.parts.ensures.known x.weights.now x.action x.known x.func x.carried c.loop-variable.path.items c.loop-variable.invariant.path c.args.observation c.requires.observation
    c.loop-variable.variable c.end.result.now c.loop-variable.invariant.leads (c.end.ensures ∙ ap (λ (l : List Step). func_after x.func l (length l)) c.as_slice.ensures.value) c.if-is_zero.ensures

pub loop-variable-preserved : goal.loop-variable-preserved
loop-variable-preserved c =
    let x = c.args.self.now.carried.now in
    let p = x.model.now in
    let is = c.loop-variable.invariant in
    let count = is.leads.count in
    let within : c.loop-variable.variable < length p.sights = omega (arith, c.loop-variable-test.true, c.sight_count-variable-end.ensures.value) in
    let start = c.end-in-loop-variable.ensures ∙ ap (λ (l : List Step). func_after x.func l (length l)) c.as_slice-in-loop-variable.ensures.value in
    let thins : IsThinned p x.action (length c.loop-variable.path.items) c.coordinate-value.result (func_after x.func c.loop-variable.path.items (length c.loop-variable.path.items)) c.in_ok-func.func =
    subst (λ (f : Func). IsThinned p x.action (length c.loop-variable.path.items) c.coordinate-value.result f c.in_ok-func.func) start
    (subst (λ (n : ℕ). IsThinned p x.action n c.coordinate-value.result c.end-in-loop-variable.result.now c.in_ok-func.func) (sym count)
    (subst (λ (a : ℕ). IsThinned p a c.loop-variable.variable c.coordinate-value.result c.end-in-loop-variable.result.now c.in_ok-func.func) c.args.self.now.same_action c.in_ok-func.ensures)) in
    record {
      path = path_more p x.action x.func c.loop-variable.path.items _ _ (omega (arith, within, count)) is.path thins c.in_ok-push_step.ensures;
      leads = leads_more p c.loop-variable.path.items _ _ c.args.observation c.loop-variable.variable is.leads c.coordinate-value.ensures.value c.in_ok-push_step.ensures;
    }

pub returns-clause-no : goal.returns-clause-no
returns-clause-no c =
    let x = c.args.self.now.carried.now in
    on_not c.is_zero-2.result _ _
    (none_left x.model.now c.parts.ensures.known x.weights.now x.action x.known x.func x.carried c.loop-variable.path.items c.loop-variable.invariant.path c.args.observation c.requires.observation
    c.loop-variable.variable c.end-2.result.now c.loop-variable.invariant.leads (c.end-2.ensures ∙ ap (λ (l : List Step). func_after x.func l (length l)) c.as_slice-2.ensures.value))
    c.is_zero-2.ensures

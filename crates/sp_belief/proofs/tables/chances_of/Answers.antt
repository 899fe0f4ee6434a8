use Rattle.std.proofs.Common.{◌≡◌, ◌+◌, ◌*◌, ℕ, ap, subst, ◌∙◌, arith, length}
use Rattle.sp_dd.specs.Func.{Func, Shape, size_of}
use Rattle.sp_dd.specs.Operations.{restriction}
use Rattle.sp_model.specs.Problem.{no_func, sight_of}
use Rattle.sp_belief.specs.Tables.{AreChances}
use Rattle.sp_belief.proofs.Appended.{each_pushed, count_pushed}
use Rattle.sp_belief.proofs.SeenLemmas.{sight_slot, sight_size}
use Rattle.sp_belief.proofs.tables.chances_of.Goals as goal

pub size-value-end-requires : goal.size-value-end-requires
size-value-end-requires c =
    let slot = sight_slot c.args.model.now c.parts.ensures.known c.args.action c.requires.action c.args.variable c.requires.variable in
    let same = ap (λ (s : Shape). length s.sizes) c.scope.ensures.value ∙ ap (λ (f : Func). length f.shape.sizes) c.sight-sight.ensures in
    omega (arith, slot, same, c.variable_count.ensures.value)

pub loop-value-preserved : goal.loop-value-preserved
loop-value-preserved c =
    let p = c.args.model.now in
    let is = c.loop-value.invariant in
    let pushed = c.in_ok-push.ensures.ok in
    record {
      count = count_pushed c.loop-value.value _ _ _ is.count pushed;
      each = each_pushed (λ (v : ℕ) (f : Func). f ≡ restriction (sight_of p c.args.action c.args.variable) (2 * length p.variables + c.args.variable) v) no_func c.loop-value.value _ _ _ is.count is.each
          (c.in_ok-chance.ensures ∙ (λ h. restriction (c.sight-sight.ensures h) (2 * c.variable_count.ensures.value h + c.args.variable) c.loop-value.value)) pushed;
    }

pub returns : goal.returns
returns c =
    let p = c.args.model.now in
    let size = sight_size p c.parts.ensures.known c.args.action c.requires.action c.args.variable c.requires.variable in
    let end : c.loop-value.value ≡ c.size-value-end.result = omega (arith, c.loop-value-test.false, c.loop-value.auto) in
    let all = end ∙ c.size-value-end.ensures ∙ (λ h. size_of (c.scope.ensures.value h) (2 * c.variable_count.ensures.value h + c.args.variable)) ∙ (λ h. size_of (c.sight-sight.ensures h).shape (2 * length p.variables + c.args.variable)) ∙ size in
    subst (λ (n : ℕ). AreChances p c.args.action c.args.variable n c.loop-value.chances) all c.loop-value.invariant

use Rattle.std.proofs.Common.{◌∙◌, ap, subst, rules}
use Rattle.std.specs.Int.{w128}
use Rattle.std.specs.Prelude.{FitsSigned, pos}
use Rattle.std.proofs.lemmas.Int.{to_z-of_z}
use Rattle.sp_dd.specs.Func.{Shape, Func, IsScope}
use Rattle.sp_dd.specs.Operations.{everywhere, state_dot}
use Rattle.sp_first_values.proofs.Totals.{one_unprimed, one_small, total_some, total_weighs}
use Rattle.sp_first_values.proofs.total_of.Goals as goal

pub dot-requires-clause-unprimed_f : goal.dot-requires-clause-unprimed_f
dot-requires-clause-unprimed_f c = one_unprimed c.func-func.result.now.shape c.scope.ensures.known c.in_ok-one.one (c.in_ok-one.ensures ∙ ap (λ (s : Shape). everywhere s (pos 1)) c.scope.ensures.value)

pub dot-requires-clause-small : goal.dot-requires-clause-small
dot-requires-clause-small c = one_small c.func-func.result.now.shape c.scope.ensures.known c.in_ok-one.one (c.in_ok-one.ensures ∙ ap (λ (s : Shape). everywhere s (pos 1)) c.scope.ensures.value)

pub returns-clause-some : goal.returns-clause-some
returns-clause-some c =
    let same = c.func-func.ensures.value in
    let fits : FitsSigned w128 c.in_ok-total.total = search rules in
    total_some c.args.model.now c.parts.ensures.known c.args.weights.now c.func-func.ensures.known c.requires (subst (λ (f : Func). IsScope f.shape) same c.scope.ensures.known) c.in_ok-one.one
    (c.in_ok-one.ensures ∙ ap (λ (s : Shape). everywhere s (pos 1)) (c.scope.ensures.value ∙ ap (λ (f : Func). f.shape) same))
    _ (to_z-of_z w128 _ fits ∙ c.in_ok-total.ensures ∙ ap (λ (f : Func). state_dot f c.in_ok-one.one) same)

pub returns-clause-value : goal.returns-clause-value
returns-clause-value c =
    let same = c.func-func.ensures.value in
    let fits : FitsSigned w128 c.in_ok-total.total = search rules in
    total_weighs c.args.model.now c.parts.ensures.known c.args.weights.now c.func-func.ensures.known c.requires (subst (λ (f : Func). IsScope f.shape) same c.scope.ensures.known) c.in_ok-one.one
    (c.in_ok-one.ensures ∙ ap (λ (s : Shape). everywhere s (pos 1)) (c.scope.ensures.value ∙ ap (λ (f : Func). f.shape) same))
    _ (to_z-of_z w128 _ fits ∙ c.in_ok-total.ensures ∙ ap (λ (f : Func). state_dot f c.in_ok-one.one) same)

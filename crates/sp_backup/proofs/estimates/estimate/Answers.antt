use Rattle.std.proofs.Common.{◌≡◌, arith, ap, ◌∙◌, subst}
use Rattle.std.specs.Prelude.{ℤ, IfOk}
use Rattle.sp_dd.specs.Func.{Func}
use Rattle.sp_dd.specs.Operations.{state_dot}
use Rattle.sp_theory.specs.Points.{point_of}
use Rattle.sp_theory.specs.Backup.{estimate}
use Rattle.sp_model.specs.declared.parts.Parts.{Parts}
use Rattle.sp_model.specs.Problem.{sizes_of, vector_of, problem}
use Rattle.sp_model.specs.Links.{weights_of}
use Rattle.sp_value.specs.declared.editions.Member.{Member}
use Rattle.sp_backup.specs.Posteriors.{vector_at}
use Rattle.sp_backup.specs.Projections.{IsProjection}
use Rattle.sp_backup.proofs.UnscaledSums.{member_is}
use Rattle.sp_backup.proofs.LinkSums.{projected-unprimed, projected-within, projected-estimate}
use Rattle.sp_backup.proofs.estimates.estimate.Goals as goal

pub dot-sum-requires-clause-unprimed_f : goal.dot-sum-requires-clause-unprimed_f
dot-sum-requires-clause-unprimed_f c =
    let x = c.in_ok-projection.projection in
    let p = c.args.setting.now.edition.now.task.model in
    let is = subst (λ (m : Parts). IsProjection m x) c.model_of-model.ensures.value c.in_ok-projection.ensures.is in
    projected-unprimed p c.model_of-model.ensures.known.model x.action x.joint is.action is.joint x.vector is.vector x.func is.func

pub dot-sum-requires-clause-small : goal.dot-sum-requires-clause-small
dot-sum-requires-clause-small c =
    let x = c.in_ok-projection.projection in
    let p = c.args.setting.now.edition.now.task.model in
    let is = subst (λ (m : Parts). IsProjection m x) c.model_of-model.ensures.value c.in_ok-projection.ensures.is in
    let within = projected-within p c.model_of-model.ensures.known.model x.action x.joint is.action is.joint x.vector is.vector x.func is.func in
    (λ y at. let small = within y at in omega (arith, small))

pub returns-clause-value : goal.returns-clause-value
returns-clause-value c =
    let x = c.in_ok-projection.projection in
    let t = c.args.setting.now in
    let e = t.edition.now in
    let p = e.task.model in
    let is = subst (λ (m : Parts). IsProjection m x) c.model_of-model.ensures.value c.in_ok-projection.ensures.is in
    let vector = c.in_ok-projection.ensures.vector ∙ ap (λ (y : Member). y.vector) (member_is e.members c.members.ensures.value c.args.place _ c.at-member.ensures) in
    let value = ap (λ (w : Func). state_dot w x.func) c.func.ensures.value
    ∙ projected-estimate p c.model_of-model.ensures.known.model x.action x.joint is.action is.joint x.vector is.vector x.func is.func t.weights.now t.scope c.func.ensures.known.not_negative (vector_at e c.args.place) (λ s at. ap (λ (f : Func). vector_of p f s) vector)
    ∙ (λ i. estimate (problem p) (weights_of p t.weights.now) (c.in_ok-projection.ensures.action i) (point_of (sizes_of p.sights) (c.in_ok-projection.ensures.joint i)) (vector_at e c.args.place)) in
    subst (λ (y : ℤ). IfOk c.dot-sum.result (λ z. z ≡ y)) value c.dot-sum.ensures

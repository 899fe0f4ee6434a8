use Rattle.std.proofs.Common.{rules, arith, ap, ◌∙◌}
use Rattle.std.specs.Int.{w128}
use Rattle.std.specs.Prelude.{FitsSigned}
use Rattle.std.proofs.lemmas.Int.{to_z-of_z}
use Rattle.sp_dd.specs.Func.{Func}
use Rattle.sp_dd.specs.Operations.{state_dot}
use Rattle.sp_backup.proofs.LinkSums.{constant-at, projected-unprimed, projected-within, projected-estimate}
use Rattle.sp_backup.proofs.ends.end_estimate.Goals as goal

pub dot-requires-clause-unprimed_f : goal.dot-requires-clause-unprimed_f
dot-requires-clause-unprimed_f c =
    let x = c.args.projection.now in
    let is = c.requires.projection in
    projected-unprimed c.args.model.now c.parts.ensures.known x.action x.joint is.action is.joint x.vector is.vector x.func is.func

pub dot-requires-clause-small : goal.dot-requires-clause-small
dot-requires-clause-small c =
    let x = c.args.projection.now in
    let is = c.requires.projection in
    let within = projected-within c.args.model.now c.parts.ensures.known x.action x.joint is.action is.joint x.vector is.vector x.func is.func in
    (λ y at. let small = within y at in omega (arith, small))

pub returns : goal.returns
returns c =
    let p = c.args.model.now in
    let x = c.args.projection.now in
    let is = c.requires.projection in
    let fits : FitsSigned w128 c.in_ok-sum.sum = search rules in
    (λ z vector low high.
    to_z-of_z w128 _ fits ∙ c.in_ok-sum.ensures ∙ ap (λ (w : Func). state_dot w x.func) c.func.ensures.value
    ∙ projected-estimate p c.parts.ensures.known x.action x.joint is.action is.joint x.vector is.vector x.func is.func c.args.weights.now c.requires.scope c.func.ensures.known.not_negative (λ s. z)
    (constant-at p c.parts.ensures.known z low high x.vector vector))

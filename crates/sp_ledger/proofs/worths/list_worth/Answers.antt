use Rattle.std.proofs.Common.{◌≤◌, ◌^◌, rules, ◌∙◌, ap, ap₂, sym, subst, arith}
use Rattle.std.specs.Int.{w128}
use Rattle.std.specs.Prelude.{FitsSigned, unsigned_abs}
use Rattle.std.proofs.lemmas.Int.{to_z-of_z}
use Rattle.sp_dd.specs.Func.{Func, Everywhere}
use Rattle.sp_dd.specs.Operations.{state_dot}
use Rattle.sp_theory.specs.Values as values
use Rattle.sp_model.specs.Problem.{vector_of, problem}
use Rattle.sp_model.specs.Links.{weights_of}
use Rattle.sp_value.proofs.Vectors.{vector_small, dot_is}
use Rattle.sp_ledger.proofs.worths.list_worth.Goals as goal

pub dot-requires-clause-small : goal.dot-requires-clause-small
dot-requires-clause-small c =
    let P : Func → Type 0 = λ f. Everywhere f (λ v. unsigned_abs v ≤ 2 ^ 62) in
    subst P (sym c.requires.table) (λ x at. (let small = vector_small c.args.task.now.model c.model.ensures.known.model c.args.vector.now c.requires.vector x at in omega (arith, small)))

pub returns : goal.returns
returns c =
    let t = c.args.task.now in
    let fits : FitsSigned w128 c.dot.result = search rules in
    to_z-of_z w128 _ fits ∙ c.dot.ensures
    ∙ ap₂ state_dot (c.requires.list ∙ sym (c.func.ensures.value ∙ c.weights.ensures.value)) c.requires.table
    ∙ ap (λ (w : Func). state_dot w c.args.vector.now) c.func.ensures.value
    ∙ dot_is t.model c.model.ensures.known.model c.weights.result.now c.args.vector.now c.weights.ensures.shape c.requires.vector c.func.ensures.known.not_negative
    ∙ ap (λ (w : Func). values.dot (problem t.model) (weights_of t.model w) (vector_of t.model c.args.vector.now)) c.weights.ensures.value

use Rattle.std.proofs.Common.{rules, arith, ap, ◌∙◌}
use Rattle.std.specs.Int.{w128}
use Rattle.std.specs.Prelude.{FitsSigned}
use Rattle.std.proofs.lemmas.Int.{to_z-of_z}
use Rattle.sp_dd.specs.Func.{Func}
use Rattle.sp_dd.specs.Operations.{state_dot}
use Rattle.sp_value.proofs.Vectors.{vector_at, vector_small, sum_is}
use Rattle.sp_value.proofs.editions.Edition.sum.Goals as goal

pub dot-requires-clause-unprimed_f : goal.dot-requires-clause-unprimed_f
dot-requires-clause-unprimed_f c = (vector_at _ c.members.ensures.known _ c.members.ensures.value _ c.requires.place _ c.at-member.ensures).unprimed

pub dot-requires-clause-small : goal.dot-requires-clause-small
dot-requires-clause-small c =
    let known = c.members.ensures.known in
    let small = vector_small _ known.task.model _ (vector_at _ known _ c.members.ensures.value _ c.requires.place _ c.at-member.ensures) in
    (λ x at. let most = small x at in omega (arith, most))

pub returns : goal.returns
returns c =
    let fits : FitsSigned w128 c.in_ok-sum.sum = search rules in
    to_z-of_z w128 _ fits ∙ c.in_ok-sum.ensures
    ∙ ap (λ (f : Func). state_dot f c.at-member.result.now.vector) c.func.ensures.value
    ∙ sum_is _ c.members.ensures.known _ c.members.ensures.value _ c.requires.place _ c.at-member.ensures _ c.requires.shape c.func.ensures.known.not_negative

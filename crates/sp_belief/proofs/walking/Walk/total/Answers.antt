use Rattle.std.proofs.Common.{sym, subst, Option, IfSome, IfNone}
use Rattle.sp_dd.specs.Func.{Func}
use Rattle.sp_belief.specs.Updates.{unscaled_after}
use Rattle.sp_belief.specs.Paths.{HasNoWeight, IsUnscaled}
use Rattle.sp_belief.proofs.WeightLemmas.{has_unprimed}
use Rattle.sp_belief.proofs.ScaleLemmas.{total-number, next_total}
use Rattle.sp_belief.proofs.PathLemmas.{none-total}
use Rattle.sp_belief.proofs.walking.Walk.total.Goals.{In-Some}
use Rattle.sp_belief.proofs.walking.Walk.total.Goals as goal

unscaled_is : (c : In-Some) → IsUnscaled c.args.self.now.carried.now.model.now c.args.self.now.carried.now.weights.now c.args.self.now.carried.now.action c.args.observation c.in-Some.raw
unscaled_is c =
    let x = c.args.self.now.carried.now in
    subst (λ (o : Option Func). IfSome o (IsUnscaled x.model.now x.weights.now x.action c.args.observation)) c.in-Some.is c.in_ok-raw.ensures.some

pub total_of-requires-clause-unprimed : goal.total_of-requires-clause-unprimed
total_of-requires-clause-unprimed c =
    let x = c.args.self.now.carried.now in
    has_unprimed x.model.now c.parts.ensures.known c.in-Some.raw (unscaled_after x.model.now x.weights.now x.action c.args.observation) (unscaled_is (goal.at.total_of-requires-clause-unprimed c).In-Some).has

pub returns-in_ok-total-in-Some-clause-value : goal.returns-in_ok-total-in-Some-clause-value
returns-in_ok-total-in-Some-clause-value c =
    let x = c.args.self.now.carried.now in
    let total = total-number x.model.now c.parts.ensures.known c.in-Some.raw (unscaled_after x.model.now x.weights.now x.action c.args.observation) (unscaled_is (goal.at.returns-in_ok-total-in-Some-clause-value c).In-Some).has c.in_ok-total-in-Some.total c.in_ok-total-in-Some.ensures in
    next_total x.model.now x.weights.now x.action c.args.observation c.in_ok-total-in-Some.total total

pub returns-in-None-clause-value : goal.returns-in-None-clause-value
returns-in-None-clause-value c =
    let x = c.args.self.now.carried.now in
    sym (none-total x.model.now x.weights.now x.action c.args.observation (subst (λ (o : Option Func). IfNone o (HasNoWeight x.model.now x.weights.now x.action c.args.observation)) c.in-None.is c.in_ok-raw.ensures.none))

use Rattle.std.proofs.Common.{◌∙◌, ap, length, List, rules, subst, sym, to_z, of_z}
use Rattle.std.specs.Prelude.{FitsSigned, ℤ}
use Rattle.std.specs.Int.{w128}
use Rattle.std.proofs.lemmas.Int.{to_z-of_z}
use Rattle.sp_theory.specs.Points.{count_of}
use Rattle.sp_model.specs.declared.parts.Decl.{Decl}
use Rattle.sp_model.specs.declared.parts.ActionPart.{ActionPart}
use Rattle.sp_model.specs.Sizes.{AllSome}
use Rattle.sp_model.specs.Problem.{sizes_of}
use Rattle.sp_model.specs.Rewards.{IsLeastReward, IsGreatestReward}
use Rattle.sp_model.proofs.RowLaw.{some_sizes}
use Rattle.sp_model.proofs.RewardRange.{least_return-problem, top-problem}
use Rattle.sp_model.proofs.factored.Model.new.Goals as goal

pub point_count-states-requires-clause-some : goal.point_count-states-requires-clause-some
point_count-states-requires-clause-some c =
    let P : List Decl → Type 0 = λ ds. AllSome (sizes_of ds) in
    subst P (sym c.as_slice.ensures) (some_sizes c.args.parts.variables c.requires.variables)

pub point_count-joints-requires-clause-some : goal.point_count-joints-requires-clause-some
point_count-joints-requires-clause-some c =
    let P : List Decl → Type 0 = λ ds. AllSome (sizes_of ds) in
    subst P (sym c.as_slice-2.ensures) (some_sizes c.args.parts.sights c.requires.sights)

pub invariant_of-result : goal.invariant_of-result
invariant_of-result c =
    let fits_least : FitsSigned w128 c.worth_below-least_return.result = search rules in
    let fits_top : FitsSigned w128 c.worth_above-top.result = search rules in
    let fits_low : FitsSigned w128 c.least_reward-least.result = search rules in
    let fits_high : FitsSigned w128 c.greatest_reward-greatest.result = search rules in
    let P : List ActionPart → Type 0 = λ xs. IsLeastReward xs (length xs) c.least_reward-least.result in
    let Q : List ActionPart → Type 0 = λ xs. IsGreatestReward xs (length xs) c.greatest_reward-greatest.result in
    let R : ℤ → Type 0 = λ z. IsLeastReward c.args.parts.actions (length c.args.parts.actions) z in
    let S : ℤ → Type 0 = λ z. IsGreatestReward c.args.parts.actions (length c.args.parts.actions) z in
    let low : R (to_z w128 (of_z w128 c.least_reward-least.result)) = subst R (sym (to_z-of_z w128 _ fits_low)) (subst P c.as_slice-3.ensures c.least_reward-least.ensures) in
    let high : S (to_z w128 (of_z w128 c.greatest_reward-greatest.result)) = subst S (sym (to_z-of_z w128 _ fits_high)) (subst Q c.as_slice-4.ensures c.greatest_reward-greatest.ensures) in
    record {
      model = c.requires;
      states = c.point_count-states.ensures ∙ ap (λ (ds : List Decl). count_of (sizes_of ds)) c.as_slice.ensures;
      joints = c.point_count-joints.ensures ∙ ap (λ (ds : List Decl). count_of (sizes_of ds)) c.as_slice-2.ensures;
      least = to_z-of_z w128 _ fits_least ∙ least_return-problem c.args.parts c.requires _ _ low c.worth_below-least_return.ensures;
      greatest = to_z-of_z w128 _ fits_top ∙ top-problem c.args.parts c.requires _ _ high c.worth_above-top.ensures;
    }

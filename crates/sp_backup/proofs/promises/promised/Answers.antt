use Rattle.std.proofs.Common.{ℕ, ◌^◌, ◌≤◌, rules, refl, sym, ◌∙◌, subst}
use Rattle.std.specs.Int.{w128}
use Rattle.std.specs.Prelude.{ℤ, ◌+ℤ◌, unsigned_abs, FitsSigned}
use Rattle.std.proofs.lemmas.Int.{to_z-of_z}
use Rattle.sp_theory.specs.Sums.{times, floor}
use Rattle.sp_theory.specs.Points.{count_of}
use Rattle.sp_theory.specs.Draws.{q}
use Rattle.sp_theory.specs.Values.{dot}
use Rattle.sp_bounds.specs.Bounds.{floored_reward}
use Rattle.sp_model.specs.Problem.{problem, sizes_of}
use Rattle.sp_model.specs.Links.{weights_of}
use Rattle.sp_backup.specs.Promises.{AreActionLinks}
use Rattle.sp_backup.proofs.Promised.{future_all}
use Rattle.sp_backup.proofs.promises.promised.Goals as goal

pub returns-clause-is : goal.returns-clause-is
unfolding problem
returns-clause-is c =
    let e = c.args.setting.now.edition.now in
    let p = e.task.model in
    let w = weights_of p c.args.setting.now.weights.now in
    let x = c.in_ok-successors.successors in
    let made = c.in_ok-successors.ensures in
    let found = c.in_ok-found.found in
    let links = subst (λ (a : ℕ). AreActionLinks e w a (count_of (sizes_of p.sights)) found) made.action c.in_ok-found.ensures.links in
    let fits : FitsSigned w128 c.promise_of-promise.result = search rules in
    let fits_reward : FitsSigned w128 x.reward = search rules in
    let fits_future : FitsSigned w128 found.future = search rules in
    let read = to_z-of_z w128 c.promise_of-promise.result fits in
    let brings = to_z-of_z w128 found.future fits_future ∙ future_all e w c.args.action _ found refl links in
    let reward = to_z-of_z w128 x.reward fits_reward ∙ made.are.reward ∙ (λ i. dot (problem p) (weights_of p (made.weights i)) (floored_reward (problem p) (made.action i))) in
    record {
      known = c.requires.action;
      links = links.links;
      promised = read ∙ c.promise_of-promise.ensures.value ∙ (λ i. floor (reward i) q +ℤ times (c.model_of.ensures.value i).discount (floor (brings i) q));
      small = subst (λ (z : ℤ). unsigned_abs z ≤ 2 ^ 108) (sym read) c.promise_of-promise.ensures.small;
      made = tt;
    }

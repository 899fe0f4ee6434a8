use Rattle.std.proofs.Common.{◌∙◌, refl, sym, ap, subst, arith}
use Rattle.std.specs.Int.{w128}
use Rattle.std.specs.Prelude.{ℤ, ◌≤ℤ◌}
use Rattle.std.proofs.lemmas.Int.{to_z-of_z, fits_signed_from_abs}
use Rattle.sp_dd.specs.Operations.{everywhere}
use Rattle.sp_theory.specs.Model.{least_return, top}
use Rattle.sp_model.specs.Problem.{problem}
use Rattle.sp_model.proofs.Bounds.{least_return_to}
use Rattle.sp_backup.proofs.ends.Ends.new.Goals as goal

pub end_at-requires-clause-high : goal.end_at-requires-clause-high
end_at-requires-clause-high c =
    let small = c.least_return.ensures.small in
    subst (λ (z : ℤ). z ≤ℤ top (problem c.args.model.now)) (sym (to_z-of_z w128 c.least_return.result (fits_signed_from_abs w128 c.least_return.result (omega (arith, small))) ∙ c.least_return.ensures.value)) (least_return_to c.args.model.now c.parts.ensures.known)

pub end_at-requires-2-clause-low : goal.end_at-requires-2-clause-low
end_at-requires-2-clause-low c =
    let small = c.top.ensures.small in
    subst (λ (z : ℤ). least_return (problem c.args.model.now) ≤ℤ z) (sym (to_z-of_z w128 c.top.result (fits_signed_from_abs w128 c.top.result (omega (arith, small))) ∙ c.top.ensures.value)) (least_return_to c.args.model.now c.parts.ensures.known)

pub returns-clause-are : goal.returns-clause-are
returns-clause-are c =
    let low = c.in_ok-low.ensures in
    let high = c.in_ok-high.ensures in
    let small_low = c.least_return.ensures.small in
    let small_high = c.top.ensures.small in
    record {
      low = record {
        projection = low.projection;
        action_is = refl;
        joint_is = refl;
        vector = low.vector ∙ ap (everywhere c.args.model.now.scope) (to_z-of_z w128 c.least_return.result (fits_signed_from_abs w128 c.least_return.result (omega (arith, small_low))) ∙ c.least_return.ensures.value);
      };
      high = record {
        projection = high.projection;
        action_is = high.action_is ∙ sym low.action_is;
        joint_is = high.joint_is ∙ sym low.joint_is;
        vector = high.vector ∙ ap (everywhere c.args.model.now.scope) (to_z-of_z w128 c.top.result (fits_signed_from_abs w128 c.top.result (omega (arith, small_high))) ∙ c.top.ensures.value);
      };
    }

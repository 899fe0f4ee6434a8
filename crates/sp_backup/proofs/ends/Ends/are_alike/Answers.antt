use Rattle.std.proofs.Common.{◌∙◌, rules, sym, ap, arith, to_z}
use Rattle.std.specs.Int.{w128}
use Rattle.std.specs.Prelude.{FitsSigned}
use Rattle.std.proofs.lemmas.Bool.{eqb-true}
use Rattle.std.proofs.lemmas.Int.{ints, to_z-of_z}
use Rattle.sp_theory.specs.Model.{least_return, top}
use Rattle.sp_model.specs.Problem.{problem}
use Rattle.sp_model.proofs.Bounds.{least_return_to}
use Rattle.sp_backup.specs.Posteriors.{constant_estimate}
use Rattle.sp_backup.proofs.ends.Ends.are_alike.Goals as goal

pub returns : goal.returns
returns c =
    let p = c.args.model.now in
    let w = c.args.weights.now in
    let ends = c.requires.ends in
    let fits_low : FitsSigned w128 c.in_ok-low.low = search rules in
    let fits_high : FitsSigned w128 c.in_ok-high.high = search rules in
    let order = least_return_to p c.parts.ensures.known in
    let low = c.in_ok-low.ensures (least_return (problem p)) ends.low.vector (omega (arith, ints)) order in
    let high = c.in_ok-high.ensures (top (problem p)) ends.high.vector order (omega (arith, ints)) in
    (λ told.
    sym low
    ∙ sym (to_z-of_z w128 c.in_ok-low.low fits_low) ∙ ap (to_z w128) (eqb-true _ _ told) ∙ to_z-of_z w128 c.in_ok-high.high fits_high
    ∙ high
    ∙ (λ i. constant_estimate p w (ends.high.action_is i) (ends.high.joint_is i) (top (problem p))))

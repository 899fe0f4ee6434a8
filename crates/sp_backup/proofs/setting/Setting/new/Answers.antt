use Rattle.std.proofs.Common.{◌^◌, ◌≤◌, sym, subst, arith}
use Rattle.std.specs.Int.{w128}
use Rattle.std.specs.Prelude.{ℤ, unsigned_abs}
use Rattle.std.proofs.lemmas.Int.{to_z-of_z, fits_signed_from_abs}
use Rattle.sp_backup.proofs.RangeLemmas.{between_read, links_read, actions_read}
use Rattle.sp_backup.proofs.setting.Setting.new.Goals as goal

pub invariant_of-result : goal.invariant_of-result
invariant_of-result c =
    let e = c.args.edition.now in
    let small_low = c.least_value-low.ensures.small in
    let small_high = c.greatest_value-high.ensures.small in
    let low = to_z-of_z w128 c.least_value-low.result (fits_signed_from_abs w128 c.least_value-low.result (omega (arith, small_low))) in
    let high = to_z-of_z w128 c.greatest_value-high.result (fits_signed_from_abs w128 c.greatest_value-high.result (omega (arith, small_high))) in
    let links = c.link_window.ensures in
    let actions = c.action_window.ensures in
    let links_small = links.small in
    let actions_small = actions.small in
    let window = to_z-of_z w128 c.link_window.result (fits_signed_from_abs w128 c.link_window.result (omega (arith, links_small))) in
    let wider = to_z-of_z w128 c.action_window.result (fits_signed_from_abs w128 c.action_window.result (omega (arith, actions_small))) in
    record {
      scope = c.requires.scope;
      tables_are = c.requires.tables;
      range = between_read e c.least_value-low.result c.greatest_value-high.result _ _ low high
          (record { small_low = small_low; small_high = small_high; above = c.least_value-low.ensures.bound; below = c.greatest_value-high.ensures.bound });
      least_id = c.first_place-first.ensures;
      links_apart = links_read _ _ _ _ _ c.model_of-model.ensures.value window links.value;
      links_small = subst (λ (z : ℤ). unsigned_abs z ≤ 2 ^ 116) (sym window) links_small;
      actions_apart = actions_read _ _ _ _ _ c.model_of-model.ensures.value wider actions.value;
      actions_small = subst (λ (z : ℤ). unsigned_abs z ≤ 2 ^ 116) (sym wider) actions_small;
    }

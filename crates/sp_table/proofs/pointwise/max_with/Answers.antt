use Rattle.std.proofs.Common.{◌∙◌, ap, map}
use Rattle.std.specs.Int.{w128, int_max}
use Rattle.std.proofs.lemmas.Int.{to_z-of_z}
use Rattle.sp_dd.specs.Operations.{larger_with}
use Rattle.sp_table.proofs.FrameLemmas.{Means, mapped}
use Rattle.sp_table.proofs.pointwise.max_with.Goals as goal

-- what the result means
is : (c : goal.After-result-1) → Means c.f.inside.scope c.in_ok-widths.widths.items c.in_ok-cells.cells.items (larger_with c.args.f.now c.args.least)
is c =
    mapped (λ v. int_max v c.args.least) c.f.inside.scope c.f.inside.widths.items _ c.f.inside.cells.items _ c.args.f.now c.f.invariant c.f.view_is (c.in_ok-widths.ensures ∙ c.as_slice-own_widths.ensures.value)
    (c.in_ok-cells.ensures ∙ ap (λ z. map (λ v. int_max v z) c.as_slice-own_cells.result.now) (to_z-of_z w128 c.args.least c.ranges.least) ∙ ap (map (λ v. int_max v c.args.least)) c.as_slice-own_cells.ensures.value)

pub invariant_of-result : goal.invariant_of-result
invariant_of-result c = (is c).table

pub returns : goal.returns
returns c = (is c).is

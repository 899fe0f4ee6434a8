use Rattle.std.proofs.Common.{◌∙◌, ap}
use Rattle.std.specs.Prelude.{◌∷◌, []}
use Rattle.std.specs.Int.{w128}
use Rattle.std.proofs.lemmas.Int.{to_z-of_z}
use Rattle.sp_dd.specs.Operations.{everywhere}
use Rattle.sp_table.proofs.FrameLemmas.{Means, one_cell}
use Rattle.sp_table.proofs.pointwise.constant.Goals as goal

-- what the result means
is : (c : goal.After-result-1) → Means c.args.scope.now c.in_ok-widths.widths.items c.in_ok-cells.cells.items (everywhere c.args.scope.now c.args.value)
is c = one_cell _ _ _ _ _ c.slots.ensures.known c.slots.ensures.value c.in_ok-widths.ensures (c.in_ok-cells.ensures ∙ ap (λ v. v ∷ []) (to_z-of_z w128 c.args.value c.ranges.value))

pub invariant_of-result : goal.invariant_of-result
invariant_of-result c = (is c).table

pub returns : goal.returns
returns c = (is c).is

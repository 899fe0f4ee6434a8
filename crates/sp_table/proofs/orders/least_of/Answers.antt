use Rattle.std.proofs.Common.{◌≡◌, ℕ, ◌∙◌, ap, arith, get_or, length, rules, subst, sym, to_z}
use Rattle.std.specs.Prelude.{FitsSigned, pos}
use Rattle.std.specs.Int.{w128, int_min}
use Rattle.std.proofs.lemmas.Int.{to_z-of_z}
use Rattle.sp_table.specs.Cells.{IsLeastCell}
use Rattle.sp_table.proofs.OrderLemmas.{least_more}
use Rattle.sp_table.proofs.orders.least_of.Goals as goal

pub loop-cell-init : goal.loop-cell-init
loop-cell-init c =
    let fits : FitsSigned w128 (get_or c.args.cells.now 0 (pos 0)) = search rules in
    record { at = 0; inside = c.requires; reached = sym (to_z-of_z w128 _ fits); bound = λ j b. absurd (omega arith) }

pub loop-cell-preserved : goal.loop-cell-preserved
loop-cell-preserved c =
    let fits : FitsSigned w128 c.min-least.result = search rules in
    let fits_cell : FitsSigned w128 (get_or c.args.cells.now c.loop-cell.cell-index (pos 0)) = search rules in
    least_more c.args.cells.now c.loop-cell.cell-index _ _ c.loop-cell-test.true c.loop-cell.invariant
    (to_z-of_z w128 _ fits ∙ c.min-least.ensures.value ∙ ap (int_min (to_z w128 c.loop-cell.least-bits)) (to_z-of_z w128 _ fits_cell))

pub returns : goal.returns
returns c =
    let all : c.loop-cell.cell-index ≡ length c.args.cells.now = omega arith in
    let P : ℕ → Type 0 = λ n. IsLeastCell c.args.cells.now n (to_z w128 c.loop-cell.least-bits) in
    subst P all c.loop-cell.invariant

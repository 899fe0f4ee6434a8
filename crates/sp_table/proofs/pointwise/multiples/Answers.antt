use Rattle.std.proofs.Common.{◌≡◌, ◌≤◌, ◌^◌, ◌∙◌, ap, arith, get_or, length, map, rules, subst, sym, take, to_z, of_z}
use Rattle.std.specs.Prelude.{ℤ, pos, unsigned_abs, FitsSigned, ◌*ℤ◌}
use Rattle.std.specs.Int.{w128}
use Rattle.std.proofs.Math.Seq.{take-length}
use Rattle.std.proofs.lemmas.Int.{to_z-of_z}
use Rattle.sp_table.proofs.FrameLemmas.{mapped_more, op_same}
use Rattle.sp_table.proofs.pointwise.multiples.Goals as goal

pub multiple_of-requires : goal.multiple_of-requires
multiple_of-requires c =
    let fits : FitsSigned w128 (get_or c.args.cells.now c.loop-cell.cell-index (pos 0)) = search rules in
    let same = op_same (λ a b. a *ℤ b) _ _ _ _ (to_z-of_z w128 c.args.k c.ranges.k) (to_z-of_z w128 _ fits) in
    let P : ℤ → Type 0 = λ z. unsigned_abs z ≤ 2 ^ 126 in
    subst P (sym same) (c.requires c.loop-cell.cell-index c.loop-cell-test.true)

pub loop-cell-preserved : goal.loop-cell-preserved
loop-cell-preserved c =
    let fits : FitsSigned w128 c.multiple_of.result = search rules in
    let fits_cell : FitsSigned w128 (get_or c.args.cells.now c.loop-cell.cell-index (pos 0)) = search rules in
    let same = ap (λ z. to_z w128 (of_z w128 c.args.k) *ℤ z) (to_z-of_z w128 _ fits_cell) in
    mapped_more (λ v. to_z w128 (of_z w128 c.args.k) *ℤ v) c.args.cells.now _ _ c.loop-cell.cell-index _ c.loop-cell-test.true c.loop-cell.invariant c.in_ok-push.ensures.items (to_z-of_z w128 _ fits ∙ c.multiple_of.ensures ∙ same)

pub returns : goal.returns
returns c =
    let all : c.loop-cell.cell-index ≡ length c.args.cells.now = omega arith in
    c.loop-cell.invariant
    ∙ ap (λ n. map (λ v. to_z w128 (of_z w128 c.args.k) *ℤ v) (take n c.args.cells.now)) all
    ∙ ap (map (λ v. to_z w128 (of_z w128 c.args.k) *ℤ v)) (take-length c.args.cells.now)
    ∙ ap (λ z. map (λ v. z *ℤ v) c.args.cells.now) (to_z-of_z w128 c.args.k c.ranges.k)

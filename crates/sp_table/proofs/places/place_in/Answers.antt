use Rattle.sp_dd.specs.Points.{place}
use Rattle.std.proofs.Common.{◌≡◌, ap, arith, ◌-◌, drop, get_or}
use Rattle.sp_dd.proofs.PointLemmas.{place-below}
use Rattle.sp_table.proofs.PlaceLemmas.{width_before, part_fits, stride_fits}
use Rattle.sp_table.proofs.places.place_in.Goals as goal

pub nonzero_rem-at : goal.nonzero_rem-at
nonzero_rem-at c = (width_before c.args.widths.now c.loop-i.i (c.loop-i.i - 1) (omega arith) (omega arith) c.requires.some).0

pub overflow_mul-at : goal.overflow_mul-at
overflow_mul-at c =
    let before = width_before c.args.widths.now c.loop-i.i (c.loop-i.i - 1) (omega arith) (omega arith) c.requires.some in
    let behind = place-below (drop c.loop-i.i c.args.widths.now) (drop c.loop-i.i c.args.point.now) before.2 in
    (part_fits (get_or c.args.point.now (c.loop-i.i - 1) 0) _ _ _ _ _ _ c.loop-i.invariant.stride_is c.loop-i.invariant.place_is before.0 behind before.1 c.requires.fits).0

pub overflow_add-at : goal.overflow_add-at
overflow_add-at c =
    let before = width_before c.args.widths.now c.loop-i.i (c.loop-i.i - 1) (omega arith) (omega arith) c.requires.some in
    let behind = place-below (drop c.loop-i.i c.args.widths.now) (drop c.loop-i.i c.args.point.now) before.2 in
    (part_fits (get_or c.args.point.now (c.loop-i.i - 1) 0) _ _ _ _ _ _ c.loop-i.invariant.stride_is c.loop-i.invariant.place_is before.0 behind before.1 c.requires.fits).1

pub overflow_mul-stride : goal.overflow_mul-stride
overflow_mul-stride c =
    let before = width_before c.args.widths.now c.loop-i.i (c.loop-i.i - 1) (omega arith) (omega arith) c.requires.some in
    stride_fits _ _ _ _ c.loop-i.invariant.stride_is before.1 c.requires.fits

pub returns-clause-within : goal.returns-clause-within
returns-clause-within c =
    let start : c.loop-i.i ≡ 0 = omega arith in
    let all = ap (λ i. place (drop i c.args.widths.now) (drop i c.args.point.now)) start in
    let less = place-below c.args.widths.now c.args.point.now c.requires.some in
    omega (arith, c.loop-i.invariant.place_is, all, less)

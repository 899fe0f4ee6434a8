use Rattle.std.proofs.Common.{drop}
use Rattle.sp_dd.specs.Points.{place, point_at}
use Rattle.std.proofs.Common.{refl, sym, ◌∙◌, ◌+◌, ◌<◌, length, length-set, slice_set, ◌≡◌, ap, arith, ◌-◌, drop}
use Rattle.sp_dd.specs.Points.{point_at}
use Rattle.sp_dd.proofs.PointLemmas.{place-below}
use Rattle.sp_table.proofs.PlaceLemmas.{width_before, part_fits, stride_fits, place_back, point_back, digit_set, length-point_at}
use Rattle.sp_table.proofs.places.moved_with.Goals as goal

pub digit_at-digit-requires : goal.digit_at-digit-requires
digit_at-digit-requires c = (width_before c.args.from.now c.loop-i.i (c.loop-i.i - 1) (omega arith) (omega arith) c.requires.some_from).0

pub nonzero_div-rest : goal.nonzero_div-rest
nonzero_div-rest c = (width_before c.args.from.now c.loop-i.i (c.loop-i.i - 1) (omega arith) (omega arith) c.requires.some_from).0

pub nonzero_rem-at : goal.nonzero_rem-at
nonzero_rem-at c = (width_before c.args.widths.now c.loop-i.i (c.loop-i.i - 1) (omega arith) (omega arith) c.requires.some).0

pub overflow_mul-at : goal.overflow_mul-at
overflow_mul-at c =
    let before = width_before c.args.widths.now c.loop-i.i (c.loop-i.i - 1) (omega arith) (omega arith) c.requires.some in
    let behind = place-below (drop c.loop-i.i c.args.widths.now) (drop c.loop-i.i (slice_set (point_at c.args.from.now c.args.k) c.args.slot c.args.value)) before.2 in
    (part_fits _ _ _ _ _ _ _ c.loop-i.invariant.stride_is c.loop-i.invariant.place_is before.0 behind before.1 c.requires.fits).0

pub overflow_add-at : goal.overflow_add-at
overflow_add-at c =
    let before = width_before c.args.widths.now c.loop-i.i (c.loop-i.i - 1) (omega arith) (omega arith) c.requires.some in
    let behind = place-below (drop c.loop-i.i c.args.widths.now) (drop c.loop-i.i (slice_set (point_at c.args.from.now c.args.k) c.args.slot c.args.value)) before.2 in
    (part_fits _ _ _ _ _ _ _ c.loop-i.invariant.stride_is c.loop-i.invariant.place_is before.0 behind before.1 c.requires.fits).1

pub overflow_mul-stride : goal.overflow_mul-stride
overflow_mul-stride c =
    let before = width_before c.args.widths.now c.loop-i.i (c.loop-i.i - 1) (omega arith) (omega arith) c.requires.some in
    stride_fits _ _ _ _ c.loop-i.invariant.stride_is before.1 c.requires.fits

pub loop-i-preserved : goal.loop-i-preserved
loop-i-preserved c =
    let inv = c.loop-i.invariant in
    let j = c.loop-i.i - 1 in
    let next : c.loop-i.i ≡ c.loop-i.i - 1 + 1 = omega arith in
    let short : c.loop-i.i - 1 < length c.args.from.now = omega arith in
    let digit = digit_set c.args.from.now c.loop-i.i (c.loop-i.i - 1) c.args.k c.args.slot c.args.value c.loop-i.rest c.digit_at-digit.result next short inv.rest_is c.digit_at-digit.ensures.same c.digit_at-digit.ensures.other in
    let walk = place_back c.args.widths.now c.args.from.now c.args.k c.loop-i.i (c.loop-i.i - 1) _ c.loop-i.rest c.loop-i.stride next (omega arith) c.requires.lengths refl inv.rest_is inv.stride_is in
    let long = length-set (point_at c.args.from.now c.args.k) c.args.slot c.args.value in
    let length_is = length-point_at c.args.from.now c.args.k in
    let place = point_back c.args.widths.now _ c.loop-i.i (c.loop-i.i - 1) c.loop-i.at c.digit_at-digit.result c.loop-i.stride next (omega arith) (c.requires.lengths ∙ sym length_is ∙ sym long) digit inv.place_is inv.stride_is in
    record { within = omega arith; place_is = place; rest_is = walk.1; stride_is = walk.2 }

pub returns-clause-within : goal.returns-clause-within
returns-clause-within c =
    let start : c.loop-i.i ≡ 0 = omega arith in
    let all = ap (λ i. place (drop i c.args.widths.now) (drop i (slice_set (point_at c.args.from.now c.args.k) c.args.slot c.args.value))) start in
    let less = place-below c.args.widths.now (slice_set (point_at c.args.from.now c.args.k) c.args.slot c.args.value) c.requires.some in
    omega (arith, c.loop-i.invariant.place_is, all, less)

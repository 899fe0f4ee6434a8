use Rattle.std.proofs.Common.{arith, refl, ◌+◌, ◌-◌, ◌≡◌}
use Rattle.sp_rows.proofs.RowLemmas.{own_small, summed_more}
use Rattle.sp_rows.proofs.rows.sum_out_own.Goals as goal

pub sum_out-requires-clause-small : goal.sum_out-requires-clause-small
sum_out-requires-clause-small c =
    own_small c.args.f.now c.args.own.now c.scope.ensures.known c.requires.own c.requires.probability (c.loop-place.place - 1) _ _ c.loop-place.sums c.loop-place.sums c.loop-place.invariant
    (let h = c.loop-place-test.true in omega arith) refl c.requires.few

pub loop-place-preserved : goal.loop-place-preserved
loop-place-preserved c =
    summed_more c.args.f.now c.args.own.now c.scope.ensures.known c.requires.own c.requires.probability (c.loop-place.place - 1) _ _ c.loop-place.sums c.in_ok-sums-2.sums c.loop-place.invariant
    (let h = c.loop-place-test.true in omega arith) refl c.in_ok-sums-2.ensures

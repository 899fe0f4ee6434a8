use Rattle.sp_sampler.proofs.Drawing.{slice_count, whole_some, remainder_below, observed_is}
use Rattle.sp_sampler.proofs.draws.observed.Goals as goal

pub nonzero_rem-target : goal.nonzero_rem-target
nonzero_rem-target c = whole_some _ c.args.carried.now.weights.now c.args.carried.now.action _ _ c.in_ok-totals.ensures c.as_slice-totals.ensures c.something_is_seen.ensures _ c.sum_of.ensures

pub first_above-requires-clause-some : goal.first_above-requires-clause-some
first_above-requires-clause-some c = remainder_below _ c.args.carried.now.weights.now c.args.carried.now.action _ _ c.in_ok-totals.ensures c.as_slice-totals.ensures c.something_is_seen.ensures _ _ c.sum_of.ensures

pub returns : goal.returns
returns c = observed_is _ c.args.carried.now.weights.now c.args.carried.now.action _ _ c.in_ok-totals.ensures c.as_slice-totals.ensures c.something_is_seen.ensures _ _ _ c.sum_of.ensures c.first_above.ensures

pub are_few-requires : goal.are_few-requires
are_few-requires c = slice_count c.args.carried.now.model.now c.args.carried.now.weights.now c.args.carried.now.action _ _ c.in_ok-totals.ensures c.as_slice-totals.ensures

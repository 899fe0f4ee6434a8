use Rattle.std.proofs.Common.{◌≡◌, ◌≤◌, ◌*◌, ◌^◌, take}
use Rattle.std.specs.Prelude.{sum}
use Rattle.sp_sampler.proofs.draws.sum_of.Given as goal

abbrev pub invariant-loop-total : goal.invariant-loop-total
invariant-loop-total l = record { running : l.whole ≡ sum (take l.total-index l.totals); few : l.whole ≤ l.total-index * 2 ^ 64 }

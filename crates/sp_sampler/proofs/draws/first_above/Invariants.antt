use Rattle.std.proofs.Common.{◌≡◌, ◌≤◌, ◌*◌, ◌^◌, take}
use Rattle.std.specs.Prelude.{sum}
use Rattle.sp_sampler.proofs.draws.first_above.Given as goal

abbrev pub invariant-loop-place : goal.invariant-loop-place
invariant-loop-place l = record { running : l.running ≡ sum (take l.place l.totals); before : l.running ≤ l.target; few : l.running ≤ l.place * 2 ^ 64 }

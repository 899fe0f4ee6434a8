use Rattle.std.proofs.Common.{ℕ, ◌<◌, get_or}
use Rattle.sp_figures.proofs.models.are_below.Given as goal

abbrev pub invariant-loop-slot : goal.invariant-loop-slot
invariant-loop-slot l = (k : ℕ) → k < l.slot → get_or l.point k 0 < get_or l.scope.sizes k 0

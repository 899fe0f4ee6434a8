use Rattle.std.proofs.Common.{◌≡◌, ◌<◌, ℕ, false, get_or}
use Rattle.sp_desk.specs.declared.seats.Seat.{Seat}
use Rattle.sp_desk.specs.Desks.{is_open_as}
use Rattle.sp_desk.proofs.seats.place_of.Given as goal

abbrev pub invariant-loop-place : goal.invariant-loop-place
invariant-loop-place l = (k : ℕ) → k < l.place → (d : Seat) → is_open_as l.name (get_or l.seats k d) ≡ false

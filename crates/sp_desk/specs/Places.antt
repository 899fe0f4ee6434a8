-- What becomes of the session at a place of a desk.
use Rattle.std.specs.Prelude.{◌≡◌, ℕ, ◌≤◌, max, slice_get, Some}
use Rattle.sp_value.specs.Editions.{EditionParts}
use Rattle.sp_session.specs.declared.answers.Answer.{Answer}
use Rattle.sp_session.specs.declared.answers.ObserveError.{ObserveError}
use Rattle.sp_session.specs.Sessions.{SessionParts, session_of, with_told}
use Rattle.sp_session.specs.Answering.{IsAnswered, HasObserved, RefusesObservation}
use Rattle.sp_desk.specs.declared.seats.Seat.{Seat}
use Rattle.sp_desk.specs.Desks.{DeskParts, seats_with}

-- it answered on an edition that is no older than each that it saw
pub record AnswersAt (d : DeskParts) (place : ℕ) (edition : EditionParts) (answer : Answer) (after : DeskParts) : Type 0 where
  pub seat : Seat
  pub session : SessionParts
  pub there : slice_get d.seats place ≡ Some seat
  pub saw : (session_of seat.session).newest ≤ edition.number
  pub answered : IsAnswered seat.session edition answer session
  pub changed : after ≡ record d { seats = seats_with d.seats place seat session }

-- it was told that number, or the newest that it had seen where that is greater
pub record TellsAt (d : DeskParts) (place : ℕ) (number told : ℕ) (after : DeskParts) : Type 0 where
  pub seat : Seat
  pub there : slice_get d.seats place ≡ Some seat
  pub which : told ≡ max (session_of seat.session).newest number
  pub changed : after ≡ record d { seats = seats_with d.seats place seat (with_told seat.session told) }

-- it took the observation
pub record ObservesAt (d : DeskParts) (place : ℕ) (o : ℕ) (after : DeskParts) : Type 0 where
  pub seat : Seat
  pub session : SessionParts
  pub there : slice_get d.seats place ≡ Some seat
  pub observed : HasObserved seat.session o session
  pub changed : after ≡ record d { seats = seats_with d.seats place seat session }

-- or refused it for that reason
pub record RefusesPlace (d : DeskParts) (place : ℕ) (o : ℕ) (error : ObserveError) (after : DeskParts) : Type 0 where
  pub seat : Seat
  pub session : SessionParts
  pub there : slice_get d.seats place ≡ Some seat
  pub refused : RefusesObservation seat.session o error session
  pub changed : after ≡ record d { seats = seats_with d.seats place seat session }

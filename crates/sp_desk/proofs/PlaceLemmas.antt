-- The session at a place of a desk, and what a call makes of it.
use Rattle.std.proofs.Common.{◌≡◌, ◌∙◌, sym, ap, subst, refl, arith, ℕ, ◌<◌, ◌≤◌, max, false, List, set, length, get_or, slice_get, Some}
use Rattle.std.specs.Prelude.{All, Result, Ok, Err, OnOk, IfErr}
use Rattle.std.proofs.lemmas.List.{set-get_or}
use Rattle.std.proofs.lemmas.Option.{slice_get-get_or, get_or_from_slice_get}
use Rattle.sp_value.specs.Editions.{EditionParts}
use Rattle.sp_publish.specs.Published.{newest_in}
use Rattle.sp_session.specs.declared.answers.Answer.{Answer}
use Rattle.sp_session.specs.declared.answers.ObserveError.{ObserveError}
use Rattle.sp_session.specs.declared.answers.ObserveError.TheVariants.{NoAction, Unseen, NoMemory}
use Rattle.sp_session.specs.Sessions.{SessionParts, IsSession, session_of, with_answer, with_told, with_observed, with_unseen}
use Rattle.sp_session.specs.Answering.{IsAnswered, HasObserved, RefusesObservation}
use Rattle.sp_desk.specs.declared.seats.Seat.{Seat}
use Rattle.sp_desk.specs.Desks.{DeskParts, IsDesk, IsSeatIn, IsOpenAt}
use Rattle.sp_desk.specs.Asked.{HasClosed}
use Rattle.sp_desk.specs.Places.{AnswersAt, TellsAt, ObservesAt, RefusesPlace}
use Rattle.sp_desk.specs.Ended.{MayCloseOn}
use Rattle.sp_desk.proofs.DeskLemmas.{newest_there, desk_with, seat_answered, seat_told, seat_observed, seat_unseen}

-- a desk with another session at a place
abbrev pub with_seat : DeskParts → ℕ → Seat → DeskParts
with_seat d place other = record d { seats = set d.seats place other }

module _ (d : DeskParts) (h : IsDesk d) (place : ℕ) (x : Seat) (below : place < length d.seats) (at : x ≡ get_or d.seats place x) where
  pub seat_here : IsSeatIn d.task d.known.editions x.session
  seat_here = subst (λ (s : Seat). IsSeatIn d.task d.known.editions s.session) (sym at) (h.seats place x below)

  pub seat_there : slice_get d.seats place ≡ Some x
  seat_there = slice_get-get_or d.seats place x below ∙ ap Some (sym at)

  -- nothing changed
  pub same_desk : (other : Seat) → other ≡ x → with_seat d place other ≡ d
  same_desk other e = ap (λ (s : Seat). with_seat d place s) (e ∙ at) ∙ ap (λ (ss : List Seat). record d { seats = ss }) (set-get_or d.seats place x)

  -- the session changed to one that the desk may keep
  pub desk_at : (other : Seat) (s : SessionParts) → other.session ≡ s → s.name ≡ x.session.name → IsSeatIn d.task d.known.editions s → IsDesk (with_seat d place other)
  desk_at other s is name new = desk_with d place x other h seat_there (subst (λ (t : SessionParts). IsSeatIn d.task d.known.editions t) (sym is) new) (ap (λ (t : SessionParts). t.name) is ∙ name)

  -- ---- answers on the newest edition
  pub may_answer : (e : EditionParts) → newest_in d.known ≡ Some e → (e.task ≡ x.session.task) × ((session_of x.session).newest ≤ e.number)
  may_answer e new =
      let (there, count, of) = newest_there d.known d.task e h.list h.task new in
      let less = seat_here.newest in
      (of ∙ sym seat_here.task, omega (arith, less, count))

  pub answered_desk : (e : EditionParts) (answer : Answer) (other : Seat) → newest_in d.known ≡ Some e → IsAnswered x.session e answer other.session → IsSession other.session → IsDesk (with_seat d place other)
  answered_desk e answer other new is known =
      let (there, count, of) = newest_there d.known d.task e h.list h.task new in
      desk_at other (with_answer x.session e) is.leaves refl (seat_answered d.task d.known.editions x.session e seat_here there (subst IsSession is.leaves known))

  pub answers_at : (e : EditionParts) (answer : Answer) (other : Seat) → newest_in d.known ≡ Some e → IsAnswered x.session e answer other.session → other ≡ record x { session = other.session }
      → AnswersAt d place e answer (with_seat d place other)
  answers_at e answer other new is seat = record { seat = x; session = other.session; there = seat_there; saw = (may_answer e new).1; answered = is; changed = ap (λ (s : Seat). with_seat d place s) seat }

  -- ---- tellings
  pub told_desk : (n told : ℕ) (other : Seat) → n < length d.known.editions → told ≡ max (session_of x.session).newest n → other.session ≡ with_told x.session told → IsSession other.session → IsDesk (with_seat d place other)
  told_desk n told other less which is known =
      let newest = seat_here.newest in
      desk_at other (with_told x.session told) is refl (seat_told d.task d.known.editions x.session told seat_here (omega (arith, newest, less, which)) (subst IsSession is known))

  pub tells_at : (n told : ℕ) (other : Seat) → told ≡ max (session_of x.session).newest n → other.session ≡ with_told x.session told → other ≡ record x { session = other.session } → TellsAt d place n told (with_seat d place other)
  tells_at n told other which is seat = record { seat = x; there = seat_there; which = which; changed = ap (λ (s : Seat). with_seat d place s) (seat ∙ ap (λ (s : SessionParts). record x { session = s }) is) }

  -- ---- observations
  pub observed_desk : (o : ℕ) (other : Seat) → HasObserved x.session o other.session → IsSession other.session → IsDesk (with_seat d place other)
  observed_desk o other is known = desk_at other (with_observed x.session o) is.leaves refl (seat_observed d.task d.known.editions x.session o seat_here (subst IsSession is.leaves known))

  pub observes_at : (o : ℕ) (other : Seat) → HasObserved x.session o other.session → other ≡ record x { session = other.session } → ObservesAt d place o (with_seat d place other)
  observes_at o other is seat = record { seat = x; session = other.session; there = seat_there; observed = is; changed = ap (λ (s : Seat). with_seat d place s) seat }

  pub refused_desk : (o : ℕ) (e : ObserveError) (other : Seat) → RefusesObservation x.session o e other.session → IsSession other.session → IsDesk (with_seat d place other)
  refused_desk o NoAction other is known = desk_at other x.session is.1 refl seat_here
  refused_desk o Unseen other is known = desk_at other (with_unseen x.session o) is.2 refl (seat_unseen d.task d.known.editions x.session o seat_here (subst IsSession is.2 known))
  refused_desk o NoMemory other is known = desk_at other x.session is refl seat_here

  pub refuses_place : (o : ℕ) (e : ObserveError) (other : Seat) → RefusesObservation x.session o e other.session → other ≡ record x { session = other.session } → RefusesPlace d place o e (with_seat d place other)
  refuses_place o e other is seat = record { seat = x; session = other.session; there = seat_there; refused = is; changed = ap (λ (s : Seat). with_seat d place s) seat }

  -- whichever it is
  pub observe_desk : {A : Type 0} (r : Result A ObserveError) (o : ℕ) (other : Seat) → OnOk r (HasObserved x.session o other.session) → IfErr r (λ e. RefusesObservation x.session o e other.session) → IsSession other.session → IsDesk (with_seat d place other)
  observe_desk (Ok a) o other ok err known = observed_desk o other ok known
  observe_desk (Err e) o other ok err known = refused_desk o e other err known

  -- ---- closing
  pub shut_desk : (other : Seat) → other.session ≡ x.session → IsDesk (with_seat d place other)
  shut_desk other is = desk_at other x.session is refl seat_here

  pub closes_at : (name : List ℕ) (seat : Seat) → IsOpenAt name d.seats place seat → HasClosed d name (with_seat d place (record x { is_open = false }))
  closes_at name seat found = record {
    place = place;
    seat = seat;
    at = found;
    changed = ap (λ (s : Seat). with_seat d place (record s { is_open = false })) (at ∙ get_or_from_slice_get d.seats place seat x found.there);
  }

-- all sessions can close on the newest edition
pub may_close : (d : DeskParts) (e : EditionParts) → IsDesk d → newest_in d.known ≡ Some e → All (MayCloseOn e) d.seats
may_close d e h new =
    let (there, count, of) = newest_there d.known d.task e h.list h.task new in
    λ i s below. let less = (h.seats i s below).newest in record { task = of ∙ sym (h.seats i s below).task; newest = omega (arith, less, count) }

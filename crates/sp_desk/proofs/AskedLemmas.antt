-- What the calls of a desk answer, from what they did one after another.
use Rattle.std.proofs.Common.{◌≡◌, ◌∙◌, sym, ap, subst, refl, arith, ℕ, ◌+◌, ◌-◌, ◌<◌, max, true, List, set, length, get_or, slice_get, Some}
use Rattle.std.proofs.lemmas.List.{set-get_or}
use Rattle.std.proofs.lemmas.Option.{get_or_from_slice_get, slice_get_within}
use Rattle.std.proofs.lemmas.Map.Keys.{any_passes_from_place}
use Rattle.sp_value.specs.Editions.{EditionParts}
use Rattle.sp_publish.specs.Published.{PublishedList, ListGoesOn, newest_in}
use Rattle.sp_publish.proofs.Prefixes.{prefix_length}
use Rattle.sp_publish.proofs.PublishedLemmas.{goes_on_self, goes_on_trans}
use Rattle.sp_session.specs.declared.answers.Answer.{Answer}
use Rattle.sp_session.specs.declared.answers.ObserveError.{ObserveError}
use Rattle.sp_session.specs.declared.answers.ObserveError.TheVariants.{NoMemory}
use Rattle.sp_session.specs.Sessions.{SessionParts, session_of, with_told}
use Rattle.sp_desk.specs.declared.seats.Seat.{Seat}
use Rattle.sp_desk.specs.Desks.{DeskParts, IsOpenAt, is_open_as, is_open_in, seats_with}
use Rattle.sp_desk.specs.Asked.{KnowsMore, HasAnswered, HasSynced, HasTaken, HasRefused}
use Rattle.sp_desk.specs.Places.{AnswersAt, TellsAt, ObservesAt, RefusesPlace}

-- ---- what a desk knows
pub known_more : (d old : DeskParts) (q : PublishedList) → d ≡ old → ListGoesOn d.known q → KnowsMore old (record d { known = q })
known_more d old q v on = record { known = subst (λ (p : DeskParts). ListGoesOn p.known q) v on; task = ap (λ (p : DeskParts). p.task) v; seats = ap (λ (p : DeskParts). p.seats) v }

pub knows_same : (d after : DeskParts) → after ≡ d → KnowsMore d after
knows_same d after e = subst (KnowsMore d) (sym e) (record { known = goes_on_self d.known; task = refl; seats = refl })

pub knows_trans : (d mid after : DeskParts) → KnowsMore d mid → KnowsMore mid after → KnowsMore d after
knows_trans d mid after one two = record { known = goes_on_trans d.known mid.known after.known one.known two.known; task = two.task ∙ one.task; seats = two.seats ∙ one.seats }

pub knows_on : (d mid after : DeskParts) → KnowsMore d mid → after ≡ mid → KnowsMore d after
knows_on d mid after more same = subst (KnowsMore d) (sym same) more

-- a notice's number is that of an edition that is known
pub number_known : (told p : PublishedList) (n : ℕ) → ListGoesOn told p → length told.editions ≡ n + 1 → n < length p.editions
number_known told p n on count = let less = prefix_length told.editions p.editions on.editions in omega (arith, less, count)

-- ---- the open session of a name
-- where a session stands at the place of an open one, it is that one
open_there : (name : List ℕ) (seats : List Seat) (place : ℕ) (seat other : Seat) → IsOpenAt name seats place seat → slice_get seats place ≡ Some other → IsOpenAt name seats place other
open_there name seats place seat other at there =
    let mine = at.there in
    let same : seat ≡ other = cc (mine, there) in
    record { there = there; is_open = subst (λ (s : Seat). is_open_as name s ≡ true) same at.is_open }

-- then one of that name is open
pub open_found : (name : List ℕ) (seats : List Seat) (place : ℕ) (seat : Seat) → IsOpenAt name seats place seat → is_open_in name seats ≡ true
open_found name seats place seat at =
    any_passes_from_place (is_open_as name) seats place seat at.there at.is_open

-- the place is one of the desk that knows more, too
pub place_kept : (d after : DeskParts) (place : ℕ) (seat : Seat) → KnowsMore d after → slice_get d.seats place ≡ Some seat → place < length after.seats
place_kept d after place seat more there = subst (λ (ss : List Seat). place < length ss) (sym more.seats) (slice_get_within d.seats place seat there)

seat_after : (ss ts : List Seat) (place : ℕ) (seat : Seat) → ss ≡ ts → slice_get ss place ≡ Some seat → slice_get ts place ≡ Some seat
seat_after ss ts place seat e there = subst (λ (us : List Seat). slice_get us place ≡ Some seat) e there

pub asked : (d one two after : DeskParts) (name : List ℕ) (told : PublishedList) (place : ℕ) (seat : Seat) (e : EditionParts) (answer : Answer) → IsOpenAt name d.seats place seat → KnowsMore d one → ListGoesOn told one.known → KnowsMore one two
    → newest_in two.known ≡ Some e → e.number + 1 ≡ length two.known.editions → AnswersAt two place e answer after → HasAnswered d name told answer after
asked d one two after name told place seat e answer at first heard later new count is =
    let both : KnowsMore d two = knows_trans d one two first later in
    let on : ListGoesOn told two.known = goes_on_trans told one.known two.known heard later.known in
    let known : after.known ≡ two.known = ap (λ (p : DeskParts). p.known) is.changed in
    let less = prefix_length told.editions two.known.editions on.editions in
    record {
      place = place;
      seat = is.seat;
      session = is.session;
      edition = e;
      at = open_there name d.seats place seat is.seat at (seat_after two.seats d.seats place is.seat both.seats is.there);
      answered = is.answered;
      newest = subst (λ (p : PublishedList). newest_in p ≡ Some e) (sym known) new;
      no_older = omega (arith, less, count);
      saw = is.saw;
      heard = subst (ListGoesOn told) (sym known) on;
      known = subst (ListGoesOn d.known) (sym known) both.known;
      task = ap (λ (p : DeskParts). p.task) is.changed ∙ both.task;
      seats = ap (λ (p : DeskParts). p.seats) is.changed ∙ ap (λ (ss : List Seat). seats_with ss place is.seat is.session) both.seats;
    }

pub synced : (d one after : DeskParts) (name : List ℕ) (told : PublishedList) (place : ℕ) (seat : Seat) (n number : ℕ) → IsOpenAt name d.seats place seat → KnowsMore d one → ListGoesOn told one.known → length told.editions ≡ n + 1
    → TellsAt one place n number after → HasSynced d name told number after
synced d one after name told place seat n number at first heard count is =
    let known : after.known ≡ one.known = ap (λ (p : DeskParts). p.known) is.changed in
    let last : n ≡ length told.editions - 1 = omega (arith, count) in
    record {
      place = place;
      seat = is.seat;
      at = open_there name d.seats place seat is.seat at (seat_after one.seats d.seats place is.seat first.seats is.there);
      which = is.which ∙ ap (λ (k : ℕ). max (session_of is.seat.session).newest k) last;
      heard = subst (ListGoesOn told) (sym known) heard;
      known = subst (ListGoesOn d.known) (sym known) first.known;
      task = ap (λ (p : DeskParts). p.task) is.changed ∙ first.task;
      seats = ap (λ (p : DeskParts). p.seats) is.changed ∙ ap (λ (ss : List Seat). seats_with ss place is.seat (with_told is.seat.session number)) first.seats;
    }

pub taken : (d after : DeskParts) (name : List ℕ) (o place : ℕ) (seat : Seat) → IsOpenAt name d.seats place seat → ObservesAt d place o after → HasTaken d name o after
taken d after name o place seat at is = record { place = place; seat = is.seat; session = is.session; at = open_there name d.seats place seat is.seat at is.there; observed = is.observed; changed = is.changed }

pub refused : (d after : DeskParts) (name : List ℕ) (o : ℕ) (e : ObserveError) (place : ℕ) (seat : Seat) → IsOpenAt name d.seats place seat → RefusesPlace d place o e after → HasRefused d name o e after
refused d after name o e place seat at is = record { place = place; seat = is.seat; session = is.session; at = open_there name d.seats place seat is.seat at is.there; refused = is.refused; changed = is.changed }

pub unchanged : (d after : DeskParts) (place o : ℕ) → RefusesPlace d place o NoMemory after → after ≡ d
unchanged d after place o is =
    let there : get_or d.seats place is.seat ≡ is.seat = get_or_from_slice_get d.seats place is.seat is.seat is.there in
    is.changed
    ∙ ap (λ (s : SessionParts). record d { seats = seats_with d.seats place is.seat s }) is.refused
    ∙ ap (λ (ss : List Seat). record d { seats = ss }) (ap (λ (s : Seat). set d.seats place s) (sym there) ∙ set-get_or d.seats place is.seat)

-- ---- the end
-- a desk that heard of the end knows what the notice tells
pub all_known : (one two : DeskParts) (end : PublishedList) → end.ended ≡ true → ListGoesOn end one.known → KnowsMore one two → two.known ≡ end
all_known one two end ended heard later =
    let same : one.known ≡ end = heard.ended ended in
    later.known.ended (ap (λ (p : PublishedList). p.ended) same ∙ ended) ∙ same

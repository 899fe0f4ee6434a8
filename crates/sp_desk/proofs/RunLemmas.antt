-- A desk after one command more of its script.
use Rattle.std.proofs.Common.{inl, inr, ◌≡◌, ◌≢◌, ◌∙◌, sym, ap, subst, refl, arith, ℕ, zero, suc, ◌+◌, ◌<◌, Bool, true, false, cond, not, ◌&&◌, ◌||◌, List, [], ◌∷◌, ◌++◌, map, set, length, take, get_or, get_or-set_other, slice_get, append-nil, Some, ◌⊎◌, ⊎_elim, ◌==◌, add-one}
use Rattle.std.specs.Prelude.{All, AllPairs, IsSome, filter}
use Rattle.std.specs.Str.{bytes_eq}
use Rattle.std.proofs.Math.Seq.{map-set_same, take-suc}
use Rattle.sp_value.specs.Tasks.{TaskParts}
use Rattle.std.proofs.lemmas.List.{map-append, length-map, length-set}
use Rattle.std.proofs.lemmas.List.Elements.{All-append, All-cons, All-nil, All-map, All-head, All-tail}
use Rattle.std.proofs.lemmas.Bool.{false_from_ne_true, true_from_ne_false, cases_order}
use Rattle.std.proofs.lemmas.Bool.Decides.{nat_tests}
use Rattle.std.proofs.lemmas.Grind.{get_or-set_at}
use Rattle.std.proofs.Math.ListN.{get_or-map}
use Rattle.std.proofs.lemmas.Option.{slice_get_within, get_or_from_slice_get}
use Rattle.sp_theory.specs.Logs.{Entry, told, act, observe, unseen, Session, session_after, after_entry, opening_session}
use Rattle.sp_theory.specs.Points.{count_of}
use Rattle.sp_model.specs.Problem.{sizes_of}
use Rattle.sp_publish.specs.Published.{PublishedList, ListGoesOn}
use Rattle.sp_publish.proofs.PublishedLemmas.{goes_on_self}
use Rattle.sp_script.specs.Laws.{IsObservationWithin}
use Rattle.sp_session.specs.Sessions.{SessionParts, session_of, answering_member, with_told, first_parts}
use Rattle.sp_script.specs.declared.command.Command.{Command}
use Rattle.sp_script.specs.declared.command.Command.TheVariants.{Open, Act, Observe, Sync, Close}
use Rattle.sp_script.specs.declared.error.ScriptKind.{ScriptKind}
use Rattle.sp_script.specs.declared.error.ScriptKind.TheVariants.{NotOpen}
use Rattle.sp_script.specs.declared.request.Verb.{Verb}
use Rattle.sp_script.specs.Commands.{name_of, verb_of, request_with, is_opening, is_closing, asks_of, was_asked, is_open, has_answer, BreaksAfter, AreCommands}
use Rattle.sp_script.specs.Served.{opened_names, asks_entry, commands_of, IsReply, AreReplies}
use Rattle.sp_script.proofs.CommandLemmas.{was_asked-more, bytes_same, bytes_self, asks_of-same, asks_of-other}
use Rattle.sp_serving.specs.Progress.{IsIdle}
use Rattle.sp_serving.proofs.Commanding.{opened-more, answer-other, answer-own, answer-idle, commands-other, commands-plain, commands-own, is_new, is_answered, idle_after}
use Rattle.sp_desk.specs.declared.seats.Seat.{Seat}
use Rattle.sp_desk.specs.Desks.{DeskParts, IsDesk, IsOpenAt, names_in, is_open_as, is_open_in}
use Rattle.sp_desk.specs.Asked.{KnowsMore}
use Rattle.sp_desk.specs.Serving.{MayServe, HasServed}
use Rattle.sp_desk.specs.Runs.{DeskRunParts, IsSeatServed, AreSeatsServed, IsDeskRun}
use Rattle.sp_desk.proofs.DeskLemmas.{session_more}

or_false : (b : Bool) → (b || false) ≡ b
or_false true = refl
or_false false = refl

none_of : (a b : Bool) → (a || b) ≡ false → (a ≡ false) × (b ≡ false)
none_of false b e = (refl, e)
none_of true b e = absurd (cc)

-- ---- what was asked for, with one command more
module _ (before : List Command) (c : Command) (name : List ℕ) where
  asked-other : (test : Verb → Bool) → bytes_eq name (name_of c) ≡ false → was_asked test name (before ++ c ∷ []) ≡ was_asked test name before
  asked-other test e = was_asked-more test name before c ∙ ap (λ (b : Bool). was_asked test name before || b) (asks_of-other test name c e) ∙ or_false (was_asked test name before)

  asked-plain : (test : Verb → Bool) → bytes_eq name (name_of c) ≡ true → test (verb_of c) ≡ false → was_asked test name (before ++ c ∷ []) ≡ was_asked test name before
  asked-plain test e not_so = was_asked-more test name before c ∙ ap (λ (b : Bool). was_asked test name before || b) (asks_of-same test name c e ∙ not_so) ∙ or_false (was_asked test name before)

  going-other : bytes_eq name (name_of c) ≡ false → is_open name (before ++ c ∷ []) ≡ is_open name before
  going-other e i = asked-other is_opening e i && not (asked-other is_closing e i)

  going-plain : bytes_eq name (name_of c) ≡ true → is_opening (verb_of c) ≡ false → is_closing (verb_of c) ≡ false → is_open name (before ++ c ∷ []) ≡ is_open name before
  going-plain e opens closes i = asked-plain is_opening e opens i && not (asked-plain is_closing e closes i)

and_false : (b : Bool) → (b && false) ≡ false
and_false true = refl
and_false false = refl

or_true : (b : Bool) → (b || true) ≡ true
or_true true = refl
or_true false = refl

going-closed : (before : List Command) (c : Command) (name : List ℕ) → bytes_eq name (name_of c) ≡ true → is_closing (verb_of c) ≡ true → is_open name (before ++ c ∷ []) ≡ false
going-closed before c name e closes =
    let so : was_asked is_closing name (before ++ c ∷ []) ≡ true = was_asked-more is_closing name before c ∙ ap (λ (b : Bool). was_asked is_closing name before || b) (asks_of-same is_closing name c e ∙ closes) ∙ or_true (was_asked is_closing name before) in
    ap (λ (b : Bool). was_asked is_opening name (before ++ c ∷ []) && not b) so ∙ and_false (was_asked is_opening name (before ++ c ∷ []))

going-new : (before : List Command) (c : Command) (name : List ℕ) → bytes_eq name (name_of c) ≡ true → is_opening (verb_of c) ≡ true → is_closing (verb_of c) ≡ false → was_asked is_closing name before ≡ false → is_open name (before ++ c ∷ []) ≡ true
going-new before c name e opens closes none =
    let so : was_asked is_opening name (before ++ c ∷ []) ≡ true = was_asked-more is_opening name before c ∙ ap (λ (b : Bool). was_asked is_opening name before || b) (asks_of-same is_opening name c e ∙ opens) ∙ or_true (was_asked is_opening name before) in
    let not_so : was_asked is_closing name (before ++ c ∷ []) ≡ false = asked-plain before c name is_closing e closes ∙ none in
    λ i. so i && not (not_so i)

-- ---- what may come next
-- where it isn't an opening, its session is open
is_going : (before : List Command) (c : Command) → ((kind : ScriptKind) → ¬ BreaksAfter before (request_with c) kind) → is_opening (verb_of c) ≡ false → is_open (name_of c) before ≡ true
is_going before c faultless plain = true_from_ne_false (is_open (name_of c) before) (λ none. absurd (faultless NotOpen (plain, none)))

replies_more : (cs : List Command) (xs : List Entry) (c : Command) (x : Entry) → AreReplies cs xs → IsReply c x → AreReplies (cs ++ c ∷ []) (xs ++ x ∷ [])
replies_more [] [] c x all here = (here, tt)
replies_more (d ∷ cs) (y ∷ xs) c x (first, rest) here = (first, replies_more cs xs c x rest here)
replies_more [] (y ∷ xs) c x all here = absurd all
replies_more (d ∷ cs) [] c x all here = absurd all

-- a name that isn't opened isn't closed
closed_after : (before : List Command) (c : Command) → ((kind : ScriptKind) → ¬ BreaksAfter before (request_with c) kind) → ((name : List ℕ) → was_asked is_opening name before ≡ false → was_asked is_closing name before ≡ false)
    → (name : List ℕ) → was_asked is_opening name (before ++ c ∷ []) ≡ false → was_asked is_closing name (before ++ c ∷ []) ≡ false
closed_after before c faultless closed name none = by_name (bytes_eq name (name_of c)) refl
  where
    both : (was_asked is_opening name before ≡ false) × (asks_of is_opening name c ≡ false)
    both = none_of (was_asked is_opening name before) (asks_of is_opening name c) (sym (was_asked-more is_opening name before c) ∙ none)

    by_name : (b : Bool) → bytes_eq name (name_of c) ≡ b → was_asked is_closing name (before ++ c ∷ []) ≡ false
    by_name false e = asked-other before c name is_closing e ∙ closed name both.0
    by_name true e =
        absurd (faultless NotOpen (
          sym (asks_of-same is_opening name c e) ∙ both.1,
          ap (λ (b : Bool). b && not (was_asked is_closing (name_of c) before)) (ap (λ (other : List ℕ). was_asked is_opening other before) (sym (bytes_same name (name_of c) e)) ∙ both.0),
        ))

-- ---- names that were opened
pub not_opened : (cs : List Command) (name : List ℕ) → was_asked is_opening name cs ≡ false → All (λ other. other ≢ name) (opened_names cs)
not_opened [] name none = All-nil (λ other. other ≢ name)
not_opened (c ∷ cs) name none = by_test (is_opening (verb_of c)) (not_opened cs name) none
  where
    by_test : (b : Bool) → (was_asked is_opening name cs ≡ false → All (λ other. other ≢ name) (opened_names cs)) → ((b && bytes_eq name (name_of c)) || was_asked is_opening name cs) ≡ false → All (λ other. other ≢ name) (map name_of (cond b (c ∷ filter (λ d. is_opening (verb_of d)) cs) (filter (λ d. is_opening (verb_of d)) cs)))
    by_test true rest h =
        let both = none_of (bytes_eq name (name_of c)) (was_asked is_opening name cs) h in
        All-cons (λ other. other ≢ name) (name_of c) (opened_names cs) (λ e. absurd (let so = bytes_self (name_of c) in let not_so = subst (λ (n : List ℕ). bytes_eq n (name_of c) ≡ false) (sym e) both.0 in cc (so, not_so))) (rest both.1)
    by_test false rest h = rest h

none_opened : (cs : List Command) (name : List ℕ) → All (λ other. other ≢ name) (opened_names cs) → was_asked is_opening name cs ≡ false
none_opened [] name all = refl
none_opened (c ∷ cs) name all = by_test (is_opening (verb_of c)) (none_opened cs name) all
  where
    by_test : (b : Bool) → (All (λ other. other ≢ name) (opened_names cs) → was_asked is_opening name cs ≡ false)
        → All (λ other. other ≢ name) (map name_of (cond b (c ∷ filter (λ d. is_opening (verb_of d)) cs) (filter (λ d. is_opening (verb_of d)) cs))) → ((b && bytes_eq name (name_of c)) || was_asked is_opening name cs) ≡ false
    by_test true rest h =
        let differ : bytes_eq name (name_of c) ≡ false = false_from_ne_true (bytes_eq name (name_of c)) (λ same. All-head (λ other. other ≢ name) (name_of c) (opened_names cs) h (sym (bytes_same name (name_of c) same))) in
        let none : was_asked is_opening name cs ≡ false = rest (All-tail (λ other. other ≢ name) (name_of c) (opened_names cs) h) in
        λ i. differ i || none i
    by_test false rest h = rest h

-- none of the sessions is the open one of that name
none_open : (seats : List Seat) (name : List ℕ) → is_open_in name seats ≡ false → (i : ℕ) (d : Seat) → i < length seats → is_open_as name (get_or seats i d) ≡ false
none_open [] name none i d below = absurd (omega (arith, below))
none_open (s ∷ seats) name none zero d below = (none_of (is_open_as name s) (is_open_in name seats) none).0
none_open (s ∷ seats) name none (suc i) d below = none_open seats name (none_of (is_open_as name s) (is_open_in name seats) none).1 i d (omega (arith, below))

-- a session that the commands have open is open at the desk
pub open_at_desk : (before : List Command) (seats : List Seat) (name : List ℕ) → AreSeatsServed before seats → is_open name before ≡ true → is_open_in name seats ≡ true
open_at_desk before seats name h going = true_from_ne_false (is_open_in name seats) (λ none. absurd (contradiction (all_differ none)))
  where
    own : (s : Seat) → is_open_as name s ≡ false → s.is_open ≡ is_open s.session.name before → s.session.name ≢ name
    own s not_so is e =
        let so : s.is_open ≡ true = is ∙ (ap (λ (n : List ℕ). is_open n before) e ∙ going) in
        let same : bytes_eq name s.session.name ≡ true = subst (λ (n : List ℕ). bytes_eq name n ≡ true) (sym e) (bytes_self name) in
        let both : is_open_as name s ≡ true = λ i. so i && same i in absurd (cc (both, not_so))

    all_differ : is_open_in name seats ≡ false → All (λ other. other ≢ name) (names_in seats)
    all_differ none = All-map (λ other. other ≢ name) (λ (s : Seat). s.session.name) seats (λ i d below. own (get_or seats i d) (none_open seats name none i d below) (h.each i d below).is_open)

    contradiction : All (λ other. other ≢ name) (names_in seats) → ⊥
    contradiction all =
        let none : was_asked is_opening name before ≡ false = none_opened before name (subst (λ ns. All (λ other. other ≢ name) ns) h.names all) in
        let not_so : is_open name before ≡ false = ap (λ (b : Bool). b && not (was_asked is_closing name before)) none in absurd (cc (going, not_so))

-- ---- a session after one command more
seat_other : (before : List Command) (c : Command) (s : Seat) → bytes_eq s.session.name (name_of c) ≡ false → IsSeatServed before s → IsSeatServed (before ++ c ∷ []) s
seat_other before c s e h = record {
  is_open = h.is_open ∙ sym (going-other before c s.session.name e);
  replies = subst (λ (cs : List Command). AreReplies cs s.session.entries) (sym (commands-other before c s.session.name e)) h.replies;
  answer = λ q. h.answer (sym (answer-other before c s.session.name e) ∙ q);
}

-- it got an entry
seat_entry : (before : List Command) (c : Command) (s : Seat) (session : SessionParts) (x : Entry) → bytes_eq s.session.name (name_of c) ≡ true → is_opening (verb_of c) ≡ false → is_closing (verb_of c) ≡ false → asks_entry c ≡ true → IsReply c x
    → session.name ≡ s.session.name → session.entries ≡ s.session.entries ++ x ∷ [] → (has_answer s.session.name (before ++ c ∷ []) ≡ true → IsSome (session_of session).acted) → IsSeatServed before s
    → IsSeatServed (before ++ c ∷ []) (record s { session = session })
seat_entry before c s session x e opens closes asks is name entries answer h = record {
  is_open = h.is_open ∙ sym (going-plain before c s.session.name e opens closes) ∙ ap (λ (n : List ℕ). is_open n (before ++ c ∷ [])) (sym name);
  replies = subst (λ (n : List ℕ). AreReplies (commands_of n (before ++ c ∷ [])) session.entries) (sym name)
      (subst (λ (xs : List Entry). AreReplies (commands_of s.session.name (before ++ c ∷ [])) xs) (sym entries)
      (subst (λ (cs : List Command). AreReplies cs (s.session.entries ++ x ∷ [])) (sym (commands-own before c s.session.name e asks)) (replies_more (commands_of s.session.name before) s.session.entries c x h.replies is)));
  answer = λ q. answer (ap (λ (n : List ℕ). has_answer n (before ++ c ∷ [])) (sym name) ∙ q);
}

-- ---- sessions after one command more
-- the session at a place changed, which is the command's
seats_after : (before : List Command) (c : Command) (seats : List Seat) (place : ℕ) (seat other : Seat) → slice_get seats place ≡ Some seat → AllPairs (λ x y. x ≢ y) (names_in seats) → bytes_eq seat.session.name (name_of c) ≡ true
    → other.session.name ≡ seat.session.name → is_opening (verb_of c) ≡ false → IsSeatServed (before ++ c ∷ []) other → ((kind : ScriptKind) → ¬ BreaksAfter before (request_with c) kind) → AreSeatsServed before seats → AreSeatsServed (before ++ c ∷ []) (set seats place other)
seats_after before c seats place seat other at apart own same plain new faultless h = record {
  names = names ∙ h.names ∙ sym (opened-more before c ∙ ap (λ (b : Bool). opened_names before ++ cond b (name_of c ∷ []) []) plain ∙ append-nil (opened_names before));
  each = λ i d below. by_place i d below (i == place) refl;
  idle = idle_after before c faultless h.idle;
  closed = closed_after before c faultless h.closed;
}
  where
    there : get_or seats place seat ≡ seat
    there = get_or_from_slice_get seats place seat seat at

    names : names_in (set seats place other) ≡ names_in seats
    names = map-set_same (λ (s : Seat). s.session.name) seats place other seat (same ∙ ap (λ (s : Seat). s.session.name) (sym there))

    apart_at : (i : ℕ) (d : Seat) → i ≢ place → i < length seats → (get_or seats i d).session.name ≢ seat.session.name
    apart_at i d differ below e = ⊎_elim (λ (o : i ≡ place). differ o) (λ (o : (i < place) ⊎ (place < i)). ⊎_elim (λ (lt : i < place). apart i place d.session.name lt inside (ei ∙ e ∙ sym ep)) (λ (gt : place < i). apart place i d.session.name gt (omega (arith, below, count)) (ep ∙ sym e ∙ sym ei)) o) (cases_order i place)
      where
        count : length (names_in seats) ≡ length seats
        count = length-map seats (λ (s : Seat). s.session.name)

        inside : place < length (names_in seats)
        inside = omega (arith, count, slice_get_within seats place seat at)

        ei : get_or (names_in seats) i d.session.name ≡ (get_or seats i d).session.name
        ei = get_or-map (λ (s : Seat). s.session.name) seats i d

        ep : get_or (names_in seats) place d.session.name ≡ seat.session.name
        ep = get_or-map (λ (s : Seat). s.session.name) seats place d ∙ ap (λ (s : Seat). s.session.name) (get_or_from_slice_get seats place seat d at)

    by_place : (i : ℕ) (d : Seat) → i < length (set seats place other) → (b : Bool) → (i == place) ≡ b → IsSeatServed (before ++ c ∷ []) (get_or (set seats place other) i d)
    by_place i d below true is =
        let same_place : i ≡ place = grind (arith, nat_tests) in
        subst (IsSeatServed (before ++ c ∷ [])) (sym (get_or-set_at seats place i other d same_place (slice_get_within seats place seat at))) new
    by_place i d below false is =
        let differ : i ≢ place = grind (arith, nat_tests) in
        let within : i < length seats = omega (arith, below, length-set seats place other) in
        let not_so : bytes_eq (get_or seats i d).session.name (name_of c) ≡ false =
        false_from_ne_true (bytes_eq (get_or seats i d).session.name (name_of c)) (λ so. apart_at i d differ within (bytes_same (get_or seats i d).session.name (name_of c) so ∙ sym (bytes_same seat.session.name (name_of c) own))) in
        subst (IsSeatServed (before ++ c ∷ [])) (sym (get_or-set_other seats place i other d differ)) (seat_other before c (get_or seats i d) not_so (h.each i d within))

-- ---- the open session of a name
own_name : (name : List ℕ) (s : Seat) → is_open_as name s ≡ true → (s.is_open ≡ true) × (bytes_eq s.session.name name ≡ true)
own_name name s e = by_open s.is_open (bytes_eq name s.session.name) refl e
  where
    same : bytes_eq name s.session.name ≡ true → bytes_eq s.session.name name ≡ true
    same so = subst (λ (n : List ℕ). bytes_eq n name ≡ true) (bytes_same name s.session.name so) (bytes_self name)

    by_open : (a b : Bool) → bytes_eq name s.session.name ≡ b → (a && b) ≡ true → (a ≡ true) × (bytes_eq s.session.name name ≡ true)
    by_open true true is h = (refl, same is)
    by_open true false is h = absurd (cc)
    by_open false b is h = absurd (cc)

-- ---- the steps
module _ (before : List Command) (d : DeskParts) (h : IsDesk d) (under : AreSeatsServed before d.seats) where
  -- the command's session got an entry
  entry_after : (c : Command) (after : List Seat) (place : ℕ) (seat : Seat) (session : SessionParts) (x : Entry) → ((kind : ScriptKind) → ¬ BreaksAfter before (request_with c) kind) → IsOpenAt (name_of c) d.seats place seat
      → is_opening (verb_of c) ≡ false → is_closing (verb_of c) ≡ false → asks_entry c ≡ true → IsReply c x → session.name ≡ seat.session.name → session.entries ≡ seat.session.entries ++ x ∷ []
      → (IsSeatServed before seat → has_answer seat.session.name (before ++ c ∷ []) ≡ true → IsSome (session_of session).acted) → after ≡ set d.seats place (record seat { session = session })
      → AreSeatsServed (before ++ c ∷ []) after
  entry_after c after place seat session x faultless at opens closes asks is name entries answer same =
      let own = (own_name (name_of c) seat at.is_open).1 in
      let was : IsSeatServed before seat = subst (IsSeatServed before) (get_or_from_slice_get d.seats place seat seat at.there) (under.each place seat (slice_get_within d.seats place seat at.there)) in
      let now : IsSeatServed (before ++ c ∷ []) (record seat { session = session }) = seat_entry before c seat session x own opens closes asks is name entries (answer was) was in
      subst (AreSeatsServed (before ++ c ∷ [])) (sym same) (seats_after before c d.seats place seat (record seat { session = session }) at.there h.names own name opens now faultless under)

  -- an observation leaves no answer to observe after
  no_answer : (name : List ℕ) (line o : ℕ) (other : List ℕ) → bytes_eq other name ≡ true → has_answer other (before ++ Observe name line o ∷ []) ≡ true → ⊥
  no_answer name line o other own q = by_test (has_answer other before) (sym (answer-own before (Observe name line o) other own) ∙ q)
    where
      by_test : (b : Bool) → (false || (b && false)) ≡ true → ⊥
      by_test true e = absurd (cc)
      by_test false e = absurd (cc)

  pub run_after : (c : Command) (told' : PublishedList) (after : DeskParts) → ((kind : ScriptKind) → ¬ BreaksAfter before (request_with c) kind) → HasServed d c told' after → AreSeatsServed (before ++ c ∷ []) after.seats
  unfolding after_entry session_after opening_session
  run_after (Open name line) told' after faultless is = subst (λ (e : DeskParts). AreSeatsServed (before ++ Open name line ∷ []) e.seats) (sym is) entered
    where
      new : Seat
      new = record { session = first_parts name d.task; is_open = true }

      fresh : All (λ other. other ≢ name) (names_in d.seats)
      fresh = subst (λ ns. All (λ other. other ≢ name) ns) (sym under.names) (not_opened before name (is_new before (Open name line) faultless refl))

      idle : IsIdle before name
      idle = under.idle name (is_new before (Open name line) faultless refl)

      old_seat : (i : ℕ) (e : Seat) → i < length d.seats → IsSeatServed (before ++ Open name line ∷ []) (get_or d.seats i e)
      old_seat i e below =
          let other : bytes_eq (get_or d.seats i e).session.name name ≡ false = false_from_ne_true (bytes_eq (get_or d.seats i e).session.name name)
          (λ so. fresh i e.session.name (omega (arith, below, length-map d.seats (λ (s : Seat). s.session.name))) (get_or-map (λ (s : Seat). s.session.name) d.seats i e ∙ bytes_same (get_or d.seats i e).session.name name so)) in
          seat_other before (Open name line) (get_or d.seats i e) other (under.each i e below)

      new_seat : IsSeatServed (before ++ Open name line ∷ []) new
      new_seat = record {
        is_open = sym (going-new before (Open name line) name (bytes_self name) refl refl (under.closed name (is_new before (Open name line) faultless refl)));
        replies = subst (λ (cs : List Command). AreReplies cs []) (sym (commands-plain before (Open name line) name refl ∙ idle.commands)) tt;
        answer = λ q. absurd (let not_so = answer-idle before (Open name line) name refl refl ∙ idle.answer in cc (not_so, q));
      }

      entered : AreSeatsServed (before ++ Open name line ∷ []) (d.seats ++ new ∷ [])
      entered = record {
        names = map-append (λ (s : Seat). s.session.name) d.seats (new ∷ []) ∙ ap (λ (ns : List (List ℕ)). ns ++ name ∷ []) under.names ∙ sym (opened-more before (Open name line));
        each = All-append (IsSeatServed (before ++ Open name line ∷ [])) d.seats (new ∷ []) old_seat (All-cons (IsSeatServed (before ++ Open name line ∷ [])) new [] new_seat (All-nil (IsSeatServed (before ++ Open name line ∷ []))));
        idle = idle_after before (Open name line) faultless under.idle;
        closed = closed_after before (Open name line) faultless under.closed;
      }
  run_after (Act name line) told' after faultless (answer, is) =
      let x : Entry = act is.edition.number (answering_member is.seat.session is.edition).id (answering_member is.seat.session is.edition).action in
      let acted : (session_of is.session).acted ≡ Some (answering_member is.seat.session is.edition).action = ap (λ (t : SessionParts). (session_of t).acted) is.answered.leaves ∙ ap (λ (t : Session). t.acted) (session_more is.seat.session x) in
      entry_after (Act name line) after.seats is.place is.seat is.session x faultless is.at refl refl refl tt (ap (λ (t : SessionParts). t.name) is.answered.leaves) (ap (λ (t : SessionParts). t.entries) is.answered.leaves)
      (λ was q. subst IsSome (sym acted) refl) is.seats
  run_after (Observe name line o) told' after faultless (inl is) =
      entry_after (Observe name line o) after.seats is.place is.seat is.session (observe o) faultless is.at refl refl refl refl (ap (λ (t : SessionParts). t.name) is.observed.leaves) (ap (λ (t : SessionParts). t.entries) is.observed.leaves)
      (λ was q. absurd (no_answer name line o is.seat.session.name (own_name name is.seat is.at.is_open).1 q)) (ap (λ (e : DeskParts). e.seats) is.changed)
  run_after (Observe name line o) told' after faultless (inr is) =
      entry_after (Observe name line o) after.seats is.place is.seat is.session (unseen o) faultless is.at refl refl refl refl (ap (λ (t : SessionParts). t.name) is.refused.2) (ap (λ (t : SessionParts). t.entries) is.refused.2)
      (λ was q. absurd (no_answer name line o is.seat.session.name (own_name name is.seat is.at.is_open).1 q)) (ap (λ (e : DeskParts). e.seats) is.changed)
  run_after (Sync name line) told' after faultless (number, is) =
      let session : SessionParts = with_told is.seat.session number in
      let acted : (session_of session).acted ≡ (session_of is.seat.session).acted = ap (λ (t : Session). t.acted) (session_more is.seat.session (told number)) in
      entry_after (Sync name line) after.seats is.place is.seat session (told number) faultless is.at refl refl refl tt refl refl
      (λ was q. subst IsSome (sym acted) (was.answer (sym (answer-idle before (Sync name line) is.seat.session.name refl refl) ∙ q))) is.seats
  run_after (Close name line) told' after faultless is =
      subst (λ (e : DeskParts). AreSeatsServed (before ++ Close name line ∷ []) e.seats) (sym is.changed) (seats_after before (Close name line) d.seats is.place is.seat (record is.seat { is_open = false }) is.at.there h.names own refl refl now faultless under)
    where
      own : bytes_eq is.seat.session.name name ≡ true
      own = (own_name name is.seat is.at.is_open).1

      was : IsSeatServed before is.seat
      was = subst (IsSeatServed before) (get_or_from_slice_get d.seats is.place is.seat is.seat is.at.there) (under.each is.place is.seat (slice_get_within d.seats is.place is.seat is.at.there))

      now : IsSeatServed (before ++ Close name line ∷ []) (record is.seat { is_open = false })
      now = record {
        is_open = sym (going-closed before (Close name line) is.seat.session.name own refl);
        replies = subst (λ (cs : List Command). AreReplies cs is.seat.session.entries) (sym (commands-plain before (Close name line) is.seat.session.name refl)) was.replies;
        answer = λ q. was.answer (sym (answer-idle before (Close name line) is.seat.session.name refl refl) ∙ q);
      }

  -- the next command may be served
  pub may_serve : (c : Command) → ((kind : ScriptKind) → ¬ BreaksAfter before (request_with c) kind) → IsObservationWithin (count_of (sizes_of d.task.model.sights)) c → MayServe d c
  may_serve (Open name line) faultless within = subst (λ ns. All (λ other. other ≢ name) ns) (sym under.names) (not_opened before name (is_new before (Open name line) faultless refl))
  may_serve (Act name line) faultless within = open_at_desk before d.seats name under (is_going before (Act name line) faultless refl)
  may_serve (Observe name line o) faultless within = (
    open_at_desk before d.seats name under (is_going before (Observe name line o) faultless refl),
    within,
    (λ place seat at.
        let was : IsSeatServed before seat = subst (IsSeatServed before) (get_or_from_slice_get d.seats place seat seat at.there) (under.each place seat (slice_get_within d.seats place seat at.there)) in
        let same : seat.session.name ≡ name = bytes_same seat.session.name name (own_name name seat at.is_open).1 in
        was.answer (ap (λ (n : List ℕ). has_answer n before) same ∙ is_answered before (Observe name line o) faultless refl)),
  )
  may_serve (Sync name line) faultless within = open_at_desk before d.seats name under (is_going before (Sync name line) faultless refl)
  may_serve (Close name line) faultless within = open_at_desk before d.seats name under (is_going before (Close name line) faultless refl)

-- ---- what a command leaves
pub first_after : (seats : List Seat) → seats ≡ [] → AreSeatsServed [] seats
first_after seats none = subst (AreSeatsServed []) (sym none) (record { names = refl; each = All-nil (IsSeatServed []); idle = λ name h. record { answer = refl; commands = refl }; closed = λ name h. refl })

pub served_task : (d : DeskParts) (c : Command) (told' : PublishedList) (after : DeskParts) → HasServed d c told' after → after.task ≡ d.task
served_task d (Open name line) told' after is = ap (λ (e : DeskParts). e.task) is
served_task d (Act name line) told' after (answer, is) = is.task
served_task d (Observe name line o) told' after (inl is) = ap (λ (e : DeskParts). e.task) is.changed
served_task d (Observe name line o) told' after (inr is) = ap (λ (e : DeskParts). e.task) is.changed
served_task d (Sync name line) told' after (number, is) = is.task
served_task d (Close name line) told' after is = ap (λ (e : DeskParts). e.task) is.changed

known_same : (d after : DeskParts) → after.known ≡ d.known → ListGoesOn d.known after.known
known_same d after same = subst (λ (p : PublishedList). ListGoesOn d.known p) (sym same) (goes_on_self d.known)

pub served_known : (d : DeskParts) (c : Command) (told' : PublishedList) (after : DeskParts) → HasServed d c told' after → ListGoesOn d.known after.known
served_known d (Open name line) told' after is = known_same d after (ap (λ (e : DeskParts). e.known) is)
served_known d (Act name line) told' after (answer, is) = is.known
served_known d (Observe name line o) told' after (inl is) = known_same d after (ap (λ (e : DeskParts). e.known) is.changed)
served_known d (Observe name line o) told' after (inr is) = known_same d after (ap (λ (e : DeskParts). e.known) is.changed)
served_known d (Sync name line) told' after (number, is) = is.known
served_known d (Close name line) told' after is = known_same d after (ap (λ (e : DeskParts). e.known) is.changed)

-- ---- a script under way
-- before any command
pub first_run : (d : DeskParts) (cs : List Command) → IsDesk d → AreCommands cs → d.seats ≡ [] → All (IsObservationWithin (count_of (sizes_of d.task.model.sights))) cs → IsDeskRun (record { desk = d; commands = cs; served = 0 })
first_run d cs h are none within = record { desk = h; commands = are; within = within; count = omega arith; after = first_after d.seats none }

module _ (r : DeskRunParts) (h : IsDeskRun r) where
  -- the desk knows more, and its sessions are as they were
  pub run_kept : (d : DeskParts) → IsDesk d → KnowsMore r.desk d → IsDeskRun (record r { desk = d })
  run_kept d known more = record {
    desk = known;
    commands = h.commands;
    within = subst (λ (t : TaskParts). All (IsObservationWithin (count_of (sizes_of t.model.sights))) r.commands) (sym more.task) h.within;
    count = h.count;
    after = subst (AreSeatsServed (take r.served r.commands)) (sym more.seats) h.after;
  }

  module _ (c : Command) (next : slice_get r.commands r.served ≡ Some c) where
    no_fault : (kind : ScriptKind) → ¬ BreaksAfter (take r.served r.commands) (request_with c) kind
    no_fault kind = h.commands.in_order r.served c kind next

    pub next_may : MayServe r.desk c
    next_may =
        let less = slice_get_within r.commands r.served c next in
        let there : get_or r.commands r.served c ≡ c = get_or_from_slice_get r.commands r.served c c next in
        may_serve (take r.served r.commands) r.desk h.desk h.after c no_fault (subst (IsObservationWithin (count_of (sizes_of r.desk.task.model.sights))) there (h.within r.served c less))

    pub run_next : (told' : PublishedList) (d : DeskParts) → IsDesk d → HasServed r.desk c told' d → IsDeskRun (record r { desk = d; served = r.served + 1 })
    run_next told' d known is = record {
      desk = known;
      commands = h.commands;
      within = subst (λ (t : TaskParts). All (IsObservationWithin (count_of (sizes_of t.model.sights))) r.commands) (sym (served_task r.desk c told' d is)) h.within;
      count = let less = slice_get_within r.commands r.served c next in omega (arith, less);
      after = subst (λ (cs : List Command). AreSeatsServed cs d.seats) (sym taken_more) (run_after (take r.served r.commands) r.desk h.desk h.after c told' d no_fault is);
    }
      where
        taken_more : take (r.served + 1) r.commands ≡ take r.served r.commands ++ c ∷ []
        taken_more =
            let less = slice_get_within r.commands r.served c next in
            ap (λ (n : ℕ). take n r.commands) (add-one r.served)
            ∙ take-suc r.commands r.served c less
            ∙ ap (λ (e : Command). take r.served r.commands ++ e ∷ []) (get_or_from_slice_get r.commands r.served c c next)

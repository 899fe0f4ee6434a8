-- What a desk keeps as its list goes on and as its sessions do.
use Rattle.std.proofs.Common.{◌≡◌, ◌≢◌, ℕ, ◌+◌, ◌-◌, ◌<◌, ◌≤◌, true, Some, List, [], ◌∷◌, ◌++◌, length, set, slice_get, get_or, refl, sym, ◌∙◌, ap, subst, arith}
use Rattle.std.specs.Prelude.{All, AllPairs}
use Rattle.std.proofs.Math.Seq.{map-set_same}
use Rattle.std.proofs.lemmas.List.{map-append}
use Rattle.std.proofs.lemmas.List.Elements.{All-append, All-cons, All-nil, All-set}
use Rattle.std.proofs.lemmas.List.Quantifiers.{all_pairs_push}
use Rattle.std.proofs.lemmas.Option.{slice_get_within, get_or_from_slice_get}
use mathlib.Core.List.{IsPrefix}
use Rattle.sp_theory.specs.Logs as theory
use Rattle.sp_theory.specs.Logs.{Entry, told, act, observe, unseen, closing, session_after, after_entry, opening_session}
use Rattle.sp_theory.specs.SessionLaws.{AllTold}
use Rattle.sp_model.specs.Problem.{problem}
use Rattle.sp_value.specs.Tasks.{TaskParts}
use Rattle.sp_value.specs.Editions.{EditionParts}
use Rattle.sp_publish.specs.Published.{PublishedList, IsList, IsOfTask, ListGoesOn, newest_in}
use Rattle.sp_publish.proofs.Prefixes.{prefix_get, prefix_length}
use Rattle.sp_session.specs.Sessions.{SessionParts, IsSession, session_of, answering_member, with_answer, with_told, with_observed, with_unseen, first_parts}
use Rattle.sp_session.proofs.Entering.{session_after-append}
use Rattle.sp_desk.specs.declared.seats.Seat.{Seat}
use Rattle.sp_desk.specs.Desks.{DeskParts, IsDesk, IsSeatIn, names_in, told_below, with_session}

-- ---- entries that tell
pub all_told : (p q : theory.Published) (xs : List Entry) → ((e : ℕ) → p.may_tell e → q.may_tell e) → AllTold p xs → AllTold q xs
all_told p q [] h t = tt
all_told p q (told e ∷ xs) h t = (h e t.0, all_told p q xs h t.1)
all_told p q (act e id action ∷ xs) h t = all_told p q xs h t
all_told p q (observe o ∷ xs) h t = all_told p q xs h t
all_told p q (unseen o ∷ xs) h t = all_told p q xs h t
all_told p q (closing e id action ∷ xs) h t = all_told p q xs h t

told_more : (p : theory.Published) (xs : List Entry) (x : Entry) → AllTold p xs → AllTold p (x ∷ []) → AllTold p (xs ++ x ∷ [])
told_more p [] x t h = h
told_more p (told e ∷ xs) x t h = (t.0, told_more p xs x t.1 h)
told_more p (act e id action ∷ xs) x t h = told_more p xs x t h
told_more p (observe o ∷ xs) x t h = told_more p xs x t h
told_more p (unseen o ∷ xs) x t h = told_more p xs x t h
told_more p (closing e id action ∷ xs) x t h = told_more p xs x t h

-- ---- sessions
pub seat_on : (t : TaskParts) (es fs : List EditionParts) (s : SessionParts) → IsPrefix es fs → IsSeatIn t es s → IsSeatIn t fs s
seat_on t es fs s p h =
    let le : length es ≤ length fs = prefix_length es fs p in record {
      session = h.session;
      task = h.task;
      answered = λ i d below. prefix_get es fs (get_or s.editions i d).number (get_or s.editions i d) p (h.answered i d below);
      told = all_told (told_below (length es)) (told_below (length fs)) s.entries (λ e below. omega (arith, below, le)) h.told;
      newest = omega (arith, h.newest, le);
    }

-- a session after one more entry
pub session_more : (s : SessionParts) (x : Entry) → session_of (record s { entries = s.entries ++ x ∷ [] }) ≡ after_entry (problem s.task.model) (session_of s) x
session_more s x = session_after-append (problem s.task.model) (opening_session (problem s.task.model)) s.entries x

pub seat_answered : (t : TaskParts) (es : List EditionParts) (s : SessionParts) (e : EditionParts) → IsSeatIn t es s → slice_get es e.number ≡ Some e → IsSession (with_answer s e) → IsSeatIn t es (with_answer s e)
unfolding after_entry
seat_answered t es s e h there known = record {
  session = known;
  task = h.task;
  answered = All-append (λ d. slice_get es d.number ≡ Some d) s.editions (e ∷ []) h.answered (All-cons (λ d. slice_get es d.number ≡ Some d) e [] there (All-nil (λ d. slice_get es d.number ≡ Some d)));
  told = told_more (told_below (length es)) s.entries (act e.number (answering_member s e).id (answering_member s e).action) h.told tt;
  newest = subst (λ (n : ℕ). n < length es) (sym (ap (λ (x : theory.Session). x.newest) (session_more s (act e.number (answering_member s e).id (answering_member s e).action)))) (slice_get_within es e.number e there);
}

pub seat_told : (t : TaskParts) (es : List EditionParts) (s : SessionParts) (n : ℕ) → IsSeatIn t es s → n < length es → IsSession (with_told s n) → IsSeatIn t es (with_told s n)
unfolding after_entry
seat_told t es s n h below known = record {
  session = known;
  task = h.task;
  answered = h.answered;
  told = told_more (told_below (length es)) s.entries (told n) h.told (below, tt);
  newest = subst (λ (k : ℕ). k < length es) (sym (ap (λ (x : theory.Session). x.newest) (session_more s (told n)))) below;
}

pub seat_observed : (t : TaskParts) (es : List EditionParts) (s : SessionParts) (o : ℕ) → IsSeatIn t es s → IsSession (with_observed s o) → IsSeatIn t es (with_observed s o)
unfolding after_entry
seat_observed t es s o h known = record {
  session = known;
  task = h.task;
  answered = h.answered;
  told = told_more (told_below (length es)) s.entries (observe o) h.told tt;
  newest = subst (λ (k : ℕ). k < length es) (sym (ap (λ (x : theory.Session). x.newest) (session_more s (observe o)))) h.newest;
}

pub seat_unseen : (t : TaskParts) (es : List EditionParts) (s : SessionParts) (o : ℕ) → IsSeatIn t es s → IsSession (with_unseen s o) → IsSeatIn t es (with_unseen s o)
unfolding after_entry
seat_unseen t es s o h known = record {
  session = known;
  task = h.task;
  answered = h.answered;
  told = told_more (told_below (length es)) s.entries (unseen o) h.told tt;
  newest = subst (λ (k : ℕ). k < length es) (sym (ap (λ (x : theory.Session). x.newest) (session_more s (unseen o)))) h.newest;
}

pub seat_first : (t : TaskParts) (es : List EditionParts) (name : List ℕ) → 0 < length es → IsSession (first_parts name t) → IsSeatIn t es (first_parts name t)
unfolding session_after opening_session
seat_first t es name some known = record { session = known; task = refl; answered = All-nil (λ e. slice_get es e.number ≡ Some e); told = tt; newest = some }

-- ---- the list
pub newest_number : (p : PublishedList) (e : EditionParts) → IsList p → newest_in p ≡ Some e → e.number + 1 ≡ length p.editions
newest_number p e known new = let some = known.some in let num = known.numbered (length p.editions - 1) e new in omega (arith, some, num)

-- the newest edition stands at its number, which is the last, and is of the task
pub newest_there : (p : PublishedList) (t : TaskParts) (e : EditionParts) → IsList p → IsOfTask p t → newest_in p ≡ Some e → (slice_get p.editions e.number ≡ Some e) × (e.number + 1 ≡ length p.editions) × (e.task ≡ t)
newest_there p t e known of new =
    let num : e.number ≡ length p.editions - 1 = known.numbered (length p.editions - 1) e new in
    (subst (λ (k : ℕ). slice_get p.editions k ≡ Some e) (sym num) new, newest_number p e known new, task_at p.editions (length p.editions - 1) e of known.of_one_task new)
  where
    task_at : (es : List EditionParts) (k : ℕ) (e : EditionParts) → ((x : EditionParts) → slice_get es 0 ≡ Some x → x.task ≡ t) → ((i : ℕ) (a b : EditionParts) → slice_get es 0 ≡ Some a → slice_get es i ≡ Some b → b.task ≡ a.task) → slice_get es k ≡ Some e → e.task ≡ t
    task_at [] k e f h at = absurd cc
    task_at (x ∷ es) k e f h at = h k x e refl at ∙ f x refl

pub of_task_on : (p q : PublishedList) (t : TaskParts) → IsList p → IsOfTask p t → ListGoesOn p q → IsOfTask q t
of_task_on p q t known of on e opens = by_first p.editions q.editions known.some of on.editions e opens
  where
    by_first : (es fs : List EditionParts) → 0 < length es → ((x : EditionParts) → slice_get es 0 ≡ Some x → x.task ≡ t) → IsPrefix es fs → (e : EditionParts) → slice_get fs 0 ≡ Some e → e.task ≡ t
    by_first [] fs some of p e at = absurd (omega (arith, some))
    by_first (x ∷ es) fs some of p e at =
        let there : slice_get fs 0 ≡ Some x = prefix_get (x ∷ es) fs 0 x p refl in
        let same : x ≡ e = cc (there, at) in ap (λ (y : EditionParts). y.task) (sym same) ∙ of x refl

-- ---- desks
pub desk_on : (d : DeskParts) (q : PublishedList) → IsDesk d → ListGoesOn d.known q → IsList q → IsDesk (record d { known = q })
desk_on d q h on known = record {
  list = known;
  task = of_task_on d.known q d.task h.list h.task on;
  seats = λ i s below. seat_on d.task d.known.editions q.editions (get_or d.seats i s).session on.editions (h.seats i s below);
  names = h.names;
}

pub desk_with : (d : DeskParts) (place : ℕ) (seat other : Seat) → IsDesk d → slice_get d.seats place ≡ Some seat → IsSeatIn d.task d.known.editions other.session → other.session.name ≡ seat.session.name
    → IsDesk (record d { seats = set d.seats place other })
desk_with d place seat other h at new same =
    let there : get_or d.seats place seat ≡ seat = get_or_from_slice_get d.seats place seat seat at in
    let names : names_in (set d.seats place other) ≡ names_in d.seats = map-set_same (λ (s : Seat). s.session.name) d.seats place other seat (same ∙ ap (λ (s : Seat). s.session.name) (sym there)) in record {
      list = h.list;
      task = h.task;
      seats = All-set (λ s. IsSeatIn d.task d.known.editions s.session) d.seats place other new h.seats;
      names = subst (λ ns. AllPairs (λ x y. x ≢ y) ns) (sym names) h.names;
    }

pub desk_entered : (d : DeskParts) (name : List ℕ) → IsDesk d → All (λ other. other ≢ name) (names_in d.seats) → IsSession (first_parts name d.task) → IsDesk (with_session d name)
desk_entered d name h fresh known =
    let new : Seat = record { session = first_parts name d.task; is_open = true } in
    let P : Seat → Type 0 = λ s. IsSeatIn d.task d.known.editions s.session in
    let names : names_in (d.seats ++ new ∷ []) ≡ names_in d.seats ++ name ∷ [] = map-append (λ (s : Seat). s.session.name) d.seats (new ∷ []) in record {
      list = h.list;
      task = h.task;
      seats = All-append P d.seats (new ∷ []) h.seats (All-cons P new [] (seat_first d.task d.known.editions name h.list.some known) (All-nil P));
      names = subst (λ ns. AllPairs (λ x y. x ≢ y) ns) (sym names) (all_pairs_push (λ x y. x ≢ y) (names_in d.seats) name h.names (λ k x below. fresh k x below));
    }

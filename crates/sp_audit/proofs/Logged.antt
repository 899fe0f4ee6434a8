-- A log as it is judged, one entry after another.
use Rattle.std.proofs.Common.{◌≡◌, ◌∙◌, sym, ap, subst, refl, arith, ℕ, ◌<◌, ◌≤◌, List, [], ◌∷◌, ◌++◌, length, take, drop, true, false}
use Rattle.std.proofs.lemmas.List.{drop_all, take_all}
use Rattle.sp_theory.specs.Model.{Model}
use Rattle.sp_theory.specs.Values.{Edition}
use Rattle.sp_theory.specs.Agreement.{AllAgree}
use Rattle.sp_theory.specs.Logs.{Entry, Session, Published, opening_session, all_of, MayEnter, after_entry, IsLog, session_after, IsLegalLog}
use Rattle.sp_theory.specs.SessionLaws.{SessionsAgree}
use Rattle.sp_theory.proofs.LogLemmas.{edition_same, after_entry_agrees, may_enter_too}
use Rattle.sp_model.specs.declared.parts.Parts.{Parts}
use Rattle.sp_model.specs.Problem.{problem}
use Rattle.sp_faults.specs.Clauses as clause
use Rattle.sp_faults.specs.Clauses.{IsFirstClause, entry_clauses}
use Rattle.sp_faults.specs.LogFaults.{EntryBreaks, IsEntryFault, IsWrongLog}
use Rattle.sp_faults.proofs.Firsts.{first_alike}
use Rattle.sp_faults.proofs.LogLemmas.{breaks_too, serves, session_back}
use Rattle.sp_audit.specs.declared.seats.Seat.{Seat}
use Rattle.sp_audit.specs.Seats.{session_of, IsOpeningSeat}
use Rattle.sp_audit.specs.Entries.{IsEntryAllowed, IsSeatAfter}

-- ---- sessions and editions
sessions_trans : (m : Model) (s t u : Session) → SessionsAgree m s t → SessionsAgree m t u → SessionsAgree m s u
sessions_trans m s t u first second = record {
  weights = λ x p. first.weights x p ∙ second.weights x p;
  newest = first.newest ∙ second.newest;
  acted = first.acted ∙ second.acted;
  closed = first.closed ∙ second.closed;
}

editions_same : (m : Model) (es : List Edition) → AllAgree m es es
editions_same m [] = tt
editions_same m (e ∷ es) = (edition_same m e, editions_same m es)

-- ---- one entry more
log_push : (m : Model) (published : Published) (s : Session) (xs : List Entry) (x : Entry) → IsLog m published s xs → MayEnter m published (session_after m s xs) x → IsLog m published s (xs ++ x ∷ [])
unfolding IsLog session_after
log_push m published s [] x log may = (may, tt)
log_push m published s (y ∷ ys) x (here, log) may = (here, log_push m published (after_entry m s y) ys x log may)

session_push : (m : Model) (s : Session) (xs : List Entry) (x : Entry) → session_after m s (xs ++ x ∷ []) ≡ after_entry m (session_after m s xs) x
unfolding session_after
session_push m s [] x = refl
session_push m s (y ∷ ys) x = session_push m (after_entry m s y) ys x

module _ (p : Parts) (es : List Edition) where
  abbrev start : Session
  start = opening_session (problem p)

  pub seat_opened : (s : Seat) → IsOpeningSeat p s → IsSeatAfter p es [] s
  unfolding IsLog session_after
  seat_opened s is = record { known = is.known; log = tt; agrees = is.agrees }

  pub seat_goes_on : (xs : List Entry) (s : Seat) (x : Entry) (t : Seat) → IsSeatAfter p es xs s → IsEntryAllowed p es s x t → IsSeatAfter p es (xs ++ x ∷ []) t
  seat_goes_on xs s x t is enters = record {
    known = enters.known;
    log = log_push (problem p) (all_of es) start xs x is.log
        (may_enter_too (problem p) (session_of p s) (session_after (problem p) start xs) is.agrees (all_of es) (all_of es) (serves (problem p) es es (editions_same (problem p) es)) x enters.may);
    agrees = subst (λ (u : Session). SessionsAgree (problem p) (session_of p t) u) (sym (session_push (problem p) start xs x))
        (sessions_trans (problem p) _ _ _ enters.agrees (after_entry_agrees (problem p) (session_of p s) (session_after (problem p) start xs) is.agrees x));
  }

  breaks_there : (s : Session) (t : Session) → SessionsAgree (problem p) s t → (x : Entry) (c : clause.Clause) → IsFirstClause (EntryBreaks (problem p) es s x) entry_clauses c → IsFirstClause (EntryBreaks (problem p) es t x) entry_clauses c
  breaks_there s t agree x c first =
      first_alike (EntryBreaks (problem p) es s x) (EntryBreaks (problem p) es t x)
      (breaks_too (problem p) es es (editions_same (problem p) es) s t agree x)
      (breaks_too (problem p) es es (editions_same (problem p) es) t s (session_back (problem p) s t agree) x) entry_clauses c first

  -- a log that is wrong at an entry
  pub wrong_entry : (xs : List Entry) (k : ℕ) (s : Seat) (x : Entry) (rest : List Entry) → IsSeatAfter p es (take k xs) s → drop k xs ≡ x ∷ rest → k < length xs
      → (c : clause.Clause) → IsFirstClause (EntryBreaks (problem p) es (session_of p s) x) entry_clauses c → IsWrongLog (problem p) es xs k c
  wrong_entry xs k s x rest is at less c first = record {
    within = omega (arith, less);
    log = is.log;
    fault = subst (λ (ys : List Entry). IsEntryFault (problem p) es (session_after (problem p) start (take k xs)) ys c) (sym at)
        (breaks_there (session_of p s) (session_after (problem p) start (take k xs)) is.agrees x c first);
  }

  -- a log that was read to its end
  module _ (xs : List Entry) (k : ℕ) (s : Seat) (is : IsSeatAfter p es (take k xs) s) (past : length xs ≤ k) where
    whole : IsSeatAfter p es xs s
    whole = subst (λ (ys : List Entry). IsSeatAfter p es ys s) (take_all k xs past) is

    pub log_closed : s.closed ≡ true → IsLegalLog (problem p) es xs
    log_closed closed = (whole.log, sym whole.agrees.closed ∙ closed)

    pub log_open : s.closed ≡ false → IsWrongLog (problem p) es xs (length xs) clause.closing
    log_open going = record {
      within = omega arith;
      log = subst (λ (ys : List Entry). IsLog (problem p) (all_of es) start ys) (sym (take_all (length xs) xs (omega arith))) whole.log;
      fault = subst (λ (ys : List Entry). IsEntryFault (problem p) es (session_after (problem p) start (take (length xs) xs)) ys clause.closing) (sym (drop_all (length xs) xs (omega arith)))
          (ap (λ (ys : List Entry). (session_after (problem p) start ys).closed) (take_all (length xs) xs (omega arith)) ∙ sym whole.agrees.closed ∙ going, refl);
    }

-- What an audit says of an entry of a log.
use Rattle.std.specs.Prelude.{List, Option, Some, None}
use Rattle.sp_theory.specs.Values as theory
use Rattle.sp_theory.specs.Logs.{Entry, MayEnter, all_of, opening_session, after_entry, IsLog, session_after}
use Rattle.sp_theory.specs.SessionLaws.{SessionsAgree}
use Rattle.sp_model.specs.declared.parts.Parts.{Parts}
use Rattle.sp_model.specs.Problem.{problem}
use Rattle.sp_faults.specs.Clauses.{IsFirstClause, entry_clauses}
use Rattle.sp_faults.specs.LogFaults.{EntryBreaks}
use Rattle.sp_audit.specs.declared.clause.Clause.{Clause}
use Rattle.sp_audit.specs.declared.seats.Seat.{Seat}
use Rattle.sp_audit.specs.Clauses.{clause_of}
use Rattle.sp_audit.specs.Seats.{session_of, IsReplaySeat}

-- the entry may come, and leads from one seat to the other
pub record IsEntryAllowed (p : Parts) (es : List theory.Edition) (s : Seat) (x : Entry) (t : Seat) : Type 0 where
  pub may : MayEnter (problem p) (all_of es) (session_of p s) x
  pub known : IsReplaySeat p t
  pub agrees : SessionsAgree (problem p) (session_of p t) (after_entry (problem p) (session_of p s) x)

-- nothing is wrong with the entry, which leads to the new seat; or it breaks that clause first
abbrev pub IsEntryJudged : Parts → List theory.Edition → Seat → Entry → Seat → Option Clause → Type 0
IsEntryJudged p es s x t None = IsEntryAllowed p es s x t
IsEntryJudged p es s x t (Some w) = IsFirstClause (EntryBreaks (problem p) es (session_of p s) x) entry_clauses (clause_of w)

-- the seat after these entries, which may come one after another
pub record IsSeatAfter (p : Parts) (es : List theory.Edition) (xs : List Entry) (s : Seat) : Type 0 where
  pub known : IsReplaySeat p s
  pub log : IsLog (problem p) (all_of es) (opening_session (problem p)) xs
  pub agrees : SessionsAgree (problem p) (session_of p s) (session_after (problem p) (opening_session (problem p)) xs)

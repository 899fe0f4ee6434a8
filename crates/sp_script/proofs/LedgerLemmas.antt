-- The ledger, with one command more.
use Rattle.std.proofs.Common.{◌≡◌, ◌≢◌, ℕ, ◌+◌, Bool, true, false, cond, not, ◌&&◌, ◌||◌, List, [], ◌∷◌, ◌++◌, Option, Some, None, refl, sym, ap, ◌∙◌, subst, arith}
use Rattle.std.specs.Prelude.{is_some}
use Rattle.std.specs.Str.{bytes_eq}
use Rattle.indexmap.specs.IndexMap.{index_map_len}
use Rattle.sp_script.specs.declared.command.Command.{Command}
use Rattle.sp_script.specs.declared.error.ScriptKind.{ScriptKind}
use Rattle.sp_script.specs.declared.error.ScriptKind.TheVariants.{BadLine, NotOpen, Twice, NoAction, UnknownValue, TooMany}
use Rattle.sp_script.specs.declared.ledger.Ledger.{Ledger}
use Rattle.sp_script.specs.declared.ledger.Seat.{Seat}
use Rattle.sp_script.specs.declared.request.Verb.{Verb}
use Rattle.sp_script.specs.declared.request.Verb.TheVariants.{Opening, Asking, Observing, Syncing, Closing}
use Rattle.sp_script.specs.Requests.{Request, is_session_name}
use Rattle.sp_script.specs.Commands.{name_of, verb_of, request_with, is_opening, is_asking, is_observing, is_closing, was_asked, has_answer, opening_count, BreaksAfter, AreCommands}
use Rattle.sp_script.specs.Script.{command_of, IsFirstKind, kinds}
use Rattle.sp_script.specs.Ledger.{seat_by, seat_of, fault_at, seat_after, kept_seat, IsScriptLedger}
use Rattle.sp_script.proofs.SeatLemmas.{Rows, Case, new, taken, first_fault, case_of, no_fault, unknown_first, seat_step, is_some-seat}
use Rattle.sp_script.proofs.CommandLemmas.{commands_more, was_asked-more, has_answer-more, opening_count-more, bytes_same, bytes_self, asks_of-same, asks_of-other}
use Rattle.std.proofs.Math.Bool.{or-false}
use Rattle.std.proofs.lemmas.Bool.{or_left, or_right, false_from_ne_true}

-- ---- the command of a request
verb_in : Option Command → Verb
verb_in None = Opening
verb_in (Some c) = verb_of c

name_in : Option Command → List ℕ
name_in None = []
name_in (Some c) = name_of c

pub command_is : (line : ℕ) (v : Verb) (name : List ℕ) (c : Command) → command_of line (v, name) ≡ Some c → (verb_of c ≡ v) × (name_of c ≡ name) × (v ≢ Observing None)
unfolding verb_in name_in
command_is line Opening name c e = (ap (λ o. verb_in o) (sym e), ap (λ o. name_in o) (sym e), λ h. absurd (cc))
command_is line Asking name c e = (ap (λ o. verb_in o) (sym e), ap (λ o. name_in o) (sym e), λ h. absurd (cc))
command_is line (Observing (Some o)) name c e = (ap (λ o. verb_in o) (sym e), ap (λ o. name_in o) (sym e), λ h. absurd (cc))
command_is line (Observing None) name c e = absurd (cc)
command_is line Syncing name c e = (ap (λ o. verb_in o) (sym e), ap (λ o. name_in o) (sym e), λ h. absurd (cc))
command_is line Closing name c e = (ap (λ o. verb_in o) (sym e), ap (λ o. name_in o) (sym e), λ h. absurd (cc))

pub no_command : (line : ℕ) (v : Verb) (name : List ℕ) → command_of line (v, name) ≡ None → v ≡ Observing None
no_command line (Observing None) name e = refl
no_command line (Observing (Some o)) name e = absurd (cc)
no_command line Opening name e = absurd (cc)
no_command line Asking name e = absurd (cc)
no_command line Syncing name e = absurd (cc)
no_command line Closing name e = absurd (cc)

and-true : (b : Bool) → (b && true) ≡ b
and-true true = refl
and-true false = refl

-- ---- rows
pub to_rows : (before : List Command) (v : Verb) (name : List ℕ) (kind : ScriptKind) → BreaksAfter before (v, name) kind
    → Rows v (was_asked is_opening name before) (was_asked is_closing name before) (has_answer name before) (opening_count before) kind
to_rows before v name BadLine h = h
to_rows before v name NotOpen h = h
to_rows before v name Twice h = h
to_rows before v name NoAction h = h
to_rows before v name UnknownValue h = h
to_rows before v name (TooMany limit) h = h

module _ (l : Ledger) (kept : IsScriptLedger l) (v : Verb) (name : List ℕ) where
  fault_is : fault_at v (kept_seat l name) (index_map_len l.seats) ≡ fault_at v (seat_of name l.commands) (opening_count l.commands)
  fault_is i = fault_at v (kept.seats name i) (kept.count i)

  -- what the seat tells
  pub refused : (kind : ScriptKind) → fault_at v (kept_seat l name) (index_map_len l.seats) ≡ Some kind → IsFirstKind (BreaksAfter l.commands (v, name)) kinds kind
  refused kind e = first_fault v (was_asked is_opening name l.commands) (was_asked is_closing name l.commands) (has_answer name l.commands) (opening_count l.commands) kind (sym fault_is ∙ e)

  pub case_here : fault_at v (kept_seat l name) (index_map_len l.seats) ≡ None → Case v (was_asked is_opening name l.commands) (was_asked is_closing name l.commands) (has_answer name l.commands) (opening_count l.commands)
  case_here e = case_of v (was_asked is_opening name l.commands) (was_asked is_closing name l.commands) (has_answer name l.commands) (opening_count l.commands) (sym fault_is ∙ e)

  pub faultless : fault_at v (kept_seat l name) (index_map_len l.seats) ≡ None → v ≢ Observing None → (kind : ScriptKind) → ¬ BreaksAfter l.commands (v, name) kind
  faultless e known kind h = no_fault v (was_asked is_opening name l.commands) (was_asked is_closing name l.commands) (has_answer name l.commands) (opening_count l.commands) (case_here e) known kind (to_rows l.commands v name kind h)

  pub unknown : fault_at v (kept_seat l name) (index_map_len l.seats) ≡ None → v ≡ Observing None → IsFirstKind (BreaksAfter l.commands (v, name)) kinds UnknownValue
  unknown e is = unknown_first v (was_asked is_opening name l.commands) (was_asked is_closing name l.commands) (has_answer name l.commands) (opening_count l.commands) (case_here e) is

-- ---- what one more command changes
module _ (cs : List Command) (c : Command) (other : List ℕ) where
  module _ (apart : bytes_eq other (name_of c) ≡ false) where
    was_asked-other : (test : Verb → Bool) → was_asked test other (cs ++ c ∷ []) ≡ was_asked test other cs
    was_asked-other test = was_asked-more test other cs c ∙ ap (λ b. was_asked test other cs || b) (asks_of-other test other c apart) ∙ or-false (was_asked test other cs)

    has_answer-other : has_answer other (cs ++ c ∷ []) ≡ has_answer other cs
    has_answer-other = has_answer-more other cs c ∙ (λ i. asks_of-other is_asking other c apart i || (has_answer other cs && not (asks_of-other is_observing other c apart i))) ∙ and-true (has_answer other cs)

    seat_of-other : seat_of other (cs ++ c ∷ []) ≡ seat_of other cs
    seat_of-other i = seat_by (was_asked-other is_opening i) (was_asked-other is_closing i) (has_answer-other i)

  module _ (same : bytes_eq other (name_of c) ≡ true) where
    was_asked-same : (test : Verb → Bool) → was_asked test other (cs ++ c ∷ []) ≡ (was_asked test other cs || test (verb_of c))
    was_asked-same test = was_asked-more test other cs c ∙ ap (λ b. was_asked test other cs || b) (asks_of-same test other c same)

    has_answer-same : has_answer other (cs ++ c ∷ []) ≡ (is_asking (verb_of c) || (has_answer other cs && not (is_observing (verb_of c))))
    has_answer-same = has_answer-more other cs c ∙ (λ i. asks_of-same is_asking other c same i || (has_answer other cs && not (asks_of-same is_observing other c same i)))

    seat_of-same : seat_of other (cs ++ c ∷ []) ≡ seat_by (was_asked is_opening other cs || is_opening (verb_of c)) (was_asked is_closing other cs || is_closing (verb_of c)) (is_asking (verb_of c) || (has_answer other cs && not (is_observing (verb_of c))))
    seat_of-same i = seat_by (was_asked-same is_opening i) (was_asked-same is_closing i) (has_answer-same i)

-- the ledger after a command that may come
module _ (l m : Ledger) (kept : IsScriptLedger l) (c : Command) (fits : fault_at (verb_of c) (kept_seat l (name_of c)) (index_map_len l.seats) ≡ None) (more : m.commands ≡ l.commands ++ c ∷ []) where
  opened_then : (other : List ℕ) → bytes_eq other (name_of c) ≡ true → was_asked is_opening other (l.commands ++ c ∷ []) ≡ true
  opened_then other same = was_asked-same l.commands c other same is_opening ∙ by_case (case_here l kept (verb_of c) (name_of c) fits)
    where
      here : was_asked is_opening other l.commands ≡ was_asked is_opening (name_of c) l.commands
      here = ap (λ name. was_asked is_opening name l.commands) (bytes_same other (name_of c) same)

      by_case : Case (verb_of c) (was_asked is_opening (name_of c) l.commands) (was_asked is_closing (name_of c) l.commands) (has_answer (name_of c) l.commands) (opening_count l.commands)
          → (was_asked is_opening other l.commands || is_opening (verb_of c)) ≡ true
      by_case (new is none few) = ap (λ v. was_asked is_opening other l.commands || is_opening v) is ∙ or_right (was_asked is_opening other l.commands) true refl
      by_case (taken plain is going answered) = or_left (was_asked is_opening other l.commands) (is_opening (verb_of c)) (here ∙ is)

  idle_then : (other : List ℕ) → was_asked is_opening other (l.commands ++ c ∷ []) ≡ false → (was_asked is_closing other (l.commands ++ c ∷ []) ≡ false) × (has_answer other (l.commands ++ c ∷ []) ≡ false)
  idle_then other none = go (bytes_eq other (name_of c)) refl
    where
      go : (b : Bool) → bytes_eq other (name_of c) ≡ b → (was_asked is_closing other (l.commands ++ c ∷ []) ≡ false) × (has_answer other (l.commands ++ c ∷ []) ≡ false)
      go true e = let h = opened_then other e in absurd (cc)
      go false e =
          let (closed, answer) = kept.idle other (sym (was_asked-other l.commands c other e is_opening) ∙ none) in
          (was_asked-other l.commands c other e is_closing ∙ closed, has_answer-other l.commands c other e ∙ answer)

  seat_then : (other : List ℕ) (b : Bool) → bytes_eq (name_of c) other ≡ b → cond b (Some (seat_after (verb_of c) (kept_seat l (name_of c)))) (kept_seat l other) ≡ seat_of other (l.commands ++ c ∷ [])
  seat_then other true e = subst (λ (name : List ℕ). Some (seat_after (verb_of c) (kept_seat l (name_of c))) ≡ seat_of name (l.commands ++ c ∷ [])) (bytes_same (name_of c) other e)
      (ap (λ s. Some (seat_after (verb_of c) s)) (kept.seats (name_of c))
      ∙ seat_step (verb_of c) (was_asked is_opening (name_of c) l.commands) (was_asked is_closing (name_of c) l.commands) (has_answer (name_of c) l.commands) (opening_count l.commands) (sym (fault_is l kept (verb_of c) (name_of c)) ∙ fits) (kept.idle (name_of c))
      ∙ sym (seat_of-same l.commands c (name_of c) (bytes_self (name_of c))))
  seat_then other false e = kept.seats other ∙ sym (seat_of-other l.commands c other (apart e))
    where
      apart : bytes_eq (name_of c) other ≡ false → bytes_eq other (name_of c) ≡ false
      apart f = false_from_ne_true (bytes_eq other (name_of c)) (λ h. let same = bytes_same other (name_of c) h in let g : bytes_eq (name_of c) other ≡ true = ap (λ xs. bytes_eq (name_of c) xs) same ∙ bytes_self (name_of c) in absurd (cc))

  newcomer : Case (verb_of c) (was_asked is_opening (name_of c) l.commands) (was_asked is_closing (name_of c) l.commands) (has_answer (name_of c) l.commands) (opening_count l.commands)
      → cond {A = ℕ} (is_some (kept_seat l (name_of c))) 0 1 ≡ cond {A = ℕ} (is_opening (verb_of c)) 1 0
  newcomer k = ap (λ s. cond {A = ℕ} (is_some s) 0 1) (kept.seats (name_of c)) ∙ ap (λ b. cond {A = ℕ} b 0 1) (is_some-seat (was_asked is_opening (name_of c) l.commands) (was_asked is_closing (name_of c) l.commands) (has_answer (name_of c) l.commands)) ∙ by_case k
    where
      by_case : Case (verb_of c) (was_asked is_opening (name_of c) l.commands) (was_asked is_closing (name_of c) l.commands) (has_answer (name_of c) l.commands) (opening_count l.commands)
          → cond {A = ℕ} (was_asked is_opening (name_of c) l.commands) 0 1 ≡ cond {A = ℕ} (is_opening (verb_of c)) 1 0
      by_case (new is none few) = ap (λ b. cond {A = ℕ} b 0 1) none ∙ ap (λ v. cond {A = ℕ} (is_opening v) 1 0) (sym is)
      by_case (taken plain is going answered) = ap (λ b. cond {A = ℕ} b 0 1) is ∙ ap (λ b. cond {A = ℕ} b 1 0) (sym plain)

  ledger_more : is_session_name (name_of c) ≡ true → ((kind : ScriptKind) → ¬ BreaksAfter l.commands (request_with c) kind)
      → ((other : List ℕ) → kept_seat m other ≡ cond (bytes_eq (name_of c) other) (Some (seat_after (verb_of c) (kept_seat l (name_of c)))) (kept_seat l other))
      → index_map_len m.seats ≡ index_map_len l.seats + cond (is_some (kept_seat l (name_of c))) 0 1 → IsScriptLedger m
  ledger_more named right seats count = record {
    known = subst AreCommands (sym more) (commands_more l.commands c kept.known named right);
    seats = λ other. seats other ∙ seat_then other (bytes_eq (name_of c) other) refl ∙ ap (seat_of other) (sym more);
    count = let opened = opening_count-more l.commands c in let before = kept.count in let grown = newcomer (case_here l kept (verb_of c) (name_of c) fits) in
        let after : opening_count m.commands ≡ opening_count (l.commands ++ c ∷ []) = ap opening_count more in
        omega (arith, count, opened, before, grown, after);
    idle = λ other none. subst (λ (cs : List Command). (was_asked is_closing other cs ≡ false) × (has_answer other cs ≡ false)) (sym more) (idle_then other (ap (was_asked is_opening other) (sym more) ∙ none));
  }

-- ---- a request at the ledger
pub clear : (l : Ledger) (v : Verb) (name : List ℕ) (seat : Option Seat) (count : ℕ) (found : Option ScriptKind) → found ≡ fault_at v seat count → seat ≡ kept_seat l name → count ≡ index_map_len l.seats
    → (want : Option ScriptKind) → found ≡ want → fault_at v (kept_seat l name) (index_map_len l.seats) ≡ want
clear l v name seat count found is at many want told = (λ i. fault_at v (sym at i) (sym many i)) ∙ sym is ∙ told

-- the request's command, where nothing is wrong
module _ (l : Ledger) (kept : IsScriptLedger l) (v : Verb) (name : List ℕ) (line : ℕ) (c : Command) (fits : fault_at v (kept_seat l name) (index_map_len l.seats) ≡ None) (is : command_of line (v, name) ≡ Some c) where
  verb_is : verb_of c ≡ v
  verb_is = (command_is line v name c is).0

  called : name_of c ≡ name
  called = (command_is line v name c is).1

  pub request_right : (kind : ScriptKind) → ¬ BreaksAfter l.commands (v, name) kind
  request_right = faultless l kept v name fits (command_is line v name c is).2

  command_right : (kind : ScriptKind) → ¬ BreaksAfter l.commands (request_with c) kind
  command_right kind = subst (λ (r : Request). ¬ BreaksAfter l.commands r kind) (λ i. (sym verb_is i, sym called i)) (request_right kind)

  module _ (named : is_session_name name ≡ true) where
    command_named : is_session_name (name_of c) ≡ true
    command_named = ap is_session_name called ∙ named

    pub commands_then : AreCommands (l.commands ++ c ∷ [])
    commands_then = commands_more l.commands c kept.known command_named command_right

    pub ledger_then : (m : Ledger) (seat : Seat) → m.commands ≡ l.commands ++ c ∷ [] → seat ≡ seat_after v (kept_seat l name) → ((other : List ℕ) → kept_seat m other ≡ cond (bytes_eq name other) (Some seat) (kept_seat l other))
        → index_map_len m.seats ≡ index_map_len l.seats + cond (is_some (kept_seat l name)) 0 1 → IsScriptLedger m
    ledger_then m seat more set seats count =
        ledger_more l m kept c ((λ i. fault_at (verb_is i) (kept_seat l (called i)) (index_map_len l.seats)) ∙ fits) more command_named command_right
        (λ other. seats other ∙ (λ i. cond (bytes_eq (sym called i) other) (Some ((set ∙ (λ j. seat_after (sym verb_is j) (kept_seat l (sym called j)))) i)) (kept_seat l other)))
        (count ∙ ap (λ n. index_map_len l.seats + cond (is_some (kept_seat l n)) 0 1) (sym called))

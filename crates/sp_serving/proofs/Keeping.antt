-- The sessions of a serving that goes on.
use Rattle.std.proofs.Common.{◌≡◌, ◌≢◌, ◌∙◌, sym, ap, subst, refl, arith, ℕ, zero, suc, ◌+◌, ◌<◌, ◌≤◌, Bool, true, false, cond, List, [], ◌∷◌, ◌++◌, map, length, get_or, take, drop, take-append-drop, set, Some}
use Rattle.std.specs.Prelude.{All, AllPairs, Contains, slice_get}
use Rattle.std.proofs.lemmas.List.{map-append, map-set, get_or-map, length-map, take_more}
use Rattle.std.proofs.lemmas.List.Elements.{All-push, All-nil, All-set}
use Rattle.std.proofs.lemmas.Option.{slice_get_within, get_or_from_slice_get, slice_get-get_or}
use Rattle.sp_theory.specs.Points.{count_of}
use Rattle.sp_theory.specs.Model.{Model}
use Rattle.sp_theory.specs.Logs.{Log, opening_session, session_after}
use Rattle.sp_model.specs.Problem.{problem, sizes_of}
use Rattle.sp_value.specs.Tasks.{TaskParts, IsTask}
use Rattle.sp_session.specs.Sessions.{SessionParts, first_parts}
use Rattle.sp_script.specs.declared.command.Command.{Command}
use Rattle.sp_script.specs.declared.error.ScriptKind.{ScriptKind}
use Rattle.sp_script.specs.Commands.{name_of, verb_of, request_with, is_opening, BreaksAfter, AreCommands}
use Rattle.sp_script.specs.Laws.{IsObservationWithin}
use Rattle.sp_script.specs.Served.{opened_names}
use Rattle.sp_serving.specs.Replies.{Shown, log_after_command, log_with, new_log, logs_with}
use Rattle.sp_serving.specs.Progress.{IsReady}
use Rattle.sp_serving.specs.Serving.{ServingParts, IsServing, IsSeatOf, IsFor, IsRepliedIn, log_in, with_next, after_first}
use Rattle.sp_serving.specs.Kept.{parts_of, IsKeptBy}
use Rattle.sp_serving.proofs.Commanding.{faultless_at}
use Rattle.sp_serving.proofs.Transcripts.{under_way_first}
use Rattle.sp_serving.proofs.Advancing.{command_there, logs_apart, one_replied, seat_is, fits_session, serving_on}

-- ---- before any command
pub first_kept : (t : TaskParts) → IsTask t → (cs : List Command) → AreCommands cs → All (IsObservationWithin (count_of (sizes_of t.model.sights))) cs → IsKeptBy t cs 0 0 []
first_kept t is cs are within = record {
  serving = record { task = is; commands = are; within = within; under = under_way_first (problem t.model) 0 };
  within = omega arith;
  tasks = All-nil (λ session. session.task ≡ t);
}

-- each session may be answered on an edition that is no older
pub seats_of : (t : TaskParts) (cs : List Command) (count newest : ℕ) (sessions : List SessionParts) → IsKeptBy t cs count newest sessions → (k : ℕ) → newest ≤ k → All (IsSeatOf t k) sessions
seats_of t cs count newest sessions kept k later place d less =
    let same : (get_or sessions place d).task ≡ t = kept.tasks place d less in
    let long = length-map sessions log_in in
    let ready : IsReady (problem t.model) (take count cs) newest (log_in (get_or sessions place d)) =
    subst (IsReady (problem t.model) (take count cs) newest) (get_or-map log_in sessions place d (log_in d) less) (kept.serving.under.ready place (log_in d) (omega (arith, long, less))) in
    let low = ready.newest in
    record { task = same; newest = subst (λ (u : TaskParts). (session_after (problem u.model) (opening_session (problem u.model)) (get_or sessions place d).entries).newest ≤ k) (sym same) (omega (arith, low, later)) }

-- ---- names
-- a name that some session has stands at a place
pub named_there : (sessions : List SessionParts) (name : List ℕ) → Contains (map (λ s. s.name) sessions) name → (k : ℕ) × (s : SessionParts) × (k < length sessions) × (slice_get sessions k ≡ Some s) × (s.name ≡ name)
named_there [] name (k, less, is) = absurd (omega (arith, less))
named_there (x ∷ xs) name (zero, less, is) = (0, x, omega arith, refl, is)
named_there (x ∷ xs) name (suc k, less, is) =
    let (j, s, within, at, same) = named_there xs name (k, omega (arith, less), is) in
    (suc j, s, omega (arith, within), at, same)

-- ---- one command
drop_at : (cs : List Command) (count : ℕ) (c : Command) → slice_get cs count ≡ Some c → drop count cs ≡ c ∷ drop (suc count) cs
drop_at [] count c at = absurd (cc)
drop_at (x ∷ cs) zero c at = let same : x ≡ c = cc in ap (λ (d : Command). d ∷ cs) same
drop_at (x ∷ cs) (suc count) c at = drop_at cs count c at

module _ (t : TaskParts) (cs : List Command) (count newest : ℕ) (sessions : List SessionParts) (kept : IsKeptBy t cs count newest sessions) (c : Command) (at : slice_get cs count ≡ Some c) where
  abbrev before : ServingParts
  before = parts_of t cs count newest sessions

  are : AreCommands (take count cs ++ c ∷ drop (suc count) cs)
  are = subst (λ (ds : List Command). AreCommands (take count cs ++ ds)) (drop_at cs count c at) kept.serving.commands

  faultless : (kind : ScriptKind) → ¬ BreaksAfter (take count cs) (request_with c) kind
  faultless = faultless_at (take count cs) c (drop (suc count) cs) are

  within_is : IsObservationWithin (count_of (sizes_of t.model.sights)) c
  within_is =
      let less = slice_get_within cs count c at in
      let whole : All (IsObservationWithin (count_of (sizes_of t.model.sights))) cs = subst (All (IsObservationWithin (count_of (sizes_of t.model.sights)))) (take-append-drop count cs) kept.serving.within in
      subst (IsObservationWithin (count_of (sizes_of t.model.sights))) (get_or_from_slice_get cs count c c at) (whole count c less)

  -- ---- the names of the sessions
  names_are : map (λ (s : SessionParts). s.name) sessions ≡ opened_names (take count cs)
  names_are = same sessions ∙ kept.serving.under.names
    where
      same : (ss : List SessionParts) → map (λ (s : SessionParts). s.name) ss ≡ map (λ (log : Log). log.name) (map log_in ss)
      same [] = refl
      same (s ∷ ss) = ap (λ (ns : List (List ℕ)). s.name ∷ ns) (same ss)

  pub session_there : is_opening (verb_of c) ≡ false → Contains (map (λ s. s.name) sessions) (name_of c)
  session_there plain = subst (λ (names : List (List ℕ)). Contains names (name_of c)) (sym names_are) (command_there (take count cs) c faultless plain)

  -- ---- a session at its place
  module _ (place : ℕ) (s : SessionParts) (less : place < length sessions) (here : get_or sessions place s ≡ s) where
    task_is : s.task ≡ t
    task_is = subst (λ (x : SessionParts). x.task ≡ t) here (kept.tasks place s less)

    log_here : get_or (map log_in sessions) place (log_in s) ≡ log_in s
    log_here = get_or-map log_in sessions place s (log_in s) less ∙ ap log_in here

    log_less : place < length (map log_in sessions)
    log_less = let long = length-map sessions log_in in omega (arith, long, less)

    ready : IsReady (problem t.model) (take count cs) newest (log_in s)
    ready = subst (IsReady (problem t.model) (take count cs) newest) log_here (kept.serving.under.ready place (log_in s) log_less)

    seat_here : (k : ℕ) → newest ≤ k → IsSeatOf t k s
    seat_here = seat_is t (take count cs) newest c faultless s task_is ready

    fit_here : s.name ≡ name_of c → IsFor s c
    fit_here name = fits_session t (take count cs) newest c faultless s task_is ready name within_is

    -- the logs after its reply
    logs_replied : is_opening (verb_of c) ≡ false → s.name ≡ name_of c → (shown : Shown) (after : SessionParts) → log_in after ≡ log_after_command (problem t.model) shown c (log_in s)
        → map log_in (set sessions place after) ≡ logs_with (problem t.model) shown (map log_in sessions) c
    logs_replied plain name shown after is =
        map-set log_in sessions place after
        ∙ ap (set (map log_in sessions) place) is
        ∙ one_replied (problem t.model) shown c (map log_in sessions) place (log_in s) log_less log_here name (logs_apart (problem t.model) (take count cs) (drop count cs) newest (map log_in sessions) kept.serving.commands kept.serving.under)
        ∙ sym (ap (λ (b : Bool). cond b (map log_in sessions ++ new_log c ∷ []) (map (log_with (problem t.model) shown c) (map log_in sessions))) plain)

    tasks_kept : (after : SessionParts) → after.task ≡ s.task → All (λ x. x.task ≡ t) (set sessions place after)
    tasks_kept after same = All-set (λ (x : SessionParts). x.task ≡ t) sessions place after (same ∙ task_is) kept.tasks

  at_place : (k : ℕ) (d : SessionParts) → k < length sessions → get_or sessions k (get_or sessions k d) ≡ get_or sessions k d
  at_place k d less = get_or_from_slice_get sessions k (get_or sessions k d) (get_or sessions k d) (slice_get-get_or sessions k d less)

  -- each session may be answered on an edition that is no older
  pub all_seats : (k : ℕ) → newest ≤ k → All (IsSeatOf t k) sessions
  all_seats k later place d less = seat_here place (get_or sessions place d) less (at_place place d less) k later

  pub all_fit : All (λ s. s.name ≡ name_of c → IsFor s c) sessions
  all_fit place d less = fit_here place (get_or sessions place d) less (at_place place d less)

  -- ---- an opening
  pub logs_opened : is_opening (verb_of c) ≡ true → (shown : Shown) → map log_in (sessions ++ first_parts (name_of c) t ∷ []) ≡ logs_with (problem t.model) shown (map log_in sessions) c
  logs_opened opens shown =
      map-append log_in sessions (first_parts (name_of c) t ∷ [])
      ∙ sym (ap (λ (b : Bool). cond b (map log_in sessions ++ new_log c ∷ []) (map (log_with (problem t.model) shown c) (map log_in sessions))) opens)

  pub tasks_opened : All (λ x. x.task ≡ t) (sessions ++ first_parts (name_of c) t ∷ [])
  tasks_opened = All-push (λ (x : SessionParts). x.task ≡ t) sessions (first_parts (name_of c) t) kept.tasks refl

  -- ---- the sessions afterwards
  pub given_next : (shown : Shown) (after : List SessionParts) → (is_opening (verb_of c) ≡ true → after ≡ sessions ++ first_parts (name_of c) t ∷ []) → (is_opening (verb_of c) ≡ false → IsRepliedIn shown c sessions after)
      → (map log_in after ≡ logs_with (problem t.model) shown (map log_in sessions) c) × All (λ x. x.task ≡ t) after
  given_next shown after opened replies = by_opening (is_opening (verb_of c)) refl
    where
      by_opening : (b : Bool) → is_opening (verb_of c) ≡ b → (map log_in after ≡ logs_with (problem t.model) shown (map log_in sessions) c) × All (λ x. x.task ≡ t) after
      by_opening true e = (ap (map log_in) (opened e) ∙ logs_opened e shown, subst (All (λ x. x.task ≡ t)) (sym (opened e)) tasks_opened)
      by_opening false e =
          let r = replies e in (
            ap (map log_in) r.is
                ∙ logs_replied r.place r.before r.within r.there e r.name shown r.reply (subst (λ (u : TaskParts). log_in r.reply ≡ log_after_command (problem u.model) shown c (log_in r.before)) (task_is r.place r.before r.within r.there) r.log),
            subst (All (λ x. x.task ≡ t)) (sym r.is) (tasks_kept r.place r.before r.within r.there r.reply r.task),
          )

  -- ---- the serving afterwards
  module _ (shown : Shown) (later : newest ≤ shown.0) (after : List SessionParts) (logs : map log_in after ≡ logs_with (problem t.model) shown (map log_in sessions) c) where
    pub next_is : parts_of t cs (count + 1) shown.0 after ≡ with_next before shown
    next_is =
        let less = slice_get_within cs count c at in
        let served = take_more cs count c less ∙ ap (λ (d : Command). take count cs ++ d ∷ []) (get_or_from_slice_get cs count c c at) in
        let more : count + 1 ≡ suc count = omega arith in
        (λ i. record { task = t; served = served i; left = drop (more i) cs; newest = shown.0; logs = logs i })
        ∙ ap (after_first before shown) (sym (drop_at cs count c at))

    pub kept_next : All (λ x. x.task ≡ t) after → IsKeptBy t cs (count + 1) shown.0 after
    kept_next tasks = record {
      serving = subst IsServing (sym next_is) (subst (λ (ds : List Command). IsServing (after_first before shown ds)) (sym (drop_at cs count c at)) (serving_on before kept.serving shown later c (drop (suc count) cs) (drop_at cs count c at)));
      within = let less = slice_get_within cs count c at in omega (arith, less);
      tasks = tasks;
    }

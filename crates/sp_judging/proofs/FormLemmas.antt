-- What the form of a plan file tells of its events, its logs and its values.
use Rattle.std.proofs.Common.{◌≡◌, arith, ℕ, suc, ◌<◌, List, [], ◌∷◌, length, map, Option, Some, None}
use Rattle.std.specs.Prelude.{ℤ, slice_get}
use Rattle.std.specs.List.{AllByRecursion}
use Rattle.std.proofs.lemmas.List.{length-map}
use Rattle.std.proofs.lemmas.List.Elements.{All-nil, All-cons}
use Rattle.std.proofs.lemmas.Option.{slice_get_within}
use Rattle.sp_theory.specs.Points.{count_of}
use Rattle.sp_theory.specs.Model.{Model}
use Rattle.sp_theory.specs.Book.{Task, Event, settle, publish, prune, end, opening}
use Rattle.sp_theory.specs.Logs.{Entry, told, act, observe, unseen, closing, Log}
use Rattle.sp_theory.proofs.BooksAgreement.{editions-length}
use Rattle.sp_model.specs.Problem.{problem, sizes_of}
use Rattle.sp_value.specs.declared.events.Event as declared
use Rattle.sp_value.specs.Events.{events_of}
use Rattle.sp_value.specs.Tasks.{TaskParts, task_of}
use Rattle.sp_value.specs.Editions.{members_in}
use Rattle.sp_session.specs.declared.logs.SessionLog.{SessionLog}
use Rattle.sp_session.specs.Logs.{logs_of, log_of}
use Rattle.sp_planfile.specs.Form.{IsEventInForm, IsEntryInForm, IsLogInForm, AreValuesOfEditions, edition_count}
use Rattle.sp_planning.proofs.Parts.{edition_total}
use Rattle.sp_faults.specs.RunFaults.{AreSettlesSampled}
use Rattle.sp_faults.specs.LogFaults.{AreSeen}
use Rattle.sp_filed.specs.Files.{IsPlanFile}
use Rattle.sp_audit.specs.Logs.{AreAllSeen}
use Rattle.sp_audit.specs.ReplayParts.{ReplayParts}
use Rattle.sp_audit.specs.Replays.{IsReplayOf}
use Rattle.sp_audit.specs.Verdicts.{run_editions, AreWrong}
use Rattle.sp_faults.specs.Clauses.{Clause}
use Rattle.sp_judging.specs.PlanFiles.{AreAsMany}

-- ---- events and entries
sampled : (t : Task) (actions joint : ℕ) (es : List Event) → AllByRecursion (IsEventInForm t.beliefs actions joint) es → AreSettlesSampled t es
sampled t actions joint [] all = tt
sampled t actions joint (settle k e a links ∷ es) all = (all.0.0, sampled t actions joint es all.1)
sampled t actions joint (publish ∷ es) all = sampled t actions joint es all.1
sampled t actions joint (prune pairs ∷ es) all = sampled t actions joint es all.1
sampled t actions joint (end ∷ es) all = sampled t actions joint es all.1

seen_in : (m : Model) (actions : ℕ) (xs : List Entry) → AllByRecursion (IsEntryInForm actions (count_of m.sight_sizes)) xs → AreSeen m xs
seen_in m actions [] all = tt
seen_in m actions (told e ∷ xs) all = seen_in m actions xs all.1
seen_in m actions (act e id a ∷ xs) all = seen_in m actions xs all.1
seen_in m actions (observe o ∷ xs) all = (all.0, seen_in m actions xs all.1)
seen_in m actions (unseen o ∷ xs) all = (all.0, seen_in m actions xs all.1)
seen_in m actions (closing e id a ∷ xs) all = seen_in m actions xs all.1

seen : (m : Model) (actions : ℕ) (ls : List Log) → AllByRecursion (IsLogInForm actions (count_of m.sight_sizes)) ls → AreAllSeen m ls
seen m actions [] all = All-nil (λ (log : Log). AreSeen m log.entries)
seen m actions (l ∷ ls) all = All-cons (λ (log : Log). AreSeen m log.entries) l ls (seen_in m actions l.entries all.0.entries) (seen m actions ls all.1)

-- an item of a list of images
log_there : (logs : List SessionLog) (k : ℕ) (l : Log) → slice_get (logs_of logs) k ≡ Some l → k < length logs
log_there logs k l at = let within = slice_get_within (logs_of logs) k l at in let long = length-map logs log_of in omega (arith, within, long)

module _ (source : List ℕ) (t : TaskParts) (events : List declared.Event) (values : Option (List ℤ)) (transcript : List SessionLog) (file : IsPlanFile source t events values transcript) where
  pub form_is_sampled : AreSettlesSampled (task_of t) (events_of events)
  form_is_sampled = sampled (task_of t) (length t.model.actions) (count_of (sizes_of t.model.sights)) (events_of events) file.form.events

  pub form_is_seen : AreAllSeen (problem t.model) (logs_of transcript)
  unfolding problem
  form_is_seen = seen (problem t.model) (length t.model.actions) (logs_of transcript) file.form.logs

  pub edition_number : length (run_editions (task_of t) (events_of events)) ≡ suc (edition_count (events_of events))
  unfolding opening
  edition_number = let total = edition_total (task_of t) (opening (task_of t)) (events_of events) in omega (arith, total)

  pub as_many : (r : ReplayParts) → IsReplayOf t (events_of events) r → AreAsMany values r
  as_many r is = by_values values file.form.values
    where
      long : length r.editions ≡ suc (edition_count (events_of events))
      long = let agree = editions-length (problem t.model) (map members_in r.editions) (run_editions (task_of t) (events_of events)) is.editions in
          let number = edition_number in
          let images = length-map r.editions members_in in
          omega (arith, agree, number, images)

      by_values : (all : Option (List ℤ)) → AreValuesOfEditions (events_of events) all → AreAsMany all r
      by_values None are = tt
      by_values (Some all) are = let count = are.0 in let wide = long in omega (arith, count, wide)

-- the log of a wrong entry is there
pub wrong_log_there : (t : Task) (es : List Event) (transcript : List SessionLog) (place n : ℕ) (c : Clause) → AreWrong t es (logs_of transcript) (Some place) n c → place < length transcript
wrong_log_there t es transcript place n c (run, i, is, wrong) = log_there transcript place wrong.log wrong.stands

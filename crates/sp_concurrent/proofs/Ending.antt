-- From desks that are opened to the logs of the whole script, and to the file.
use Rattle.std.proofs.Common.{◌≡◌, ◌∙◌, sym, ap, subst, refl, arith, ℕ, zero, suc, ◌-◌, ◌<◌, true, false, List, [], ◌∷◌, ◌++◌, length, get_or, Some, slice_get}
use mathlib.Core.List.{IsPrefix}
use Rattle.std.specs.Prelude.{◌≤◌, All, Contains, IfOk, Result, Ok, Err, map, max, min}
use Rattle.std.proofs.Math.Nat.{max-le, le-max_right, min-le_right}
use Rattle.std.specs.List.{AllZip}
use Rattle.std.proofs.lemmas.List.{get_or-map, length-map}
use Rattle.std.proofs.lemmas.List.Elements.{All-contains, All-filter, All-weaker}
use Rattle.std.proofs.lemmas.Option.{get_or_from_slice_get}
use Rattle.sp_theory.specs.Points.{count_of}
use Rattle.sp_theory.specs.Agreement.{AllAgree}
use Rattle.sp_theory.specs.Book as theory
use Rattle.sp_theory.specs.Runs.{replay}
use Rattle.sp_theory.specs.Logs.{Log, IsLegalLog, IsLegalTranscript}
use Rattle.sp_model.specs.declared.parts.Parts.{Parts}
use Rattle.sp_model.specs.Problem.{problem, sizes_of}
use Rattle.sp_value.specs.declared.tasks.Options.{Options}
use Rattle.sp_value.specs.Tasks.{TaskParts, task_of}
use Rattle.sp_value.specs.Editions.{EditionParts, members_in}
use Rattle.sp_choose.specs.Machines.{Machine}
use Rattle.sp_core.specs.Books.{BookParts, IsBook, state_of}
use Rattle.sp_core.specs.Opening.{first_parts}
use Rattle.sp_planner.specs.Planned.{IsTaskFor, IsTrusted}
use Rattle.sp_planner.proofs.Finished.{finished_trusted}
use Rattle.sp_publish.specs.Published.{PublishedList, IsOfTask}
use Rattle.sp_publish.specs.Names.{no_task}
use Rattle.sp_publish.proofs.Prefixes.{prefix_self}
use Rattle.sp_session.specs.declared.logs.SessionLog.{SessionLog}
use Rattle.sp_session.specs.Logs.{logs_of}
use Rattle.sp_script.specs.declared.command.Command.{Command}
use Rattle.sp_script.specs.Commands.{name_of}
use Rattle.sp_script.specs.Laws.{IsObservationWithin}
use Rattle.sp_script.specs.Served.{opened_names, AreServed}
use Rattle.sp_serving.specs.Serving.{HasEntriesOf}
use Rattle.sp_desk.specs.Desks.{DeskParts}
use Rattle.sp_desk.specs.Ended.{AreClosedOn, AreLegalOver}
use Rattle.sp_desk.specs.Runs.{DeskRunParts, IsDeskRun, work_of}
use Rattle.sp_desk.proofs.Legality.{runs_serve}
use Rattle.sp_planfile.specs.PlanText.{plan_text}
use Rattle.sp_planfile.specs.Form.{IsInForm}
use Rattle.sp_planning.specs.ScriptFiles.{scripted_contents}
use Rattle.sp_planning.specs.BookFiles.{IsBookFile}
use Rattle.sp_planning.specs.RunFiles.{IsRunFileFor}
use Rattle.sp_concurrent.specs.declared.opening.Opened.{Opened}
use Rattle.sp_concurrent.specs.declared.planning.Ended.{Ended}
use Rattle.sp_workers.specs.Shared.{IsBeginning}
use Rattle.sp_concurrent.specs.Deals.{is_at, hand_of, AreHands}
use Rattle.sp_concurrent.specs.Gathered.{log_names, logs_at, IsAmong}
use Rattle.sp_concurrent.specs.Served.{known_of, AreOfList, AreOpened, HasEnded, IsClosed, AreServedBeside}
use Rattle.sp_concurrent.proofs.Parts.{parts_serve}

-- ---- two lists beside each other
module _ {A B : Type 0} (R : A → B → Type 0) where
  zip_length : (xs : List A) (ys : List B) → AllZip R xs ys → length xs ≡ length ys
  zip_length [] [] all = refl
  zip_length [] (y ∷ ys) all = absurd all
  zip_length (x ∷ xs) [] all = absurd all
  zip_length (x ∷ xs) (y ∷ ys) all = ap suc (zip_length xs ys all.1)

  zip_at : (xs : List A) (ys : List B) (i : ℕ) (d : A) (e : B) → AllZip R xs ys → i < length xs → R (get_or xs i d) (get_or ys i e)
  zip_at [] ys i d e all less = absurd (omega (arith, less))
  zip_at (x ∷ xs) [] i d e all less = absurd all
  zip_at (x ∷ xs) (y ∷ ys) zero d e all less = all.0
  zip_at (x ∷ xs) (y ∷ ys) (suc i) d e all less = zip_at xs ys i d e all.1 (omega (arith, less))

  pub zip_push : (xs : List A) (ys : List B) (x : A) (y : B) → AllZip R xs ys → R x y → AllZip R (xs ++ x ∷ []) (ys ++ y ∷ [])
  zip_push [] [] x y all last = (last, tt)
  zip_push [] (z ∷ ys) x y all last = absurd all
  zip_push (z ∷ xs) [] x y all last = absurd all
  zip_push (z ∷ xs) (w ∷ ys) x y all last = (all.0, zip_push xs ys x y all.1 last)

-- ---- the opening
-- edition 0 of a book without events
pub first_edition_is : (b : BookParts) (e : EditionParts) → b ≡ first_parts b.task → slice_get b.editions (length b.editions - 1) ≡ Some e → (b.editions ≡ e ∷ []) × (e.number ≡ 0) × (e.task ≡ b.task)
first_edition_is b e is at =
    let editions : b.editions ≡ (first_parts b.task).editions = ap (λ (x : BookParts). x.editions) is in
    let there : slice_get (first_parts b.task).editions 0 ≡ Some e = subst (λ (es : List EditionParts). slice_get es (length es - 1) ≡ Some e) editions at in
    let same : get_or (first_parts b.task).editions 0 e ≡ e = get_or_from_slice_get (first_parts b.task).editions 0 e e there in
    (editions ∙ ap (λ (x : EditionParts). x ∷ []) same, ap (λ (x : EditionParts). x.number) (sym same), ap (λ (x : EditionParts). x.task) (sym same))

-- a list of one edition is of its task
pub one_of_task : (p : PublishedList) (e : EditionParts) (t : TaskParts) → p.editions ≡ e ∷ [] → e.task ≡ t → IsOfTask p t
one_of_task p e t alone of x opens =
    let at : slice_get (e ∷ []) 0 ≡ Some x = subst (λ (es : List EditionParts). slice_get es 0 ≡ Some x) alone opens in
    let same : e ≡ x = cc in
    ap (λ (y : EditionParts). y.task) (sym same) ∙ of

-- the commands of each hand are among all
pub hands_within : (desk : List ℕ → ℕ) (n : ℕ) (cs : List Command) (hands : List (List Command)) → AreHands desk n cs hands → (m : ℕ) → All (IsObservationWithin m) cs → All (All (IsObservationWithin m)) hands
hands_within desk n cs hands are m all k x less =
    subst (All (IsObservationWithin m)) (sym (are.each k x (subst (λ (j : ℕ). k < j) are.count less)))
    (All-filter (λ (c : Command). is_at desk k (name_of c)) (IsObservationWithin m) cs all)

pub opened_is : (b : BookParts) (hands : List (List Command)) (o : Opened) (p : PublishedList) (e : EditionParts) → b.editions ≡ e ∷ [] → p.editions ≡ e ∷ [] → p.ended ≡ false → o.publisher ≡ p → o.first ≡ p
    → map work_of o.runs.items ≡ map (λ cs. (cs, b.task)) hands → (viewers : List PublishedList) → All (λ v. v ≡ p) viewers → All (λ r. Contains viewers (known_of r)) o.runs.items → AreOpened b hands o
opened_is b hands o p e whole alone going publisher first work viewers same known = record {
  editions = ap (λ (q : PublishedList). q.editions) publisher ∙ alone ∙ sym whole;
  going = ap (λ (q : PublishedList). q.ended) publisher ∙ going;
  first = ap (λ (q : PublishedList). q.list) first ∙ sym (ap (λ (q : PublishedList). q.list) publisher);
  work = work;
  list = λ k d less.
      ap (λ (q : PublishedList). q.list) (All-contains (λ (v : PublishedList). v ≡ p) viewers (known_of (get_or o.runs.items k d)) same (known k d less))
      ∙ sym (ap (λ (q : PublishedList). q.list) publisher);
}

module _ (b : BookParts) (hands : List (List Command)) (o : Opened) (opened : AreOpened b hands o) where
  pub opened_begins : IsBeginning o.publisher b
  opened_begins = record {
    editions = subst (λ (es : List EditionParts). IsPrefix o.publisher.editions es) opened.editions (prefix_self o.publisher.editions);
    going = opened.going;
  }

  pub opened_some : b ≡ first_parts b.task → 0 < length o.publisher.editions
  opened_some is =
      let one : length o.publisher.editions ≡ 1 = ap (λ (es : List EditionParts). length es) opened.editions ∙ ap (λ (x : BookParts). length x.editions) is in
      omega (arith, one)

-- there is a desk, and there are no more than eight
pub some_desks : (n k : ℕ) → n ≡ max (min k 8) 1 → 1 ≤ n
some_desks n k is = subst (λ (m : ℕ). 1 ≤ m) (sym is) (le-max_right (min k 8) 1)

pub few_desks : (n k : ℕ) → n ≡ max (min k 8) 1 → n ≤ 8
few_desks n k is = subst (λ (m : ℕ). m ≤ 8) (sym is) (max-le (min-le_right k 8) (omega arith))

-- ---- one desk
pub closed_is : (end : PublishedList) (first run : DeskRunParts) (logs : List SessionLog) → work_of run ≡ work_of first → IsDeskRun run → run.served ≡ length run.commands
    → AreClosedOn run.desk.seats end (logs_of logs) → AreLegalOver run.desk.task end (logs_of logs) → All (HasEntriesOf run.desk.task.model) (logs_of logs) → IsClosed end first logs
closed_is end first run logs work is whole closed legal entries =
    let commands : run.commands ≡ first.commands = ap (λ (w : List Command × TaskParts). w.0) work in
    let task : run.desk.task ≡ first.desk.task = ap (λ (w : List Command × TaskParts). w.1) work in
    record {
      served = subst (λ (cs : List Command). AreServed cs (logs_of logs)) commands (subst (AreServed run.commands) (sym closed.2) (runs_serve run closed.0 is whole));
      legal = subst (λ (t : TaskParts). AreLegalOver t end (logs_of logs)) task legal;
      entries = subst (λ (t : TaskParts). All (HasEntriesOf t.model) (logs_of logs)) task entries;
    }

-- the same where there was memory for them
pub closed_if : {E : Type 0} (r : Result (List SessionLog) E) (end : PublishedList) (first run : DeskRunParts) (desk : DeskParts) → desk ≡ run.desk
    → work_of run ≡ work_of first → IsDeskRun run → run.served ≡ length run.commands
    → IfOk r (λ logs. AreClosedOn desk.seats end (logs_of logs)) → IfOk r (λ logs. AreLegalOver desk.task end (logs_of logs))
    → IfOk r (λ logs. All (HasEntriesOf desk.task.model) (logs_of logs)) → IfOk r (IsClosed end first)
closed_if (Ok logs) end first run desk same work is whole closed legal entries =
    closed_is end first run logs work is whole
    (subst (λ (d : DeskParts). AreClosedOn d.seats end (logs_of logs)) same closed)
    (subst (λ (d : DeskParts). AreLegalOver d.task end (logs_of logs)) same legal)
    (subst (λ (d : DeskParts). All (HasEntriesOf d.task.model) (logs_of logs)) same entries)
closed_if (Err e) end first run desk same work is whole closed legal entries = tt

-- what stands past the end of desks
no_run : DeskRunParts
no_run = record {
  desk = record { task = no_task; known = record { list = record { number = 0; log_name = 0; cells_name = 0 }; editions = []; ended = false }; seats = [] };
  commands = [];
  served = 0;
}

-- ---- all desks
module _ (desk : List ℕ → ℕ) (n : ℕ) (cs : List Command) (hands : List (List Command)) (are : AreHands desk n cs hands) (b : BookParts) (o : Opened) (opened : AreOpened b hands o)
    (e : Ended) (ended : HasEnded b o.publisher.list o.runs.items e) where
  run_count : length o.runs.items ≡ n
  run_count =
      sym (length-map o.runs.items work_of) ∙ ap (λ (ws : List (List Command × TaskParts)). length ws) opened.work
      ∙ length-map hands (λ (ds : List Command). (ds, b.task)) ∙ are.count

  pub desks_of_list : AreOfList e.end.list e.runs.items
  desks_of_list k d less =
      let below : k < length o.runs.items = subst (λ (m : ℕ). k < m) ended.count less in
      (ended.later k d below).known.list ∙ opened.list k d below ∙ sym ended.list

  module _ (queues : List (List SessionLog)) (closed : AllZip (IsClosed e.end) e.runs.items queues) where
    pub queue_count : length queues ≡ n
    queue_count = sym (zip_length (IsClosed e.end) e.runs.items queues closed) ∙ ended.count ∙ run_count

    module _ (d : ℕ) (less : d < n) where
      in_runs : d < length o.runs.items
      in_runs = subst (λ (m : ℕ). d < m) (sym run_count) less

      in_hands : d < length hands
      in_hands = subst (λ (m : ℕ). d < m) (sym are.count) less

      work_at : work_of (get_or e.runs.items d no_run) ≡ (hand_of desk cs d, b.task)
      work_at =
          (ended.later d no_run in_runs).work
          ∙ sym (get_or-map work_of o.runs.items d no_run ([], b.task) in_runs)
          ∙ ap (λ (ws : List (List Command × TaskParts)). get_or ws d ([], b.task)) opened.work
          ∙ get_or-map (λ (ds : List Command). (ds, b.task)) hands d [] ([], b.task) in_hands
          ∙ ap (λ (ds : List Command). (ds, b.task)) (are.each d [] less)

      closed_at : IsClosed e.end (get_or e.runs.items d no_run) (get_or queues d [])
      closed_at = zip_at (IsClosed e.end) e.runs.items queues d no_run [] closed (subst (λ (m : ℕ). d < m) (sym (ended.count ∙ run_count)) less)

      pub served_at : AreServed (hand_of desk cs d) (logs_at queues d)
      served_at = subst (λ (ds : List Command). AreServed ds (logs_at queues d)) (ap (λ (w : List Command × TaskParts). w.0) work_at) closed_at.served

      task_at : (get_or e.runs.items d no_run).desk.task ≡ e.book.task
      task_at = ap (λ (w : List Command × TaskParts). w.1) work_at ∙ sym ended.task

      legal_at : AreLegalOver e.book.task e.end (logs_at queues d)
      legal_at = subst (λ (t : TaskParts). AreLegalOver t e.end (logs_at queues d)) task_at closed_at.legal

      entries_at : All (HasEntriesOf e.book.task.model) (logs_at queues d)
      entries_at = subst (λ (t : TaskParts). All (HasEntriesOf t.model) (logs_at queues d)) task_at closed_at.entries

    -- the editions of the ended list are those of the run
    agree : AllAgree (problem e.book.task.model) (map members_in e.end.editions) (theory.editions (state_of e.book))
    agree = subst (λ (es : List EditionParts). AllAgree (problem e.book.task.model) (map members_in es) (theory.editions (state_of e.book))) (sym ended.editions) ended.known.editions

    pub all_served : (all : List Log) → log_names all ≡ opened_names cs → All (IsAmong n (logs_at queues)) all → AreServedBeside e.book cs all
    all_served all names among = record {
      served = parts_serve desk n cs (logs_at queues) all served_at names among;
      legal = All-weaker (IsAmong n (logs_at queues)) (λ (log : Log). IsLegalLog (problem e.book.task.model) (theory.editions (state_of e.book)) log.entries)
          (λ log is.
          let (d, below, there) = is in
          All-contains (λ (x : Log). IsLegalLog (problem e.book.task.model) (theory.editions (state_of e.book)) x.entries) (logs_at queues d) log (legal_at d below (theory.editions (state_of e.book)) agree) there) all among;
      entries = All-weaker (IsAmong n (logs_at queues)) (HasEntriesOf e.book.task.model)
          (λ log is. let (d, below, there) = is in All-contains (HasEntriesOf e.book.task.model) (logs_at queues d) log (entries_at d below) there) all among;
    }

-- ---- the file
pub run_file_is : (p : Parts) (o : Options) (chooser : Machine) (cs : List Command) (t : TaskParts) (b : BookParts) (transcript : List SessionLog) (text : List ℕ)
    → IsTaskFor p o chooser t → b.task ≡ t → IsBook b → (state_of b).done ≡ true → AreServedBeside b cs (logs_of transcript) → IsBookFile b transcript text → IsRunFileFor p o chooser cs text
run_file_is p o chooser cs t b transcript text task same is done served f =
    let sampled : IsTaskFor p o chooser b.task = subst (IsTaskFor p o chooser) (sym same) task in
    record {
      task = b.task;
      events = f.events;
      transcript = transcript;
      sampled = sampled;
      trusted = subst (IsTrusted (task_of b.task)) (sym f.history) (finished_trusted b is done);
      legal = subst (λ (es : List theory.Event). IsLegalTranscript (problem b.task.model) (theory.editions (replay (task_of b.task) (theory.opening (task_of b.task)) es)) (logs_of transcript)) (sym f.history) served.legal;
      served = served.served;
      form = subst (λ (m : Parts). IsInForm (length m.actions) (count_of (sizes_of m.sights)) (scripted_contents m b.task f.events transcript)) sampled.model f.form;
      is = f.is ∙ (λ h. plan_text (scripted_contents (sampled.model h) b.task f.events transcript));
    }

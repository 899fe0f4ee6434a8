-- Scripts that are served while a run is planned, or on its last edition.
use Rattle.std.proofs.Common.{◌≡◌, ◌∙◌, sym, ap, subst, refl, arith, ℕ, List, [], ◌∷◌, length, length-append, append-nil, get_or, Some}
use Rattle.std.specs.Prelude.{ℤ, All}
use Rattle.std.proofs.Math.Seq.{get_or-append_seam}
use Rattle.sp_theory.specs.Points.{count_of}
use Rattle.sp_theory.specs.Values.{Edition}
use Rattle.sp_theory.specs.Agreement.{EditionsAgree}
use Rattle.sp_theory.specs.Book as theory
use Rattle.sp_theory.specs.Runs.{replay}
use Rattle.sp_theory.specs.Logs.{Log}
use Rattle.sp_model.specs.declared.parts.Parts.{Parts}
use Rattle.sp_model.specs.Problem.{problem, sizes_of}
use Rattle.sp_value.specs.Tasks.{TaskParts, task_of}
use Rattle.sp_value.specs.Editions.{EditionParts, members_in}
use Rattle.sp_value.specs.declared.tasks.Options.{Options}
use Rattle.sp_choose.specs.Machines.{Machine}
use Rattle.sp_script.specs.declared.command.Command.{Command}
use Rattle.sp_script.specs.Commands.{AreCommands}
use Rattle.sp_script.specs.Laws.{IsObservationWithin}
use Rattle.sp_serving.specs.Replies.{newest_of, transcript_of}
use Rattle.sp_serving.specs.Serving.{shown_in}
use Rattle.sp_serving.proofs.Transcripts.{transcripts_serve, transcripts_are_legal, transcripts_agree, names_are_different}
use Rattle.sp_attending.proofs.Leading.{some_edition, leads_show}
use Rattle.sp_reader.specs.Sources.{Reads}
use Rattle.sp_reader.proofs.SourceLemmas.{one_meaning}
use Rattle.sp_planfile.specs.ModelText.{model_bytes}
use Rattle.sp_planfile.specs.Contents.{Contents, contents_of}
use Rattle.sp_planfile.specs.PlanText.{plan_text, sessions_text}
use Rattle.sp_planfile.specs.Form.{IsInForm}
use Rattle.sp_planfile.proofs.Whole.{text_tells}
use Rattle.sp_planning.specs.PlanFiles as planning
use Rattle.sp_planning.specs.ScriptFiles.{scripted_contents, IsScriptFileFor}
use Rattle.sp_planning.specs.RunFiles.{IsRunFileFor}
use Rattle.sp_audit.specs.Replays.{IsLastEdition}
use Rattle.sp_judging.specs.ActTexts.{last_logs, IsActText}
use Rattle.sp_judging.specs.Laws.{OneRunFile, OneScriptFile, RunFilesAreLegal, ScriptFilesAreLegal}

-- ---- on the last edition
-- the book to which events lead
abbrev book_after : TaskParts → List theory.Event → theory.Book
book_after t es = replay (task_of t) (theory.opening (task_of t)) es

module _ (t : TaskParts) (es : List theory.Event) (e : EditionParts) (last : IsLastEdition t es e) where
  number : e.number ≡ length (book_after t es).earlier
  number = let most = last.last in let long = length-append (book_after t es).earlier ((book_after t es).latest ∷ []) in omega (arith, most, long)

  members : EditionsAgree (problem t.model) (members_in e) (book_after t es).latest
  members =
      subst (λ (x : Edition). EditionsAgree (problem t.model) (members_in e) x)
      (ap (λ (n : ℕ). get_or (theory.editions (book_after t es)) n []) number ∙ get_or-append_seam (book_after t es).earlier (book_after t es).latest [] []) last.members

  logs_are : (cs : List Command) → transcript_of (problem e.task.model) [] (shown_in e) cs ≡ last_logs t es cs
  logs_are cs = (λ i. transcript_of (problem (last.task i).model) [] (shown_in e) cs) ∙ transcripts_agree (problem t.model) [] [] (shown_in e) (newest_of (book_after t es)) tt number members cs

  pub act_text_is : (cs : List Command) → AreCommands cs → All (IsObservationWithin (count_of (sizes_of t.model.sights))) cs → (logs : List Log) → logs ≡ transcript_of (problem e.task.model) [] (shown_in e) cs
      → (text : List ℕ) → text ≡ sessions_text logs → IsActText t es cs text
  unfolding problem
  act_text_is cs are within logs served text is = record {
    legal = transcripts_are_legal (problem t.model) (theory.editions (book_after t es)) [] (newest_of (book_after t es)) cs are within (leads_show (task_of t) 0 es [] es ([], sym (append-nil es)) (some_edition (task_of t) es));
    served = transcripts_serve (problem t.model) [] (newest_of (book_after t es)) cs are;
    different = names_are_different (problem t.model) [] (newest_of (book_after t es)) cs are;
    is = is ∙ ap sessions_text (served ∙ logs_are cs);
  }

-- ---- while it is planned
pub run_files_are_legal : RunFilesAreLegal
run_files_are_legal p o chooser cs text f reads =
    let t : TaskParts = f.task in
    let is : t.model ≡ p = f.sampled.model in
    let told : List ℤ = planning.values_after t f.events in
    record {
      file = record {
        text = f.is ∙ ap (λ (m : Parts). plan_text (contents_of (model_bytes m) t f.events (Some told) f.transcript)) (sym is);
        task = f.sampled.is_task;
        reads = subst (λ (m : Parts). Reads (model_bytes m) m) (sym is) reads;
        form = subst (λ (m : Parts). IsInForm (length m.actions) (count_of (sizes_of m.sights)) (contents_of (model_bytes m) t f.events (Some told) f.transcript)) (sym is) f.form;
      };
      legal = record { run = f.trusted.legal; transcript = f.legal };
      true_values = refl;
    }

pub one_run_file : OneRunFile
one_run_file p q o w chooser other cs ds text one two reads other_reads =
    let same : scripted_contents p one.task one.events one.transcript ≡ scripted_contents q two.task two.events two.transcript =
    text_tells (length p.actions) (count_of (sizes_of p.sights)) (length q.actions) (count_of (sizes_of q.sights)) _ _ one.form two.form (sym one.is ∙ two.is) in
    let bytes : model_bytes p ≡ model_bytes q = ap (λ (c : Contents). c.model) same in (
      one_meaning (model_bytes p) p q reads (subst (λ (s : List ℕ). Reads s q) (sym bytes) other_reads),
      sym one.sampled.options ∙ ap (λ (c : Contents). c.options) same ∙ two.sampled.options,
      same,
    )

-- what one thread plans, as the file of a run
abbrev as_run : (p : Parts) (o : Options) (chooser : Machine) (cs : List Command) (text : List ℕ) → IsScriptFileFor p o chooser cs text → IsRunFileFor p o chooser cs text
as_run p o chooser cs text f = record {
  task = f.task;
  events = f.events;
  transcript = f.transcript;
  sampled = f.planned.task;
  trusted = f.planned.trusted;
  legal = f.sessions.legal;
  served = f.sessions.served;
  form = f.form;
  is = f.is;
}

pub script_files_are_legal : ScriptFilesAreLegal
script_files_are_legal p o chooser cs text f reads = run_files_are_legal p o chooser cs text (as_run p o chooser cs text f) reads

pub one_script_file : OneScriptFile
one_script_file p q o w chooser other cs ds text one two reads other_reads =
    one_run_file p q o w chooser other cs ds text (as_run p o chooser cs text one) (as_run q w other ds text two) reads other_reads

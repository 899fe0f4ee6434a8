-- The texts of plans and of models.
use Rattle.std.proofs.Common.{◌≡◌, ◌∙◌, ℕ, ◌≤◌, List, [], ◌∷◌, ◌++◌, length, length-append, true, refl, sym, ap, subst, arith, codes}
use Rattle.sp_model.specs.declared.parts.Parts.{Parts}
use Rattle.sp_model.specs.Kept.{IsModel}
use Rattle.sp_lines.specs.Lines.{IsSmall}
use Rattle.sp_value.specs.declared.tasks.Options.{Options}
use Rattle.sp_choose.specs.Machines.{Machine}
use Rattle.sp_session.specs.declared.logs.SessionLog.{SessionLog}
use Rattle.sp_session.specs.Logs.{logs_of}
use Rattle.sp_words.specs.declared.job.PlanWords.{PlanWords}
use Rattle.sp_reader.proofs.SourceLemmas.{one_meaning}
use Rattle.sp_read_back.specs.ReadBack.{AreFuncs}
use Rattle.sp_read_back.proofs.Lengths.{of_model}
use Rattle.sp_read_back.proofs.Models.{read_back}
use Rattle.sp_script.specs.declared.command.Command.{Command}
use Rattle.sp_script.specs.Served.{AreServed}
use Rattle.sp_planfile.specs.Contents.{Contents}
use Rattle.sp_planfile.specs.ModelText.{model_bytes}
use Rattle.sp_planfile.specs.PlanText.{head_text, text_from_options}
use Rattle.sp_planning.specs.ScriptFiles.{IsScriptFileFor, scripted_contents}
use Rattle.sp_planning.specs.RunFiles.{IsRunFileFor}
use Rattle.sp_judging.proofs.ScriptLemmas.{run_files_are_legal, one_run_file}
use Rattle.sp_tool.specs.Texts.{options_of, chooser_of, IsPlanText, OnePlan, PlannedFilesAreLegal, ShownTextsAreKept}

middle : (front xs back : List ℕ) → length xs ≤ length (front ++ (xs ++ back))
middle front xs back =
    let whole = length-append front (xs ++ back) in
    let rest = length-append xs back in
    omega (arith, whole, rest)

-- what is planned is a text of the plan, which isn't shorter than its lines of the model
pub plan_is : (model : Parts) (p : PlanWords) (cs : List Command) (text : List ℕ) (o : Options) (chooser : Machine) → o ≡ options_of p → chooser ≡ chooser_of p.sweep
    → IsRunFileFor model o chooser cs text → (p.workers ≡ 0 → IsScriptFileFor model o chooser cs text) → IsModel model → AreFuncs model → IsSmall (length text)
    → IsPlanText model p cs text
plan_is model p cs text o chooser options picked planned alone known funcs small =
    let file : IsRunFileFor model (options_of p) (chooser_of p.sweep) cs text =
    subst (λ (x : Options). IsRunFileFor model x (chooser_of p.sweep) cs text) options (subst (λ (m : Machine). IsRunFileFor model o m cs text) picked planned) in
    let told : Contents = scripted_contents model file.task file.events file.transcript in
    let lines = of_model model in
    let within = middle (head_text true) (model_bytes model) (codes "endmodel\n" ++ text_from_options told) in
    let long = ap (λ (xs : List ℕ). length xs) file.is in
    record {
      file = file;
      meaning = read_back model known funcs (omega (arith, lines, within, long, small));
      alone = λ none. subst (λ (x : Options). IsScriptFileFor model x (chooser_of p.sweep) cs text) options (subst (λ (m : Machine). IsScriptFileFor model o m cs text) picked (alone none));
    }

pub plans_differ : OnePlan
plans_differ model other p q cs ds text one two =
    one_run_file model other (options_of p) (options_of q) (chooser_of p.sweep) (chooser_of q.sweep) cs ds text one.file two.file one.meaning two.meaning

-- no log serves no command
none_logged : (transcript : List SessionLog) → AreServed [] (logs_of transcript) → transcript ≡ []
none_logged [] served = refl
none_logged (log ∷ transcript) served = let bad = served.sessions in absurd (cc)

pub planned_are_legal : PlannedFilesAreLegal
planned_are_legal model p cs text one = (
  run_files_are_legal model (options_of p) (chooser_of p.sweep) cs text one.file one.meaning,
  λ none. none_logged one.file.transcript (subst (λ (ds : List Command). AreServed ds (logs_of one.file.transcript)) none one.file.served),
)

pub shown_are_kept : ShownTextsAreKept
shown_are_kept model other text again one reads two =
    let same = one_meaning text model other one.meaning reads in
    (same, two.is ∙ ap model_bytes (sym same) ∙ sym one.is)

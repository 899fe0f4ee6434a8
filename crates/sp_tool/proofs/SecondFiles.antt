-- Files that are read behind a first one.
use Rattle.std.proofs.Common.{◌≡◌, ◌∙◌, ℕ, ◌≤◌, List, [], ◌∷◌, length, map, Option, Some, sym, subst, arith, inl, inr}
use Rattle.std.specs.Prelude.{ℤ}
use Rattle.sp_outside.specs.Folder.{Folder, IsLaterFolder}
use Rattle.sp_outside.specs.Counts.{Rose}
use Rattle.sp_model.specs.declared.parts.Parts.{Parts}
use Rattle.sp_reader.specs.Sources.{Reads}
use Rattle.sp_value.specs.declared.events.Event.{Event}
use Rattle.sp_value.specs.Events.{events_of}
use Rattle.sp_value.specs.Tasks.{TaskParts}
use Rattle.sp_session.specs.declared.logs.SessionLog.{SessionLog}
use Rattle.sp_script.specs.declared.command.Command.{Command}
use Rattle.sp_script.specs.Script.{IsScript}
use Rattle.sp_judging.specs.PlanFiles.{IsLegalFile, IsLegalPlan}
use Rattle.sp_judging.specs.ActTexts.{IsActText}
use Rattle.sp_words.specs.declared.job.PlanWords.{PlanWords}
use Rattle.sp_words.specs.declared.job.Job.TheVariants.{Plan, Act}
use Rattle.sp_tool.specs.Inputs.{Input, model_file, plan_file, script_file, name_of, TellsModel, TellsNone, model_limit, plan_limit, script_limit, IsMeant, TellsFault, IsAccepted, Ending, all_accepted, last_refused, last_forbidden, next_unread, EndsWhole, EndsAt, EndsBehind}
use Rattle.sp_tool.specs.Table.{script_of, Told, Saw, Allows, IsTextFor}
use Rattle.sp_tool.specs.Texts.{IsPlanText}
use Rattle.sp_tool.specs.Faults.{HindersBehind, HindersFiles, Hinders}
use Rattle.sp_tool.specs.declared.fault.Fault.{Fault}
use Rattle.sp_tool.specs.declared.fault.Fault.TheVariants as Faults

-- ---- an earlier store
pub told_earlier : (store mid : Folder) (name bytes : List ℕ) → IsLaterFolder store mid → Told (mid.content name) bytes → Told (store.content name) bytes
told_earlier store mid name bytes later told = λ all e. told all (later.content name ∙ e)

saw_earlier : (store mid : Folder) → IsLaterFolder store mid → (names files : List (List ℕ)) → Saw mid names files → Saw store names files
saw_earlier store mid later [] [] saw = tt
saw_earlier store mid later [] (file ∷ files) saw = elim saw [ ]
saw_earlier store mid later (name ∷ names) [] saw = tt
saw_earlier store mid later (name ∷ names) (file ∷ files) saw = (told_earlier store mid name file later saw.0, saw_earlier store mid later names files saw.1)

rose_since : (before mid now : ℕ) → before ≤ mid → Rose mid now → Rose before now
rose_since before mid now low rose = omega (arith, low, rose)

pub later_still : (store mid later : Folder) → IsLaterFolder store mid → IsLaterFolder mid later → IsLaterFolder store later
later_still store mid later a b = record {
  content = λ name. b.content name ∙ a.content name;
  faults = λ name. let low = a.faults name in let high = b.faults name in omega (arith, low, high);
}

-- ---- a file that tells a model more
module _ (told other : Parts → Type 0) (more : (p : Parts) → told p → other p) where
  meant_more : (input : Input) (source : List ℕ) → IsMeant told input source → IsMeant other input source
  meant_more (model_file name) source h = h
  meant_more (plan_file name) source h = h
  meant_more (script_file name) source h = (h.0, more h.0 h.1, h.2)

  fault_more : (input : Input) (source line : List ℕ) → TellsFault told input source line → TellsFault other input source line
  fault_more (model_file name) source line h = h
  fault_more (plan_file name) source line h = h
  fault_more (script_file name) source line h = (h.0, more h.0 h.1, h.2)

  at_more : (input : Input) (source : List ℕ) (ending : Ending) → EndsAt told input source ending → EndsAt other input source ending
  at_more input source all_accepted h = elim h [ ]
  at_more input source (last_refused line) (inl long) = inl long
  at_more input source (last_refused line) (inr bars) = inr (bars.0, fault_more input source line bars.1)
  at_more input source (last_forbidden line) h = h
  at_more input source (next_unread name) h = elim h [ ]

  ends_more : (ins : List Input) (files : List (List ℕ)) (ending : Ending) → EndsBehind told ins files ending → EndsBehind other ins files ending
  ends_more [] [] ending h = h
  ends_more [] (file ∷ files) ending h = elim h [ ]
  ends_more (input ∷ ins) [] ending h = h
  ends_more (input ∷ ins) (file ∷ files) ending (inl go) = inl ((go.0.0, meant_more input file go.0.1), go.1)
  ends_more (input ∷ ins) (file ∷ files) ending (inr stop) = inr (at_more input file ending stop.0, stop.1)

-- ---- what hinders several files
-- what hinders the files behind an accepted one
pub behind_hinders : (first : Input) (source : List ℕ) (ins : List Input) (told : Parts → Type 0) (store mid later : Folder) (fault : Fault)
    → Told (store.content (name_of first)) source → IsAccepted TellsNone first source → ((p : Parts) → told p → TellsModel first source p) → IsLaterFolder store mid
    → HindersBehind told ins mid later fault → HindersFiles (first ∷ ins) store later fault
behind_hinders first source ins told store mid later Faults.NoMemory same may more since h = tt
behind_hinders first source ins told store mid later (Faults.Refused line) same may more since h =
    (source ∷ h.0, (same, saw_earlier store mid since (map name_of ins) h.0 h.1), inl (may, ends_more told (TellsModel first source) more ins h.0 (last_refused line.items) h.2))
behind_hinders first source ins told store mid later (Faults.NotLegal line) same may more since h =
    (source ∷ h.0, (same, saw_earlier store mid since (map name_of ins) h.0 h.1), inl (may, ends_more told (TellsModel first source) more ins h.0 (last_forbidden line.items) h.2))
behind_hinders first source ins told store mid later (Faults.ReadFault line) same may more since h =
    let name = h.2.0 in (
      source ∷ h.0,
      (same, saw_earlier store mid since (map name_of ins) h.0 h.1),
      (
        name,
        inl (may, ends_more told (TellsModel first source) more ins h.0 (next_unread name) h.2.1),
        rose_since (store.faults name) (mid.faults name) (later.faults name) (since.faults name) h.2.2,
        h.2.3,
      ),
    )
behind_hinders first source ins told store mid later Faults.Usage same may more since h = elim h [ ]
behind_hinders first source ins told store mid later Faults.WriteFault same may more since h = elim h [ ]

-- what hinders the first file
saw_none : (store : Folder) (names : List (List ℕ)) → Saw store names []
saw_none store [] = tt
saw_none store (name ∷ names) = tt

module _ (store : Folder) (first : Input) (ins : List Input) where
  saw_first : (files : List (List ℕ)) → Saw store (name_of first ∷ []) files → Saw store (name_of first ∷ map name_of ins) files
  saw_first [] saw = tt
  saw_first (file ∷ []) saw = (saw.0, saw_none store (map name_of ins))
  saw_first (file ∷ (next ∷ files)) saw = elim saw.1 [ ]

  ends_first : (files : List (List ℕ)) (ending : Ending) → (EndsWhole ending → ⊥) → EndsBehind TellsNone (first ∷ []) files ending → EndsBehind TellsNone (first ∷ ins) files ending
  ends_first [] ending none h = h
  ends_first (file ∷ []) ending none (inl go) = absurd (none go.1)
  ends_first (file ∷ (next ∷ files)) ending none (inl go) = elim go.1 [ ]
  ends_first (file ∷ files) ending none (inr stop) = inr stop

  pub first_hinders : (later : Folder) (fault : Fault) → HindersFiles (first ∷ []) store later fault → HindersFiles (first ∷ ins) store later fault
  first_hinders later Faults.NoMemory h = tt
  first_hinders later (Faults.Refused line) h = (h.0, saw_first h.0 h.1, ends_first h.0 (last_refused line.items) (λ e. e) h.2)
  first_hinders later (Faults.NotLegal line) h = (h.0, saw_first h.0 h.1, ends_first h.0 (last_forbidden line.items) (λ e. e) h.2)
  first_hinders later (Faults.ReadFault line) h = (h.0, saw_first h.0 h.1, (h.2.0, ends_first h.0 (next_unread h.2.0) (λ e. e) h.2.1, h.2.2, h.2.3))
  first_hinders later Faults.Usage h = elim h [ ]
  first_hinders later Faults.WriteFault h = elim h [ ]

-- ---- plans without a script and with one
pub plan_hinders : (p : PlanWords) (sessions : Option (List ℕ)) (store later : Folder) (fault : Fault) → p.sessions ≡ sessions → HindersFiles (model_file p.model ∷ script_of sessions) store later fault → Hinders (Plan p) store later fault
plan_hinders p sessions store later fault is h = subst (λ (s : Option (List ℕ)). HindersFiles (model_file p.model ∷ script_of s) store later fault) (sym is) h

-- the text of a plan for bytes of its files
pub plan_text_of : (p : PlanWords) (sessions : Option (List ℕ)) (store : Folder) (files : List (List ℕ)) (text : List ℕ) → p.sessions ≡ sessions → Saw store (map name_of (model_file p.model ∷ script_of sessions)) files → Allows (Plan p) files text → IsTextFor store (Plan p) text
plan_text_of p sessions store files text is saw may = (files, subst (λ (s : Option (List ℕ)). Saw store (map name_of (model_file p.model ∷ script_of s)) files) (sym is) saw, may)

-- the text of a plan with a script, and what hinders the script
module _ (p : PlanWords) (script : List ℕ) (named : p.sessions ≡ Some script) (store mid : Folder) (since : IsLaterFolder store mid)
    (source : List ℕ) (model : Parts) (same : Told (store.content p.model) source) (short : length source ≤ model_limit) (reads : Reads source model) where
  pub script_plan_text_of : (commands : List ℕ) (cs : List Command) (text : List ℕ) → Told (mid.content script) commands → length commands ≤ script_limit → IsScript model.sights commands cs → IsPlanText model p cs text
      → IsTextFor store (Plan p) text
  script_plan_text_of commands cs text told few means is =
      plan_text_of p (Some script) store (source ∷ commands ∷ []) text named (same, (told_earlier store mid script commands since told, tt)) ((λ e. cc), (short, (model, reads, (few, (cs, means, is)))))

  pub script_plan_hinders : (later : Folder) (fault : Fault) → HindersBehind (λ m. m ≡ model) (script_file script ∷ []) mid later fault → Hinders (Plan p) store later fault
  script_plan_hinders later fault h = plan_hinders p (Some script) store later fault named
      (behind_hinders (model_file p.model) source (script_file script ∷ []) (λ m. m ≡ model) store mid later fault same (short, (model, reads)) (λ q e. subst (λ (m : Parts). Reads source m) (sym e) reads) since h)

-- the same of a script on a plan file
module _ (name script : List ℕ) (store mid : Folder) (since : IsLaterFolder store mid)
    (source : List ℕ) (same : Told (store.content name) source) (short : length source ≤ plan_limit)
    (t : TaskParts) (events : List Event) (values : Option (List ℤ)) (transcript : List SessionLog) (legal : IsLegalFile source t events values transcript) where
  pub act_text_of : (commands : List ℕ) (cs : List Command) (text : List ℕ) → Told (mid.content script) commands → length commands ≤ script_limit → IsScript t.model.sights commands cs → IsActText t (events_of events) cs text
      → IsTextFor store (Act name script) text
  act_text_of commands cs text told few means is =
      let plan : IsLegalPlan source = record { task = t; events = events; values = values; transcript = transcript; legal = legal } in
      (source ∷ commands ∷ [], (same, (told_earlier store mid script commands since told, tt)), (short, (plan, (few, (cs, means, is)))))

  pub act_hinders : (model : Parts) (later : Folder) (fault : Fault) → model ≡ t.model → HindersBehind (λ m. m ≡ model) (script_file script ∷ []) mid later fault → Hinders (Act name script) store later fault
  act_hinders model later fault is h =
      let plan : IsLegalPlan source = record { task = t; events = events; values = values; transcript = transcript; legal = legal } in
      behind_hinders (plan_file name) source (script_file script ∷ []) (λ m. m ≡ model) store mid later fault same (short, plan)
      (λ q e. (t, (events, (values, (transcript, legal.file, sym (e ∙ is)))))) since h

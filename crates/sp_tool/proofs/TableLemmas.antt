-- The table: what one cause bars of the others.
use Rattle.std.proofs.Common.{◌≡◌, ℕ, ◌+◌, ◌<◌, ◌≤◌, List, [], ◌∷◌, length, Option, Some, None, Result, refl, sym, ◌∙◌, subst, Contains, arith, replicate, OnOk, OnErr, Ok, Err, inl, inr}
use Rattle.std.specs.Prelude.{◌≢◌, IfOk, MatchResult, MatchOption}
use Rattle.std.proofs.lemmas.List.{append-nil, length-replicate}
use Rattle.sp_outside.specs.Folder.{Folder, IsLaterFolder}
use Rattle.sp_outside.specs.Written.{WrittenBytes}
use Rattle.sp_outside.specs.Counts.{HasCause}
use Rattle.sp_outside.specs.Bytes.{Appended, AppendedPart}
use Rattle.sp_gen.specs.Models.{generated_text}
use Rattle.sp_model.specs.declared.parts.Parts.{Parts}
use Rattle.sp_words.specs.declared.job.Job.{Job}
use Rattle.sp_words.specs.declared.job.Job.TheVariants.{Plan, Check, Show, Gen, Trial, Audit, Migrate, Act, Help, Version}
use Rattle.sp_words.specs.declared.job.PlanWords.{PlanWords}
use Rattle.sp_words.specs.Jobs.{Asks, IsPossible}
use Rattle.sp_tool.specs.Inputs.{Input, model_file, script_file, name_of, limit_of, TellsModel, TellsNone, IsAccepted, Ending, all_accepted, last_refused, last_forbidden, Ends}
use Rattle.sp_tool.specs.Table.{IsPlain, IsConcurrentPlan, script_of, inputs, names, Allows, Grants, Refuses, Forbids, Told, Saw, Holds, Call, Cause, Tells, NoFault, Answers, AgreeSoFar, FilesEndOnce}
use Rattle.sp_tool.specs.declared.status.Status.{Status}
use Rattle.sp_tool.specs.declared.status.Status.TheVariants.{Done, Refused, Usage, NoMemory, ReadFault, WriteFault, NotLegal}
use Rattle.sp_tool.specs.Faults.{status_of, line_of, TellsReason, HindersReading, HindersBehind, Hinders}
use Rattle.sp_tool.specs.declared.fault.Fault.{Fault}
use Rattle.sp_tool.specs.declared.fault.Fault.TheVariants as Faults
use Rattle.sp_words.proofs.OneJob.{same_job}
use Rattle.sp_reader.specs.Sources.{Reads}
use Rattle.sp_reader.proofs.SourceLemmas.{not_refused}
use Rattle.sp_generated.proofs.Models.{generated_models}
use Rattle.sp_tool.proofs.Endings.{seen_same, accepted_or_refused, refused_or_accepted, accepted_or_forbidden, forbidden_or_accepted, refused_or_forbidden, forbidden_or_refused, unread_named}

-- some content that is as told and longer than the limit
pub some_longer : (content : Option (List ℕ)) (limit : ℕ) → ((bytes : List ℕ) → content ≡ Some bytes → limit < length bytes) → (bytes : List ℕ) × Told content bytes × (limit < length bytes)
some_longer None limit h = (replicate (limit + 1) 0, λ all e. cc, omega (arith, length-replicate {A = ℕ} (limit + 1) 0))
some_longer (Some bytes) limit h = (bytes, λ all e. cc, h bytes refl)

-- a line is told as a whole, or in part where the count rose
pub tells : (line : List ℕ) (err gone : WrittenBytes) {T E : Type 0} (r : Result T E) → OnOk r (Appended err.bytes gone.bytes line) → OnErr r (AppendedPart err.bytes gone.bytes line) → HasCause err.faults gone.faults r → Tells line err gone
tells line err gone (Ok x) whole part cause = record { part = inl whole; whole = λ still. whole }
tells line err gone (Err x) whole part cause = record { part = inr part; whole = λ still. absurd (still cause.failed) }

-- nothing is told on an err that is as it was
pub tells_nothing : (err : WrittenBytes) → Tells [] err err
tells_nothing err = record { part = inl (λ b e. rw append-nil e); whole = λ still b e. rw append-nil e }

-- the files of a plan are accepted, without a script and with one
plan_granted : (model : List ℕ) (sessions : Option (List ℕ)) (source : List ℕ) → sessions ≡ None → IsAccepted TellsNone (model_file model) source
    → Ends (model_file model ∷ script_of sessions) (source ∷ []) all_accepted
plan_granted model None source none may = inl (may, tt)
plan_granted model (Some name) source none may = absurd (cc)

script_granted : (model : List ℕ) (sessions : Option (List ℕ)) (source script : List ℕ) → sessions ≢ None → IsAccepted TellsNone (model_file model) source
    → ((name : List ℕ) → IsAccepted (TellsModel (model_file model) source) (script_file name) script)
    → Ends (model_file model ∷ script_of sessions) (source ∷ (script ∷ [])) all_accepted
script_granted model None source script some may then = absurd (some refl)
script_granted model (Some name) source script some may then = inl (may, inl (then name, tt))

-- the files of which a job may write a text are accepted
granted : (job : Job) (files : List (List ℕ)) (text : List ℕ) → Allows job files text → Grants job files
granted (Plan p) [] text may = elim may [ ]
granted (Plan p) (source ∷ []) text may = plan_granted p.model p.sessions source may.0 (may.1.0, (may.1.1.0, may.1.1.1))
granted (Plan p) (source ∷ (script ∷ [])) text may =
    let model = may.1.1.0 in
    let commands = may.1.1.2 in
    script_granted p.model p.sessions source script may.0 (may.1.0, (model, may.1.1.1)) (λ name. (commands.0, (model, may.1.1.1, (commands.1.0, commands.1.1))))
granted (Plan p) (source ∷ (script ∷ (next ∷ more))) text may = elim may [ ]
granted (Check name) [] text may = elim may [ ]
granted (Check name) (source ∷ []) text may = inl ((may.0, (may.1.0, may.1.1)), tt)
granted (Check name) (source ∷ (next ∷ more)) text may = elim may [ ]
granted (Show name) [] text may = elim may [ ]
granted (Show name) (source ∷ []) text may = inl ((may.0, (may.1.0, may.1.1)), tt)
granted (Show name) (source ∷ (next ∷ more)) text may = elim may [ ]
granted (Gen number) [] text may = tt
granted (Gen number) (source ∷ more) text may = elim may [ ]
granted (Trial number) [] text may = tt
granted (Trial number) (source ∷ more) text may = elim may [ ]
granted (Audit name) [] text may = elim may [ ]
granted (Audit name) (source ∷ []) text may = inl ((may.0, may.1.plan), tt)
granted (Audit name) (source ∷ (next ∷ more)) text may = elim may [ ]
granted (Migrate name) [] text may = elim may [ ]
granted (Migrate name) (source ∷ []) text may = inl ((may.0, may.1.plan), tt)
granted (Migrate name) (source ∷ (next ∷ more)) text may = elim may [ ]
granted (Act name script) [] text may = elim may [ ]
granted (Act name script) (source ∷ []) text may = elim may [ ]
granted (Act name script) (source ∷ (commands ∷ [])) text may =
    let plan = may.1.0 in
    let told = may.1.1 in
    inl ((may.0, plan), inl ((told.0, (plan.task.model, (plan.task, (plan.events, (plan.values, (plan.transcript, plan.legal.file, refl)))), (told.1.0, told.1.1))), tt))
granted (Act name script) (source ∷ (commands ∷ (next ∷ more))) text may = elim may [ ]
granted Help [] text may = tt
granted Help (source ∷ more) text may = elim may [ ]
granted Version [] text may = tt
granted Version (source ∷ more) text may = elim may [ ]

-- the law
pub files_end_once : FilesEndOnce
files_end_once job files others same = record {
  accepted_or_refused = λ may line bars. accepted_or_refused (inputs job) files others same line may bars;
  accepted_or_forbidden = λ may line bars. accepted_or_forbidden (inputs job) files others same line may bars;
  refused_or_forbidden = λ line bars other bad. refused_or_forbidden (inputs job) files others same line other bars bad;
  written = λ text may. granted job files text may;
}

module _ (c : Call) where
  usage_of : (status : Status) (line : List ℕ) → Cause c status line → ((job : Job) → ¬ (Asks c.words job)) → Contains (Usage ∷ NoMemory ∷ []) status
  usage_of Done line cause none = absurd (none cause.0 cause.1)
  usage_of Refused line cause none = absurd (none cause.0 cause.1)
  usage_of Usage line cause none = (0, omega arith, refl)
  usage_of NoMemory line cause none = (1, omega arith, refl)
  usage_of ReadFault line cause none = absurd (none cause.0 cause.1)
  usage_of WriteFault line cause none = absurd (none cause.0 cause.1)
  usage_of NotLegal line cause none = absurd (none cause.0 cause.1)

  module _ (job : Job) (files : List (List ℕ)) (asks : Asks c.words job) (holds : Holds c.store (names job) files) where
    -- what was seen of the files of the job that the words ask for, whose reading ends so
    seen_of : (other : Job) (seen : List (List ℕ)) (ending : Ending) → Asks c.words other → Saw c.store (names other) seen → Ends (inputs other) seen ending → AgreeSoFar files seen × Ends (inputs job) seen ending
    seen_of other seen ending asked saw e =
        let same = same_job c.words job other asks asked in
        let saw' : Saw c.store (names job) seen = rw same saw in
        let e' : Ends (inputs job) seen ending = rw same e in
        (seen_same c.store (names job) files seen holds saw', e')

    -- a text was written of them
    wrote : (other : Job) (seen : List (List ℕ)) (text : List ℕ) → Asks c.words other → Saw c.store (names other) seen → Allows other seen text → AgreeSoFar files seen × Ends (inputs job) seen all_accepted
    wrote other seen text asked saw may = seen_of other seen all_accepted asked saw (granted other seen text may)

    refused_of : (why line : List ℕ) (status : Status) → Cause c status line → Refuses job files why → Contains (Refused ∷ ReadFault ∷ NoMemory ∷ []) status
    refused_of why line Done cause bars =
        let w = wrote cause.0 cause.2.0 cause.2.2.0 cause.1 cause.2.1 cause.2.2.1 in
        absurd (refused_or_accepted (inputs job) files cause.2.0 w.0 why bars w.1)
    refused_of why line Refused cause bars = (0, omega arith, refl)
    refused_of why line Usage cause bars = absurd (cause.0 job asks)
    refused_of why line NoMemory cause bars = (2, omega arith, refl)
    refused_of why line ReadFault cause bars = (1, omega arith, refl)
    refused_of why line WriteFault cause bars =
        let w = wrote cause.0 cause.2.0 cause.2.2.0 cause.1 cause.2.1 cause.2.2.1 in
        absurd (refused_or_accepted (inputs job) files cause.2.0 w.0 why bars w.1)
    refused_of why line NotLegal cause bars =
        let w = seen_of cause.0 cause.2.0 (last_forbidden line) cause.1 cause.2.1 cause.2.2 in
        absurd (refused_or_forbidden (inputs job) files cause.2.0 w.0 why line bars w.1)

    forbidden_of : (why line : List ℕ) (status : Status) → Cause c status line → Forbids job files why → Contains (NotLegal ∷ ReadFault ∷ NoMemory ∷ []) status
    forbidden_of why line Done cause bars =
        let w = wrote cause.0 cause.2.0 cause.2.2.0 cause.1 cause.2.1 cause.2.2.1 in
        absurd (forbidden_or_accepted (inputs job) files cause.2.0 w.0 why bars w.1)
    forbidden_of why line Refused cause bars =
        let w = seen_of cause.0 cause.2.0 (last_refused line) cause.1 cause.2.1 cause.2.2 in
        absurd (forbidden_or_refused (inputs job) files cause.2.0 w.0 why line bars w.1)
    forbidden_of why line Usage cause bars = absurd (cause.0 job asks)
    forbidden_of why line NoMemory cause bars = (2, omega arith, refl)
    forbidden_of why line ReadFault cause bars = (1, omega arith, refl)
    forbidden_of why line WriteFault cause bars =
        let w = wrote cause.0 cause.2.0 cause.2.2.0 cause.1 cause.2.1 cause.2.2.1 in
        absurd (forbidden_or_accepted (inputs job) files cause.2.0 w.0 why bars w.1)
    forbidden_of why line NotLegal cause bars = (0, omega arith, refl)

    complete_of : (line : List ℕ) (status : Status) → Cause c status line → Grants job files → NoFault c job → Contains (Done ∷ NoMemory ∷ []) status
    complete_of line Done cause may still = (0, omega arith, refl)
    complete_of line Refused cause may still =
        let w = seen_of cause.0 cause.2.0 (last_refused line) cause.1 cause.2.1 cause.2.2 in
        absurd (accepted_or_refused (inputs job) files cause.2.0 w.0 line may w.1)
    complete_of line Usage cause may still = absurd (cause.0 job asks)
    complete_of line NoMemory cause may still = (1, omega arith, refl)
    complete_of line ReadFault cause may still =
        let same = same_job c.words job cause.0 asks cause.1 in
        let named : Contains (names job) cause.2.2.0 = rw same (unread_named (inputs cause.0) cause.2.0 cause.2.2.0 cause.2.2.1) in
        absurd (still.reads cause.2.2.0 named cause.2.2.2)
    complete_of line WriteFault cause may still = absurd (still.writes cause.2.2.3)
    complete_of line NotLegal cause may still =
        let w = seen_of cause.0 cause.2.0 (last_forbidden line) cause.1 cause.2.1 cause.2.2 in
        absurd (accepted_or_forbidden (inputs job) files cause.2.0 w.0 line may w.1)

-- a cause and its line are an answer
pub answers : (c : Call) (err gone : WrittenBytes) (status : Status) (line : List ℕ) → Cause c status line → Tells line err gone → (status ≡ Done → gone ≡ err) → IsLaterFolder c.store c.later → Answers c err gone status
answers c err gone status line cause told quiet later = record {
  cause = (line, cause, told);
  quiet = quiet;
  usage = usage_of c status line cause;
  refused = λ job files why asks holds bars. refused_of c job files asks holds why line status cause bars;
  forbidden = λ job files why asks holds bars. forbidden_of c job files asks holds why line status cause bars;
  complete = λ job files asks holds may still. complete_of c job files asks holds line status cause may still;
  later = later;
}

-- what hinders a job is a cause
pub hindered : (words : List (List ℕ)) (store later : Folder) (out : WrittenBytes) (job : Job) (fault : Fault) → Asks words job → Hinders job store later fault
    → Cause (record { words = words; store = store; later = later; out = out; end = out }) (status_of fault) (line_of fault)
hindered words store later out job Faults.NoMemory asks h = (refl, refl)
hindered words store later out job (Faults.Refused line) asks h = (job, asks, (h.0, h.1, h.2, refl))
hindered words store later out job (Faults.ReadFault line) asks h = (job, asks, (h.0, h.1, (h.2.0, h.2.1, h.2.2, h.2.3, refl)))
hindered words store later out job Faults.Usage asks h = elim h [ ]
hindered words store later out job Faults.WriteFault asks h = elim h [ ]
hindered words store later out job (Faults.NotLegal line) asks h = (job, asks, (h.0, h.1, h.2, refl))

not_done : (fault : Fault) → status_of fault ≡ Done → ⊥
not_done Faults.NoMemory e = cc
not_done (Faults.Refused line) e = cc
not_done (Faults.ReadFault line) e = cc
not_done Faults.Usage e = cc
not_done Faults.WriteFault e = cc
not_done (Faults.NotLegal line) e = cc

-- a fault whose line was told is an answer
pub fault_answers : (c : Call) (err gone : WrittenBytes) (fault : Fault) (line : List ℕ) (status : Status) {T E : Type 0} (r : Result T E)
    → Cause c (status_of fault) (line_of fault) → line ≡ line_of fault → status ≡ status_of fault
    → OnOk r (Appended err.bytes gone.bytes line) → OnErr r (AppendedPart err.bytes gone.bytes line) → HasCause err.faults gone.faults r → IsLaterFolder c.store c.later
    → Answers c err gone status
fault_answers c err gone fault line status r cause e s whole part risen is_later =
    let cause' : Cause c status line = rw (e, s) cause in
    answers c err gone status line cause' (tells line err gone r whole part risen) (λ done. absurd (not_done fault (sym s ∙ done))) is_later

-- a job is plain where the words ask for it and for none but plain ones
pub all_plain : (words : List (List ℕ)) (job : Job) → Asks words job → IsPlain job → (other : Job) → Asks words other → IsPlain other
all_plain words job asks plain other asked = subst IsPlain (same_job words job other asks asked) plain

-- what a job asks for is what words ask for that ask for it
pub concurrent_plan_of : (words : List (List ℕ)) (job : Job) (found : Option PlanWords) → Asks words job → IsPossible job
    → MatchOption found (IsPlain job) (λ p. (job ≡ Plan p) × (0 < p.workers)) → IsConcurrentPlan words found
concurrent_plan_of words job None asks may plain = all_plain words job asks plain
concurrent_plan_of words job (Some p) asks may is = (subst (Asks words) is.0 asks, subst IsPossible is.0 may, is.1)

-- nothing has changed
pub still : (store : Folder) → IsLaterFolder store store
still store = record { content = λ name. refl; faults = λ name. omega arith }

-- what hinders the reading of a file hinders a job that reads it
pub unread_hinders : (told : Parts → Type 0) (input : Input) (store later : Folder) (fault : Fault) → HindersReading (name_of input) (limit_of input) store later fault → HindersBehind told (input ∷ []) store later fault
unread_hinders told input store later Faults.NoMemory h = tt
unread_hinders told input store later (Faults.Refused line) h = (h.0 ∷ [], (h.1, tt), inr (inl (h.2, h.3), refl))
unread_hinders told input store later (Faults.ReadFault line) h = ([], tt, (name_of input, refl, h.0, h.1))
unread_hinders told input store later Faults.Usage h = elim h [ ]
unread_hinders told input store later Faults.WriteFault h = elim h [ ]
unread_hinders told input store later (Faults.NotLegal line) h = elim h [ ]

-- and so does what is told of its bytes
pub bytes_hinder : (told : Parts → Type 0) (input : Input) (source : List ℕ) (store later : Folder) (fault : Fault) → Told (store.content (name_of input)) source → length source ≤ limit_of input
    → TellsReason told input source fault → HindersBehind told (input ∷ []) store later fault
bytes_hinder told input source store later Faults.NoMemory same short h = tt
bytes_hinder told input source store later (Faults.Refused line) same short h = (source ∷ [], (same, tt), inr (inr (short, h), refl))
bytes_hinder told input source store later (Faults.NotLegal line) same short h = (source ∷ [], (same, tt), inr ((short, h), refl))
bytes_hinder told input source store later (Faults.ReadFault line) same short h = elim h [ ]
bytes_hinder told input source store later Faults.Usage same short h = elim h [ ]
bytes_hinder told input source store later Faults.WriteFault same short h = elim h [ ]

-- what holds of a value that is handed on
pub on_kept : {T E F : Type 0} (P : T → Type 0) (text : Result T E) (result : Result T F) (e : F) → MatchResult text (λ t. result ≡ Ok t) (λ x. result ≡ Err e) → IfOk text P → IfOk result P
on_kept P (Ok t) result e h p = subst (λ r. IfOk r P) (sym h) p
on_kept P (Err x) result e h p = subst (λ r. IfOk r P) (sym h) tt

-- no generated text is refused
pub generated_fault : (number : ℕ) (file source : List ℕ) (fault : Fault) → number ≤ 16 → source ≡ generated_text number → TellsReason TellsNone (model_file file) source fault → fault ≡ Faults.NoMemory
generated_fault number file source Faults.NoMemory few is h = refl
generated_fault number file source (Faults.Refused line) few is h =
    let means = generated_models number few in
    absurd (not_refused source means.model h.0 h.1.0 (subst (λ bytes. Reads bytes means.model) (sym is) means.reads) h.1.1)
generated_fault number file source (Faults.ReadFault line) few is h = elim h [ ]
generated_fault number file source Faults.Usage few is h = elim h [ ]
generated_fault number file source Faults.WriteFault few is h = elim h [ ]
generated_fault number file source (Faults.NotLegal line) few is h = elim h [ ]

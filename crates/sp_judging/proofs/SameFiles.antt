-- What one text tells is told once: of two readings the models, options, events, values and logs are the same, and the sampled weights agree.
use Rattle.std.proofs.Common.{◌≡◌, ℕ, zero, suc, ◌<◌, List, [], ◌∷◌, length, get_or, map, Option, refl, sym, ap, ◌∙◌, subst, arith}
use Rattle.std.specs.Prelude.{ℤ}
use Rattle.std.proofs.lemmas.List.{length-map, get_or-map}
use Rattle.sp_theory.specs.Points.{count_of}
use Rattle.sp_theory.specs.Sums.{floor}
use Rattle.sp_theory.specs.Model.{Model}
use Rattle.sp_theory.specs.Values.{Weights, Edition, value}
use Rattle.sp_theory.specs.Scaling.{total_weight}
use Rattle.sp_theory.specs.Samples as theory
use Rattle.sp_theory.specs.Book as book
use Rattle.sp_theory.specs.Logs.{Log}
use Rattle.sp_theory.specs.Agreement.{WeightsAgree, AllAgree}
use Rattle.sp_theory.proofs.Agreement.{value_same}
use Rattle.sp_theory.proofs.LogLemmas.{total_weight_same}
use Rattle.sp_model.specs.declared.parts.Parts.{Parts}
use Rattle.sp_model.specs.declared.beliefs.Sample.{Sample}
use Rattle.sp_model.specs.Problem.{problem, sizes_of}
use Rattle.sp_model.specs.Links.{sample_of, weights_of}
use Rattle.sp_value.specs.declared.events.Event.{Event}
use Rattle.sp_value.specs.declared.tasks.Options.{Options}
use Rattle.sp_value.specs.Events.{events_of}
use Rattle.sp_value.specs.Tasks.{TaskParts, task_of, no_sample, sampled_func, weights_at}
use Rattle.sp_session.specs.declared.logs.SessionLog.{SessionLog}
use Rattle.sp_session.specs.Logs.{logs_of}
use Rattle.sp_reader.specs.Sources.{Reads}
use Rattle.sp_reader.proofs.SourceLemmas.{one_meaning}
use Rattle.sp_planfile.specs.ModelText.{model_bytes}
use Rattle.sp_planfile.specs.Contents.{Contents, contents_of, moves_of, move_of}
use Rattle.sp_planfile.proofs.Whole.{text_tells}
use Rattle.sp_filed.specs.Files.{IsPlanFile}
use Rattle.sp_filed.proofs.MoveLaws.{agree_at}
use Rattle.sp_audit.specs.Verdicts.{AreLegal, run_editions, values_after}
use Rattle.sp_audit.proofs.Transcripts as transcripts
use Rattle.sp_judging.proofs.SameRuns as runs

-- ---- samples by the same moves
module _ (p : Parts) (d : theory.Sample) where
  moves_at : (xs rs : List Sample) (j : ℕ) → j < length rs → map move_of xs ≡ map move_of rs
      → ((get_or (map (sample_of p) xs) j d).action ≡ (get_or (map (sample_of p) rs) j d).action) × ((get_or (map (sample_of p) xs) j d).observation ≡ (get_or (map (sample_of p) rs) j d).observation)
  moves_at xs [] j less e = absurd (omega (arith, less))
  moves_at [] (r ∷ rs) j less e = cc
  moves_at (x ∷ xs) (r ∷ rs) zero less e = let first : move_of x ≡ move_of r = cc e in (ap (λ (z : ℕ × ℕ). z.0) first, ap (λ (z : ℕ × ℕ). z.1) first)
  moves_at (x ∷ xs) (r ∷ rs) (suc j) less e = let rest : map move_of xs ≡ map move_of rs = cc e in moves_at xs rs j (omega (arith, less)) rest

module _ (p : Parts) (depth : ℕ) where
  samples_agree : (xs rs : List Sample) → theory.AreSamplesOf (problem p) depth (map (sample_of p) xs) → theory.AreSamplesOf (problem p) depth (map (sample_of p) rs)
      → length rs ≡ length xs → moves_of xs ≡ moves_of rs → (k : ℕ) → k < length rs
      → WeightsAgree (problem p) (theory.sample_at (problem p) (map (sample_of p) xs) k).weights (theory.sample_at (problem p) (map (sample_of p) rs) k).weights
  samples_agree xs [] a b count moves k less = absurd (omega (arith, less))
  samples_agree [] (r ∷ rs) a b count moves k less = absurd (omega (arith, count))
  samples_agree (x ∷ xs) (r ∷ rs) a b count moves k less =
      let long = length-map xs (sample_of p) in
      let wide = length-map rs (sample_of p) in
      agree_at (problem p) depth (map (sample_of p) (x ∷ xs)) (map (sample_of p) (r ∷ rs)) a b (omega (arith, count, long, wide))
      (λ j short. moves_at p (theory.first_sample (problem p)) xs rs j (omega (arith, short, wide)) moves) k (omega (arith, less, wide))

  sampled_agree : (xs rs : List Sample) → theory.AreSamplesOf (problem p) depth (map (sample_of p) xs) → theory.AreSamplesOf (problem p) depth (map (sample_of p) rs)
      → length rs ≡ length xs → moves_of xs ≡ moves_of rs → (k : ℕ) → k < length rs
      → WeightsAgree (problem p) (weights_of p (get_or xs k no_sample).weights) (weights_of p (get_or rs k no_sample).weights)
  sampled_agree xs rs a b count moves k less =
      let one = get_or-map (sample_of p) xs k no_sample (theory.first_sample (problem p)) (omega (arith, less, count)) in
      let two = get_or-map (sample_of p) rs k no_sample (theory.first_sample (problem p)) less in
      subst (λ (z : theory.Sample). WeightsAgree (problem p) z.weights (weights_of p (get_or rs k no_sample).weights)) one
      (subst (λ (z : theory.Sample). WeightsAgree (problem p) (theory.sample_at (problem p) (map (sample_of p) xs) k).weights z.weights) two (samples_agree xs rs a b count moves k less))

-- ---- values of editions that agree
abbrev pub values_with : Model → Weights → List Edition → List ℤ
values_with m w editions = map (λ e. floor (value m e w) (total_weight m w)) editions

values_same : (m : Model) (w x : Weights) → WeightsAgree m w x → (editions others : List Edition) → AllAgree m editions others → values_with m w editions ≡ values_with m x others
values_same m w x weights [] [] agree = refl
values_same m w x weights (e ∷ es) (f ∷ fs) (first, rest) = λ h. floor (value_same m e f w x first weights h) (total_weight_same m w x weights h) ∷ values_same m w x weights es fs rest h
values_same m w x weights [] (f ∷ fs) agree = absurd agree
values_same m w x weights (e ∷ es) [] agree = absurd agree

-- ---- two readings
module _ (source : List ℕ) (t u : TaskParts) (events others : List Event) (values more : Option (List ℤ)) (transcript logs : List SessionLog)
    (a : IsPlanFile source t events values transcript) (b : IsPlanFile source u others more logs) where
  same_contents : contents_of (model_bytes u.model) u others more logs ≡ contents_of (model_bytes t.model) t events values transcript
  same_contents = text_tells (length u.model.actions) (count_of (sizes_of u.model.sights)) (length t.model.actions) (count_of (sizes_of t.model.sights)) _ _ b.form a.form (sym b.text ∙ a.text)

  same_model : u.model ≡ t.model
  same_model = one_meaning (model_bytes t.model) u.model t.model (subst (λ (s : List ℕ). Reads s u.model) (ap (λ (c : Contents). c.model) same_contents) b.reads) a.reads

  same_options : u.options ≡ t.options
  same_options = ap (λ (c : Contents). c.options) same_contents

  same_events : events_of others ≡ events_of events
  same_events = ap (λ (c : Contents). c.events) same_contents

  pub same_values : more ≡ values
  same_values = ap (λ (c : Contents). c.values) same_contents

  same_logs : logs_of logs ≡ logs_of transcript
  same_logs = ap (λ (c : Contents). c.logs) same_contents

  -- the other reading's samples, as functions of the model
  abbrev other_weights : ℕ → Weights
  other_weights k = weights_of t.model (sampled_func u k)

  weights_agree : (k : ℕ) → k < t.options.beliefs → WeightsAgree (problem t.model) (other_weights k) (weights_at t k)
  weights_agree k less =
      let beliefs = ap (λ (o : Options). o.beliefs) same_options in
      let depth : u.samples.depth ≡ t.samples.depth = b.task.depth ∙ ap (λ (o : Options). o.depth) same_options ∙ sym a.task.depth in
      let sampled : theory.AreSamplesOf (problem t.model) t.samples.depth (map (sample_of t.model) u.samples.list) =
      subst (λ (p : Parts). theory.AreSamplesOf (problem p) t.samples.depth (map (sample_of p) u.samples.list)) same_model
      (subst (λ (n : ℕ). theory.AreSamplesOf (problem u.model) n (map (sample_of u.model) u.samples.list)) depth b.task.sampled) in
      sampled_agree t.model t.samples.depth u.samples.list t.samples.list sampled a.task.sampled (a.task.count ∙ sym beliefs ∙ sym b.task.count)
      (ap (λ (c : Contents). c.moves) same_contents) k (let n = a.task.count in omega (arith, less, n))

  -- the other reading's task, on the model and with the options of this one
  abbrev middle : book.Task
  middle = record { model = problem t.model; beliefs = t.options.beliefs; samples = other_weights; stages = t.options.stages }

  middle_is : task_of u ≡ middle
  middle_is = λ h. record { model = problem (same_model h); beliefs = (same_options h).beliefs; samples = λ k. weights_of (same_model h) (sampled_func u k); stages = (same_options h).stages }

  legal_middle : AreLegal (task_of u) (events_of others) (logs_of logs) → AreLegal middle (events_of events) (logs_of transcript)
  legal_middle legal =
      subst (λ (w : book.Task). AreLegal w (events_of events) (logs_of transcript)) middle_is
      (subst (λ (es : List book.Event). AreLegal (task_of u) es (logs_of transcript)) same_events
      (subst (λ (ls : List Log). AreLegal (task_of u) (events_of others) ls) same_logs legal))

  -- what is legal as it is told once is legal as it is told again
  pub legal_again : AreLegal (task_of u) (events_of others) (logs_of logs) → AreLegal (task_of t) (events_of events) (logs_of transcript)
  legal_again legal =
      let there = legal_middle legal in
      let (run, agree) = runs.legal_too (problem t.model) t.options.beliefs t.options.stages other_weights (weights_at t) weights_agree (events_of events) there.run in
      record { run = run; transcript = transcripts.legal_too (problem t.model) (run_editions middle (events_of events)) (run_editions (task_of t) (events_of events)) agree (logs_of transcript) there.transcript }

  -- and its editions have the same values
  pub values_again : AreLegal (task_of u) (events_of others) (logs_of logs) → values_after u (events_of others) ≡ values_after t (events_of events)
  values_again legal =
      let there = legal_middle legal in
      let (run, agree) = runs.legal_too (problem t.model) t.options.beliefs t.options.stages other_weights (weights_at t) weights_agree (events_of events) there.run in
      let moved : values_after u (events_of others) ≡ values_with (problem t.model) (other_weights 0) (run_editions middle (events_of events)) =
      λ h. values_with (problem (same_model h)) (weights_of (same_model h) (sampled_func u 0)) (run_editions (middle_is h) (same_events h)) in
      moved ∙ values_same (problem t.model) (other_weights 0) (weights_at t 0) (weights_agree 0 (let some = a.task.some_beliefs in omega (arith, some))) (run_editions middle (events_of events)) (run_editions (task_of t) (events_of events)) agree

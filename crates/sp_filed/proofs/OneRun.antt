-- What a plan file tells is one run with one transcript.
use Rattle.std.proofs.Common.{◌≡◌, ℕ, ◌<◌, List, [], ◌∷◌, length, get_or, map, refl, ap, sym, ◌∙◌, arith, subst, append-nil}
use Rattle.std.proofs.lemmas.List.{get_or-map, length-map}
use Rattle.sp_theory.specs.Logs as logs
use Rattle.sp_theory.specs.Samples as theory
use Rattle.sp_theory.specs.Agreement.{WeightsAgree}
use Rattle.sp_model.specs.declared.parts.Parts.{Parts}
use Rattle.sp_model.specs.declared.beliefs.Sample.{Sample}
use Rattle.sp_model.specs.Problem.{problem}
use Rattle.sp_model.specs.Links.{sample_of, weights_of}
use Rattle.sp_value.specs.declared.events.Event.{Event}
use Rattle.sp_value.specs.declared.events.Event.TheVariants.{Settle, Publish, Prune, End}
use Rattle.sp_value.specs.declared.tasks.Options.{Options}
use Rattle.sp_value.specs.Events.{event_of}
use Rattle.sp_value.specs.Tasks.{weights_at, no_sample}
use Rattle.sp_session.specs.declared.logs.Entry.{Entry}
use Rattle.sp_session.specs.declared.logs.Entry.TheVariants.{Told, Act, Observe, Unseen, Closing}
use Rattle.sp_session.specs.declared.logs.SessionLog.{SessionLog}
use Rattle.sp_session.specs.Logs.{entry_of, log_of}
use Rattle.sp_reader.specs.Sources.{Reads}
use Rattle.sp_reader.proofs.SourceLemmas.{one_meaning}
use Rattle.sp_planfile.specs.ModelText.{model_bytes}
use Rattle.sp_planfile.specs.Contents.{Contents, contents_of, move_of, moves_of}
use Rattle.sp_planfile.proofs.Whole.{text_tells}
use Rattle.sp_filed.specs.Laws.{PlanFilesTellOneRun}
use Rattle.sp_filed.proofs.MoveLaws.{same_moves, agree_at}

-- ---- events and logs
event_told : (x y : Event) → event_of x ≡ event_of y → x ≡ y
event_told (Settle k e a l) (Settle k' e' a' l') same = cc same
event_told (Settle k e a l) Publish same = cc same
event_told (Settle k e a l) (Prune pairs) same = cc same
event_told (Settle k e a l) End same = cc same
event_told Publish (Settle k e a l) same = cc same
event_told Publish Publish same = refl
event_told Publish (Prune pairs) same = cc same
event_told Publish End same = cc same
event_told (Prune pairs) (Settle k e a l) same = cc same
event_told (Prune pairs) Publish same = cc same
event_told (Prune pairs) (Prune others) same = cc same
event_told (Prune pairs) End same = cc same
event_told End (Settle k e a l) same = cc same
event_told End Publish same = cc same
event_told End (Prune pairs) same = cc same
event_told End End same = refl

entry_told : (x y : Entry) → entry_of x ≡ entry_of y → x ≡ y
entry_told (Told e) (Told f) same = cc same
entry_told (Told e) (Act f id a) same = cc same
entry_told (Told e) (Observe o) same = cc same
entry_told (Told e) (Unseen o) same = cc same
entry_told (Told e) (Closing f id a) same = cc same
entry_told (Act e id a) (Told f) same = cc same
entry_told (Act e id a) (Act f jd b) same = cc same
entry_told (Act e id a) (Observe o) same = cc same
entry_told (Act e id a) (Unseen o) same = cc same
entry_told (Act e id a) (Closing f jd b) same = cc same
entry_told (Observe o) (Told f) same = cc same
entry_told (Observe o) (Act f id a) same = cc same
entry_told (Observe o) (Observe r) same = cc same
entry_told (Observe o) (Unseen r) same = cc same
entry_told (Observe o) (Closing f id a) same = cc same
entry_told (Unseen o) (Told f) same = cc same
entry_told (Unseen o) (Act f id a) same = cc same
entry_told (Unseen o) (Observe r) same = cc same
entry_told (Unseen o) (Unseen r) same = cc same
entry_told (Unseen o) (Closing f id a) same = cc same
entry_told (Closing e id a) (Told f) same = cc same
entry_told (Closing e id a) (Act f jd b) same = cc same
entry_told (Closing e id a) (Observe o) same = cc same
entry_told (Closing e id a) (Unseen o) same = cc same
entry_told (Closing e id a) (Closing f jd b) same = cc same

-- a list is told by what each of its items tells
each_told : {X Y : Type 0} (f : X → Y) → ((x y : X) → f x ≡ f y → x ≡ y) → (xs ys : List X) → map f xs ≡ map f ys → xs ≡ ys
each_told f told [] [] e = refl
each_told f told [] (y ∷ ys) e = cc e
each_told f told (x ∷ xs) [] e = cc e
each_told f told (x ∷ xs) (y ∷ ys) e =
    let head : f x ≡ f y = cc e in
    let tail : map f xs ≡ map f ys = cc e in
    let first = told x y head in
    let rest = each_told f told xs ys tail in
    cc (first, rest)

log_told : (x y : SessionLog) → log_of x ≡ log_of y → x ≡ y
log_told x y e =
    let name = ap (λ (l : logs.Log). l.name) e in
    let entries = each_told entry_of entry_told x.entries y.entries (ap (λ (l : logs.Log). l.entries) e) in
    (λ i. let r : SessionLog = record { name = name i; entries = entries i } in r)

-- ---- sampled beliefs
module _ (p : Parts) (depth : ℕ) where
  abbrev AreOf : List Sample → Type 0
  AreOf xs = theory.AreSamplesOf (problem p) depth (map (sample_of p) xs)

  all_moves : (xs ys : List Sample) → AreOf xs → AreOf ys → length xs ≡ length ys → moves_of xs ≡ moves_of ys → map move_of xs ≡ map move_of ys
  all_moves [] [] a b count moves = refl
  all_moves [] (y ∷ ys) a b count moves = absurd (omega (arith, count))
  all_moves (x ∷ xs) [] a b count moves = absurd (omega (arith, count))
  all_moves (x ∷ xs) (y ∷ ys) a b count moves =
      let one = a.first (omega arith) in
      let other = b.first (omega arith) in
      let first : move_of x ≡ move_of y = (λ i. ((one.action ∙ sym other.action) i, (one.observation ∙ sym other.observation) i)) in
      let rest : map move_of xs ≡ map move_of ys = moves in
      cc (first, rest)

  weights_same : (xs ys : List Sample) → AreOf xs → AreOf ys → length xs ≡ length ys → moves_of xs ≡ moves_of ys → (k : ℕ) → k < length xs
      → WeightsAgree (problem p) (weights_of p (get_or xs k no_sample).weights) (weights_of p (get_or ys k no_sample).weights)
  weights_same [] ys a b count moves k less = absurd (omega (arith, less))
  weights_same (x ∷ xs) [] a b count moves k less = absurd (omega (arith, count))
  weights_same (x ∷ xs) (y ∷ ys) a b count moves k less =
      let d = theory.first_sample (problem p) in
      let here : k < length (y ∷ ys) = omega (arith, less, count) in
      let agree = agree_at (problem p) depth (map (sample_of p) (x ∷ xs)) (map (sample_of p) (y ∷ ys)) a b (omega (arith, count, length-map xs (sample_of p), length-map ys (sample_of p)))
      (λ j short. same_moves p d xs ys [] j (omega (arith, short, length-map ys (sample_of p))) (moves ∙ sym (append-nil (map move_of ys))))
      k (omega (arith, here, length-map ys (sample_of p))) in
      subst (λ (z : theory.Sample). WeightsAgree (problem p) z.weights (weights_of p (get_or (y ∷ ys) k no_sample).weights)) (get_or-map (sample_of p) (x ∷ xs) k no_sample d less)
      (subst (λ (z : theory.Sample). WeightsAgree (problem p) (get_or (map (sample_of p) (x ∷ xs)) k d).weights z.weights) (get_or-map (sample_of p) (y ∷ ys) k no_sample d here) agree)

-- ---- the whole
pub one_run : PlanFilesTellOneRun
one_run source t u events others values numbers transcript log_list a b =
    let c = contents_of (model_bytes t.model) t events values transcript in
    let d = contents_of (model_bytes u.model) u others numbers log_list in
    let same : c ≡ d = text_tells _ _ _ _ c d a.form b.form (sym a.text ∙ b.text) in
    let bytes = ap (λ (x : Contents). x.model) same in
    let model : t.model ≡ u.model = one_meaning (model_bytes t.model) t.model u.model a.reads (subst (λ l. Reads l u.model) (sym bytes) b.reads) in
    let options = ap (λ (x : Contents). x.options) same in
    let moves = ap (λ (x : Contents). x.moves) same in
    let depth : t.samples.depth ≡ u.samples.depth = a.task.depth ∙ ap (λ (o : Options). o.depth) options ∙ sym b.task.depth in
    let count : length t.samples.list ≡ length u.samples.list = a.task.count ∙ ap (λ (o : Options). o.beliefs) options ∙ sym b.task.count in
    let sampled : theory.AreSamplesOf (problem t.model) t.samples.depth (map (sample_of t.model) u.samples.list) =
    subst (λ (p : Parts). theory.AreSamplesOf (problem p) t.samples.depth (map (sample_of p) u.samples.list)) (sym model)
    (subst (λ n. theory.AreSamplesOf (problem u.model) n (map (sample_of u.model) u.samples.list)) (sym depth) b.task.sampled) in (
      record {
        model = model;
        options = options;
        depth = depth;
        moves = all_moves t.model t.samples.depth t.samples.list u.samples.list a.task.sampled sampled count moves;
        weights = λ k less.
            subst (λ (p : Parts). WeightsAgree (problem t.model) (weights_at t k) (weights_of p (get_or u.samples.list k no_sample).weights)) model
            (weights_same t.model t.samples.depth t.samples.list u.samples.list a.task.sampled sampled count moves k (omega (arith, less, a.task.count)));
      },
      each_told event_of event_told events others (ap (λ (x : Contents). x.events) same),
      ap (λ (x : Contents). x.values) same,
      each_told log_of log_told transcript log_list (ap (λ (x : Contents). x.logs) same),
    )

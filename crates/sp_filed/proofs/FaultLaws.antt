-- A plan file has no fault.
use Rattle.std.proofs.Common.{◌≡◌, ℕ, List, ◌∷◌, ◌++◌, length, map, get_or, Bool, true, false, refl, ap, sym, ◌∙◌, arith, codes, subst, inl, inr}
use Rattle.std.specs.Prelude.{is_some}
use Rattle.sp_theory.specs.Points.{count_of}
use Rattle.sp_theory.specs.Samples as theory
use Rattle.sp_model.specs.declared.parts.Parts.{Parts}
use Rattle.sp_model.specs.declared.beliefs.Sample as samples
use Rattle.sp_model.specs.Problem.{sizes_of, problem}
use Rattle.sp_model.specs.Links.{sample_of}
use Rattle.sp_reader.specs.Sources.{Reads}
use Rattle.sp_reader.proofs.SourceLemmas.{one_meaning}
use Rattle.sp_planfile.specs.Contents.{Contents, contents_of, moves_of}
use Rattle.sp_planfile.specs.ModelText.{model_bytes}
use Rattle.sp_planfile.specs.PlanText.{head_text, version_line, plan_text, text_from_options}
use Rattle.sp_planfile.specs.Form.{IsInForm}
use Rattle.sp_planfile.proofs.Sections.{head_told, model_told, behind_same}
use Rattle.sp_filed.specs.declared.error.PlanKind.{PlanKind}
use Rattle.sp_filed.specs.declared.error.PlanKind.TheVariants.{Model, Sample, Shape}
use Rattle.sp_filed.specs.Tails.{StopsBehindModel, IsUnseenBehindModel}
use Rattle.sp_filed.specs.Files.{IsDivided, IsModelText, StopsAtHead, IsFaultBefore}
use Rattle.sp_filed.specs.Laws.{PlanFilesAreNotAtFault}
use Rattle.sp_filed.proofs.ModelLaws.{no_stop_behind_model, no_unseen_behind_model}

-- ---- the head
pub version_told : (b d : Bool) (us vs : List ℕ) → version_line b ++ (10 ∷ us) ≡ version_line d ++ (10 ∷ vs) → us ≡ vs
version_told true true us vs e = behind_same (codes "perseus-plan 2\n") us vs e
version_told false false us vs e = behind_same (codes "perseus-plan 1\n") us vs e
version_told true false us vs e = absurd (let other : 50 ≡ 49 = ap (λ l. get_or l 13 0) e in omega (arith, other))
version_told false true us vs e = absurd (let other : 49 ≡ 50 = ap (λ l. get_or l 13 0) e in omega (arith, other))

head_is : (b : Bool) (us : List ℕ) → head_text b ++ us ≡ version_line b ++ (10 ∷ (codes "model\n" ++ us))
head_is true us = refl
head_is false us = refl

pub no_stop_at_head : (b : Bool) (us source : List ℕ) (left : ℕ) → source ≡ head_text b ++ us → StopsAtHead source left → ⊥
no_stop_at_head b us source left e (inl (none, bytes)) = none b (codes "model\n" ++ us) (e ∙ head_is b us)
no_stop_at_head b us source left e (inr (d, rest, is, none, bytes)) = none us (sym (version_told b d (codes "model\n" ++ us) rest (sym (head_is b us) ∙ sym e ∙ is)))

-- ---- the whole
module _ (p : Parts) (c : Contents) (model : c.model ≡ model_bytes p) (reads : Reads (model_bytes p) p) (form : IsInForm (length p.actions) (count_of (sizes_of p.sights)) c) (source : List ℕ) (is : source ≡ plan_text c) where
  -- the model's lines, and what stands behind them, are told
  division_told : (has_values : Bool) (body rest : List ℕ) → IsDivided source has_values body rest → (is_some c.values ≡ has_values) × (c.model ≡ body) × (text_from_options c ≡ rest)
  division_told has_values body rest divided =
      let head = head_told (is_some c.values) has_values (c.model ++ (codes "endmodel\n" ++ text_from_options c)) (body ++ (codes "endmodel\n" ++ rest)) (sym is ∙ divided.is) in
      let lines = model_told c.model body (text_from_options c) rest form.model divided.lines head.1 in
      (head.0, lines.0, lines.1)

  model_is : (body : List ℕ) (q : Parts) → c.model ≡ body → IsModelText body q → q ≡ p
  model_is body q same text = one_meaning (model_bytes p) q p (subst (λ l. Reads l q) (sym same ∙ model) text.0) reads

  no_fault : (list : List samples.Sample) → c.moves ≡ moves_of list → length list ≡ c.options.beliefs → theory.AreSamplesOf (problem p) c.options.depth (map (sample_of p) list) → (left : ℕ) (kind : PlanKind) → IsFaultBefore source left kind → ⊥
  no_fault list moves count sampled left Shape (inl stops) = no_stop_at_head (is_some c.values) (c.model ++ (codes "endmodel\n" ++ text_from_options c)) source left is stops
  no_fault list moves count sampled left Shape (inr (inl ((has_values, rest, at, none), bytes))) =
      let head = head_told (is_some c.values) has_values (c.model ++ (codes "endmodel\n" ++ text_from_options c)) rest (sym is ∙ at) in
      none c.model (text_from_options c) form.model (sym head.1)
  no_fault list moves count sampled left Shape (inr (inr (has_values, body, rest, q, divided, text, stops))) =
      let told = division_told has_values body rest divided in
      no_stop_behind_model p c form list moves count sampled left
      (subst (λ b. StopsBehindModel b p (text_from_options c) left) (sym told.0)
      (subst (λ x. StopsBehindModel has_values x (text_from_options c) left) (model_is body q told.1 text)
      (subst (λ l. StopsBehindModel has_values q l left) (sym told.2) stops)))
  no_fault list moves count sampled left Model (has_values, body, rest, divided, none, bytes) =
      let told = division_told has_values body rest divided in
      none p (subst (λ l. Reads l p) (sym model ∙ told.1) reads, sym told.1 ∙ model)
  no_fault list moves count sampled left Sample (has_values, body, rest, q, divided, text, stops) =
      let told = division_told has_values body rest divided in
      no_unseen_behind_model p c form list moves count sampled left
      (subst (λ x. IsUnseenBehindModel x (text_from_options c) left) (model_is body q told.1 text)
      (subst (λ l. IsUnseenBehindModel q l left) (sym told.2) stops))

pub plan_files_are_not_at_fault : PlanFilesAreNotAtFault
plan_files_are_not_at_fault source t events values transcript at kind file (left, fault, place) =
    no_fault t.model (contents_of (model_bytes t.model) t events values transcript) refl file.reads file.form source file.text t.samples.list refl file.task.count
    (subst (λ n. theory.AreSamplesOf (problem t.model) n (map (sample_of t.model) t.samples.list)) file.task.depth file.task.sampled) left kind fault

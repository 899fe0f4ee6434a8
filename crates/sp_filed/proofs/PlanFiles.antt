-- A plan file from its parts, and its faults.
use Rattle.std.proofs.Common.{◌≡◌, ℕ, ℤ, List, [], ◌++◌, length, Bool, Option, Some, None, ap, sym, ◌∙◌, codes, subst, inr}
use Rattle.sp_theory.specs.Points.{count_of}
use Rattle.sp_model.specs.declared.parts.Parts.{Parts}
use Rattle.sp_model.specs.Problem.{sizes_of}
use Rattle.sp_value.specs.declared.events.Event.{Event}
use Rattle.sp_value.specs.Tasks.{TaskParts}
use Rattle.sp_session.specs.declared.logs.SessionLog.{SessionLog}
use Rattle.sp_reader.specs.Sources.{Reads}
use Rattle.sp_planfile.specs.Contents.{contents_of}
use Rattle.sp_planfile.specs.PlanText.{head_text, plan_text, text_from_options}
use Rattle.sp_planfile.specs.Form.{AreModelLines, IsInForm}
use Rattle.sp_filed.specs.declared.moves.Unsampled.{Unsampled}
use Rattle.sp_filed.specs.declared.moves.Unsampled.TheVariants as stops
use Rattle.sp_filed.specs.declared.error.PlanKind.{PlanKind}
use Rattle.sp_filed.specs.declared.error.PlanKind.TheVariants.{Model, Sample, Shape}
use Rattle.sp_filed.specs.Tails.{StopsBehindModel, IsUnseenBehindModel, IsReadBehindModel}
use Rattle.sp_planfile.specs.ModelText.{model_bytes}
use Rattle.sp_filed.specs.Files.{IsPlanFile, IsDivided, IsModelText, IsFaultBefore, IsSecondVersion, IsSampleReason, StopsInRest}

pub rest_told : (has_values : Bool) (p : Parts) (text : List ℕ) (stop : Unsampled) (left : ℕ) (kind : PlanKind) → IsSampleReason stop left kind
    → ((n : ℕ) → stop ≡ stops.Shape n → StopsBehindModel has_values p text n) → ((n : ℕ) → stop ≡ stops.Sample n → IsUnseenBehindModel p text n) → StopsInRest has_values p text left kind
rest_told has_values p text stop left Shape reason shape sample = shape left reason
rest_told has_values p text stop left Sample reason shape sample = sample left reason
rest_told has_values p text stop left Model reason shape sample = absurd reason

module _ (source lines body rest : List ℕ) (has_values : Bool) (p : Parts) (head : source ≡ head_text has_values ++ lines) (good : AreModelLines body)
    (is : lines ≡ body ++ (codes "endmodel\n" ++ rest)) (model : IsModelText body p) where
  pub divided : IsDivided source has_values body rest
  divided = record { is = head ∙ ap (λ l. head_text has_values ++ l) is; lines = good }

  pub fault_told : (left : ℕ) (kind : PlanKind) → StopsInRest has_values p rest left kind → IsFaultBefore source left kind
  fault_told left Shape stops = inr (inr (has_values, body, rest, p, divided, model, stops))
  fault_told left Sample stops = (has_values, body, rest, p, divided, model, stops)
  fault_told left Model stops = absurd stops

  pub file_told : (t : TaskParts) (events : List Event) (values : Option (List ℤ)) (transcript : List SessionLog) → IsReadBehindModel has_values p rest t events values transcript → IsPlanFile source t events values transcript
  file_told t events values transcript read =
      let bytes : body ≡ model_bytes t.model = model.1 ∙ ap model_bytes (sym read.model) in
      let form : IsInForm (length t.model.actions) (count_of (sizes_of t.model.sights)) (contents_of body t events values transcript) =
      subst (λ (q : Parts). IsInForm (length q.actions) (count_of (sizes_of q.sights)) (contents_of body t events values transcript)) (sym read.model) (read.form body good) in
      let text : source ≡ plan_text (contents_of body t events values transcript) =
      head ∙ ap (λ l. head_text has_values ++ l) (is ∙ ap (λ l. body ++ (codes "endmodel\n" ++ l)) read.is)
      ∙ ap (λ b. head_text b ++ (body ++ (codes "endmodel\n" ++ text_from_options (contents_of [] t events values transcript)))) (sym read.version) in
      record {
        task = read.task;
        text = text ∙ ap (λ m. plan_text (contents_of m t events values transcript)) bytes;
        reads = subst (λ m. Reads m t.model) bytes (subst (λ q. Reads body q) (sym read.model) model.0);
        form = subst (λ m. IsInForm (length t.model.actions) (count_of (sizes_of t.model.sights)) (contents_of m t events values transcript)) bytes form;
      }

-- what doesn't begin with the line of version 2 has no values
pub first_version : (source : List ℕ) (t : TaskParts) (events : List Event) (values : Option (List ℤ)) (transcript : List SessionLog) → IsPlanFile source t events values transcript → ¬ (IsSecondVersion source) → IsPlanFile source t events None transcript
first_version source t events None transcript file other = file
first_version source t events (Some values) transcript file other =
    let c = contents_of (model_bytes t.model) t events (Some values) transcript in
    absurd (other (codes "model\n" ++ (c.model ++ (codes "endmodel\n" ++ text_from_options c)), file.text))

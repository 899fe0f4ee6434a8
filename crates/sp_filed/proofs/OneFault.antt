-- Bytes are at fault in one place and in one way.
use Rattle.std.proofs.Common.{◌≡◌, ℕ, ◌-◌, List, ◌++◌, length, Bool, refl, ap, sym, ◌∙◌, codes, subst, inl, inr, ◌⊎◌}
use Rattle.sp_model.specs.declared.parts.Parts.{Parts}
use Rattle.sp_reader.proofs.SourceLemmas.{one_meaning}
use Rattle.sp_planfile.proofs.Sections.{head_told, model_told}
use Rattle.sp_filed.specs.declared.error.PlanKind.{PlanKind}
use Rattle.sp_filed.specs.declared.error.PlanKind.TheVariants.{Model, Sample, Shape}
use Rattle.sp_filed.specs.Tails.{StopsBehindModel, IsUnseenBehindModel}
use Rattle.sp_filed.specs.Files.{IsDivided, IsModelText, StopsAtHead, HasNoEnd, IsFaultBefore}
use Rattle.sp_filed.specs.Laws.{SourcesAreAtFaultOnce}
use Rattle.sp_filed.proofs.FaultLaws.{version_told, no_stop_at_head}
use Rattle.sp_filed.proofs.MoveStops.{behind_model_once, unseen_behind_model_once, not_both_behind_model}

module _ (source : List ℕ) where
  -- ---- the head and the model's end
  at_head_once : (left right : ℕ) → StopsAtHead source left → StopsAtHead source right → left ≡ right
  at_head_once left right (inl (none, bytes)) (inl (nothing, size)) = bytes ∙ sym size
  at_head_once left right (inl (none, bytes)) (inr (b, rest, is, nothing, size)) = absurd (none b rest is)
  at_head_once left right (inr (b, rest, is, none, bytes)) (inl (nothing, size)) = absurd (nothing b rest is)
  at_head_once left right (inr (b, rest, is, none, bytes)) (inr (d, more, e, nothing, size)) = bytes ∙ ap length (version_told b d rest more (sym is ∙ e)) ∙ sym size

  not_head_and_no_end : (left : ℕ) → StopsAtHead source left → HasNoEnd source → ⊥
  not_head_and_no_end left stops (b, rest, is, none) = no_stop_at_head b rest source left is stops

  not_head_and_divided : (left : ℕ) (b : Bool) (body rest : List ℕ) → StopsAtHead source left → IsDivided source b body rest → ⊥
  not_head_and_divided left b body rest stops divided = no_stop_at_head b (body ++ (codes "endmodel\n" ++ rest)) source left divided.is stops

  not_no_end_and_divided : (b : Bool) (body rest : List ℕ) → HasNoEnd source → IsDivided source b body rest → ⊥
  not_no_end_and_divided b body rest (d, more, is, none) divided =
      let head = head_told d b more (body ++ (codes "endmodel\n" ++ rest)) (sym is ∙ divided.is) in
      none body rest divided.lines head.1

  -- ---- behind the model's lines
  -- why the rest is at fault: the lines are no model's, or they are and the text stops behind them
  abbrev IsFaultIn : Bool → List ℕ → List ℕ → ℕ → PlanKind → Type 0
  IsFaultIn b body rest left kind =
      ((kind ≡ Model) × ((p : Parts) → ¬ (IsModelText body p)) × (left ≡ length (codes "model\n" ++ (body ++ (codes "endmodel\n" ++ rest)))))
      ⊎ (((p : Parts) × (kind ≡ Shape) × IsModelText body p × StopsBehindModel b p rest left)
      ⊎ ((p : Parts) × (kind ≡ Sample) × IsModelText body p × IsUnseenBehindModel p rest left))

  one_model : (body : List ℕ) (p q : Parts) → IsModelText body p → IsModelText body q → q ≡ p
  one_model body p q one other = one_meaning body q p other.0 one.0

  in_once : (b : Bool) (body rest : List ℕ) (left right : ℕ) (kind sort : PlanKind) → IsFaultIn b body rest left kind → IsFaultIn b body rest right sort → (left ≡ right) × (kind ≡ sort)
  in_once b body rest left right kind sort (inl (is, none, bytes)) (inl (e, nothing, size)) = (bytes ∙ sym size, is ∙ sym e)
  in_once b body rest left right kind sort (inl (is, none, bytes)) (inr (inl (q, e, other, again))) = absurd (none q other)
  in_once b body rest left right kind sort (inl (is, none, bytes)) (inr (inr (q, e, other, again))) = absurd (none q other)
  in_once b body rest left right kind sort (inr (inl (p, is, one, stops))) (inl (e, nothing, size)) = absurd (nothing p one)
  in_once b body rest left right kind sort (inr (inr (p, is, one, stops))) (inl (e, nothing, size)) = absurd (nothing p one)
  in_once b body rest left right kind sort (inr (inl (p, is, one, stops))) (inr (inl (q, e, other, again))) =
      (behind_model_once b p rest left right stops (subst (λ x. StopsBehindModel b x rest right) (one_model body p q one other) again), is ∙ sym e)
  in_once b body rest left right kind sort (inr (inl (p, is, one, stops))) (inr (inr (q, e, other, again))) =
      absurd (not_both_behind_model b p rest left right stops (subst (λ x. IsUnseenBehindModel x rest right) (one_model body p q one other) again))
  in_once b body rest left right kind sort (inr (inr (p, is, one, stops))) (inr (inl (q, e, other, again))) =
      absurd (not_both_behind_model b q rest right left again (subst (λ x. IsUnseenBehindModel x rest left) (one_model body q p other one) stops))
  in_once b body rest left right kind sort (inr (inr (p, is, one, stops))) (inr (inr (q, e, other, again))) =
      (unseen_behind_model_once b p rest left right stops (subst (λ x. IsUnseenBehindModel x rest right) (one_model body p q one other) again), is ∙ sym e)

  -- ---- the whole, by three stages
  abbrev IsFaultStage : ℕ → PlanKind → Type 0
  IsFaultStage left kind =
      ((kind ≡ Shape) × StopsAtHead source left)
      ⊎ (((kind ≡ Shape) × HasNoEnd source × (left ≡ 0))
      ⊎ ((b : Bool) × (body : List ℕ) × (rest : List ℕ) × IsDivided source b body rest × IsFaultIn b body rest left kind))

  stage_of : (left : ℕ) (kind : PlanKind) → IsFaultBefore source left kind → IsFaultStage left kind
  stage_of left Shape (inl stops) = inl (refl, stops)
  stage_of left Shape (inr (inl (none, bytes))) = inr (inl (refl, none, bytes))
  stage_of left Shape (inr (inr (b, body, rest, p, divided, one, stops))) = inr (inr (b, body, rest, divided, inr (inl (p, refl, one, stops))))
  stage_of left Model (b, body, rest, divided, none, bytes) = inr (inr (b, body, rest, divided, inl (refl, none, bytes)))
  stage_of left Sample (b, body, rest, p, divided, one, stops) = inr (inr (b, body, rest, divided, inr (inr (p, refl, one, stops))))

  same_division : (b d : Bool) (body lines rest more : List ℕ) (right : ℕ) (sort : PlanKind) → b ≡ d → body ≡ lines → rest ≡ more → IsFaultIn d lines more right sort → IsFaultIn b body rest right sort
  same_division b d body lines rest more right sort e f g fault =
      subst (λ x. IsFaultIn x body rest right sort) (sym e) (subst (λ x. IsFaultIn d x rest right sort) (sym f) (subst (λ x. IsFaultIn d lines x right sort) (sym g) fault))

  stages_once : (left right : ℕ) (kind sort : PlanKind) → IsFaultStage left kind → IsFaultStage right sort → (left ≡ right) × (kind ≡ sort)
  stages_once left right kind sort (inl (is, stops)) (inl (e, again)) = (at_head_once left right stops again, is ∙ sym e)
  stages_once left right kind sort (inl (is, stops)) (inr (inl (e, none, size))) = absurd (not_head_and_no_end left stops none)
  stages_once left right kind sort (inl (is, stops)) (inr (inr (d, lines, more, divided, fault))) = absurd (not_head_and_divided left d lines more stops divided)
  stages_once left right kind sort (inr (inl (is, none, bytes))) (inl (e, again)) = absurd (not_head_and_no_end right again none)
  stages_once left right kind sort (inr (inl (is, none, bytes))) (inr (inl (e, nothing, size))) = (bytes ∙ sym size, is ∙ sym e)
  stages_once left right kind sort (inr (inl (is, none, bytes))) (inr (inr (d, lines, more, divided, fault))) = absurd (not_no_end_and_divided d lines more none divided)
  stages_once left right kind sort (inr (inr (b, body, rest, divided, fault))) (inl (e, again)) = absurd (not_head_and_divided right b body rest again divided)
  stages_once left right kind sort (inr (inr (b, body, rest, divided, fault))) (inr (inl (e, nothing, size))) = absurd (not_no_end_and_divided b body rest nothing divided)
  stages_once left right kind sort (inr (inr (b, body, rest, divided, fault))) (inr (inr (d, lines, more, another, again))) =
      let head = head_told b d (body ++ (codes "endmodel\n" ++ rest)) (lines ++ (codes "endmodel\n" ++ more)) (sym divided.is ∙ another.is) in
      let told = model_told body lines rest more divided.lines another.lines head.1 in
      in_once b body rest left right kind sort fault (same_division b d body lines rest more right sort head.0 told.0 told.1 again)

pub at_fault_once : SourcesAreAtFaultOnce
at_fault_once source at other kind sort (left, fault, place) (right, again, size) =
    let once = stages_once source left right kind sort (stage_of source left kind fault) (stage_of source right sort again) in
    (place ∙ ap (λ n. length source - n) once.0 ∙ sym size, once.1)

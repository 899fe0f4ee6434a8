-- The bytes of a plan file behind its model have no fault.
use Rattle.std.proofs.Common.{◌≡◌, ℕ, List, [], ◌∷◌, ◌++◌, length, map, refl, ap, sym, ◌∙◌, arith, subst, inl, inr}
use Rattle.std.specs.Prelude.{is_some}
use Rattle.std.specs.List.{AllByRecursion}
use Rattle.sp_theory.specs.Points.{count_of}
use Rattle.sp_theory.specs.Book.{Event, settle, publish, prune, end}
use Rattle.sp_theory.specs.Samples as theory
use Rattle.sp_model.specs.declared.parts.Parts.{Parts}
use Rattle.sp_model.specs.declared.beliefs.Sample.{Sample}
use Rattle.sp_model.specs.Problem.{sizes_of, problem}
use Rattle.sp_model.specs.Links.{sample_of}
use Rattle.sp_lines.specs.Lines.{lines_of, IsSmall}
use Rattle.sp_planfile.specs.Contents.{Contents, moves_of}
use Rattle.sp_planfile.specs.PlanText.{belief_line, text_from_options, text_from_moves, text_from_events}
use Rattle.sp_planfile.specs.Form.{IsEventInForm, IsInForm}
use Rattle.sp_planfile.proofs.Sections.{lines_told}
use Rattle.sp_planfile.proofs.OptionTexts.{options_told}
use Rattle.sp_filed.specs.declared.sizes.Sizes.{Sizes}
use Rattle.sp_filed.specs.Sizes.{IsMoveOf, IsEventOf}
use Rattle.sp_filed.specs.Stops.{AreLogs}
use Rattle.sp_filed.specs.Sampled.{IsUnseenMove}
use Rattle.sp_filed.specs.Tails.{sizes_for, StopsBehindMoves, StopsBehindOptions, StopsBehindModel, IsUnseenBehindModel}
use Rattle.sp_filed.proofs.Readings.{moves_count}
use Rattle.sp_filed.proofs.LogLaws.{logs_of_form}
use Rattle.sp_filed.proofs.TailLaws.{no_stop_behind_moves}
use Rattle.sp_filed.proofs.MoveLaws.{moves_of_form, line_of_move_lacks, line_of_move_tells, no_stop_in_moves, no_unseen_move}

-- what is in form, with numbers of 64 bits
events_of_form : (s : Sizes) (xs : List Event) → IsSmall s.beliefs → IsSmall s.actions → AllByRecursion (IsEventInForm s.beliefs s.actions s.joint) xs → AllByRecursion (IsEventOf s) xs
events_of_form s [] few less all = tt
events_of_form s (settle k e a links ∷ xs) few less all =
    let form = all.0 in
    ((form, (omega (arith, form.0, few), (form.1, (omega (arith, form.2, less), form.4)))), events_of_form s xs few less all.1)
events_of_form s (publish ∷ xs) few less all = ((all.0, tt), events_of_form s xs few less all.1)
events_of_form s (prune pairs ∷ xs) few less all = ((all.0, all.0.1), events_of_form s xs few less all.1)
events_of_form s (end ∷ xs) few less all = ((all.0, tt), events_of_form s xs few less all.1)

module _ (p : Parts) (c : Contents) (form : IsInForm (length p.actions) (count_of (sizes_of p.sights)) c) (list : List Sample) (moves : c.moves ≡ moves_of list) (count : length list ≡ c.options.beliefs)
    (sampled : theory.AreSamplesOf (problem p) c.options.depth (map (sample_of p) list)) where
  logs_good : AreLogs (sizes_for p c.options) c.logs
  logs_good = record { each = logs_of_form (sizes_for p c.options) c.logs form.few_actions form.few_joint form.logs; different = form.names }

  moves_good : AllByRecursion (IsMoveOf (sizes_for p c.options)) (moves_of list)
  moves_good = subst (AllByRecursion (IsMoveOf (sizes_for p c.options))) moves (moves_of_form (sizes_for p c.options) c.moves form.few_actions form.few_joint form.moves)

  events_good : AllByRecursion (IsEventOf (sizes_for p c.options)) c.events
  events_good = events_of_form (sizes_for p c.options) c.events (omega (arith, form.options.few_beliefs)) form.few_actions form.events

  moves_text : lines_of belief_line (moves_of list) ++ text_from_events c ≡ text_from_moves c
  moves_text = ap (λ l. lines_of belief_line l ++ text_from_events c) (sym moves)

  no_stop_behind_options : (left : ℕ) → StopsBehindOptions (is_some c.values) p c.options (text_from_moves c) left → ⊥
  no_stop_behind_options left (inl stops) = no_stop_in_moves p (sizes_for p c.options) c.options.depth list moves_good count sampled (text_from_events c) (text_from_moves c) left moves_text stops
  no_stop_behind_options left (inr (xs, rest, are, others, is, stops)) =
      let counts : length (moves_of list) ≡ length (moves_of xs) =
      omega (arith, count, others, moves_count list (omega (arith, count, form.options.some_beliefs)), moves_count xs (omega (arith, others, form.options.some_beliefs))) in
      let lines = lines_told belief_line (IsMoveOf (sizes_for p c.options)) (line_of_move_lacks (sizes_for p c.options)) (line_of_move_tells (sizes_for p c.options)) (moves_of list) (moves_of xs) (text_from_events c) rest counts moves_good are.moves (moves_text ∙ is) in
      no_stop_behind_moves (sizes_for p c.options) c.logs form.log_count logs_good c.events c.values left form.event_count events_good form.values
      (subst (λ l. StopsBehindMoves (is_some c.values) (sizes_for p c.options) l left) (sym lines.1) stops)

  pub no_stop_behind_model : (left : ℕ) → StopsBehindModel (is_some c.values) p (text_from_options c) left → ⊥
  no_stop_behind_model left (inl (none, bytes)) = none (c.options, text_from_moves c, form.options, refl)
  no_stop_behind_model left (inr (o, rest, good, is, stops)) =
      let told = options_told c.options o (text_from_moves c) rest form.options good is in
      no_stop_behind_options left (subst (λ x. StopsBehindOptions (is_some c.values) p x (text_from_moves c) left) (sym told.0) (subst (λ l. StopsBehindOptions (is_some c.values) p o l left) (sym told.1) stops))

  pub no_unseen_behind_model : (left : ℕ) → IsUnseenBehindModel p (text_from_options c) left → ⊥
  no_unseen_behind_model left (o, rest, good, is, stops) =
      let told = options_told c.options o (text_from_moves c) rest form.options good is in
      no_unseen_move p (sizes_for p c.options) c.options.depth list moves_good count sampled (text_from_events c) (text_from_moves c) left moves_text
      (subst (λ x. IsUnseenMove p (sizes_for p x) x.depth (text_from_moves c) left) (sym told.0) (subst (λ l. IsUnseenMove p (sizes_for p o) o.depth l left) (sym told.1) stops))

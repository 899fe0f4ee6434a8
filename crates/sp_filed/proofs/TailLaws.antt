-- Behind the beliefs a text stops to be as the form needs in one place, and a plan file in none.
use Rattle.std.proofs.Common.{◌≡◌, ℕ, ℤ, suc, List, [], ◌∷◌, ◌++◌, length, Bool, true, false, Option, Some, None, refl, ap, sym, ◌∙◌, append_assoc, codes, subst, inl, inr}
use Rattle.std.specs.Prelude.{is_some}
use Rattle.std.specs.List.{AllByRecursion}
use Rattle.sp_theory.specs.Book.{Event}
use Rattle.sp_theory.specs.Logs.{Log}
use Rattle.sp_lines.specs.Lines.{lines_of, IsSmall, EndsEarly}
use Rattle.sp_planfile.specs.RunText.{event_line}
use Rattle.sp_planfile.specs.PlanText.{count_line, value_line, events_section, values_text, logs_section}
use Rattle.sp_planfile.specs.Form.{AreValuesOfEditions, IsTickValue, edition_count}
use Rattle.sp_planfile.proofs.Unique.{line_tells}
use Rattle.sp_planfile.proofs.Sections.{count_told, lines_told, behind_same}
use Rattle.sp_planfile.proofs.ValueTexts.{value_tells, value_lacks}
use Rattle.sp_filed.specs.declared.sizes.Sizes.{Sizes}
use Rattle.sp_filed.specs.Sizes.{IsEventOf}
use Rattle.sp_filed.specs.Stops.{AreLogs, StopsInEvents, StopsInValues}
use Rattle.sp_filed.specs.Tails.{StopsBehindValues, StopsBehindEvents, StopsBehindMoves}
use Rattle.sp_filed.proofs.Stopped.{event_lacks}
use Rattle.sp_filed.proofs.LineLaws.{no_early_end, early_once}
use Rattle.sp_filed.proofs.LogLaws.{behind_values_once, no_stop_behind_values}

module _ (s : Sizes) where
  event_tells : (x y : Event) → IsEventOf s x → IsEventOf s y → event_line x ≡ event_line y → x ≡ y
  event_tells x y a b e = line_tells x y a.1 b.1 e

  -- ---- values
  abbrev values_line : ℕ → List ℕ
  values_line editions = count_line (codes "values") editions

  in_values_once : (editions : ℕ) (text : List ℕ) (left right : ℕ) → StopsInValues editions text left → StopsInValues editions text right → left ≡ right
  in_values_once editions text left right (inl a) (inl b) = a.1 ∙ sym b.1
  in_values_once editions text left right (inl a) (inr (rest, is, early)) = absurd (a.0 rest is)
  in_values_once editions text left right (inr (rest, is, early)) (inl b) = absurd (b.0 rest is)
  in_values_once editions text left right (inr (rest, is, early)) (inr (more, e, again)) =
      let same : rest ≡ more = behind_same (10 ∷ []) rest more (behind_same (values_line editions) (10 ∷ rest) (10 ∷ more) (sym is ∙ e)) in
      early_once value_line IsTickValue value_lacks value_tells editions rest left right early (subst (λ l. EndsEarly value_line IsTickValue editions l right) (sym same) again)

  -- the values of so many editions, and what comes after them
  values_are : (editions : ℕ) (values : List ℤ) (rest text : List ℕ) → length values ≡ editions → text ≡ values_text (Some values) ++ rest → text ≡ values_line editions ++ (10 ∷ (lines_of value_line values ++ rest))
  values_are editions values rest text count is = is ∙ append_assoc (values_line (length values)) (10 ∷ lines_of value_line values) rest ∙ ap (λ n. values_line n ++ (10 ∷ (lines_of value_line values ++ rest))) count

  no_stop_in_values : (editions : ℕ) (values : List ℤ) (rest text : List ℕ) (left : ℕ) → AllByRecursion IsTickValue values → length values ≡ editions → text ≡ values_text (Some values) ++ rest → StopsInValues editions text left → ⊥
  no_stop_in_values editions values rest text left all count is (inl (none, bytes)) = none (lines_of value_line values ++ rest) (values_are editions values rest text count is)
  no_stop_in_values editions values rest text left all count is (inr (more, e, early)) =
      let same = behind_same (10 ∷ []) (lines_of value_line values ++ rest) more (behind_same (values_line editions) (10 ∷ (lines_of value_line values ++ rest)) (10 ∷ more) (sym (values_are editions values rest text count is) ∙ e)) in
      no_early_end value_line IsTickValue value_lacks value_tells values rest more editions left all count same early

  -- behind as many values the same comes
  rest_behind_values : (editions : ℕ) (values others : List ℤ) (rest more text : List ℕ) → AllByRecursion IsTickValue values → AllByRecursion IsTickValue others → length values ≡ editions → length others ≡ editions
      → text ≡ values_text (Some values) ++ rest → text ≡ values_text (Some others) ++ more → rest ≡ more
  rest_behind_values editions values others rest more text all each count size is e =
      let behind = behind_same (10 ∷ []) (lines_of value_line values ++ rest) (lines_of value_line others ++ more)
      (behind_same (values_line editions) (10 ∷ (lines_of value_line values ++ rest)) (10 ∷ (lines_of value_line others ++ more)) (sym (values_are editions values rest text count is) ∙ values_are editions others more text size e)) in
      (lines_told value_line IsTickValue value_lacks value_tells values others rest more (count ∙ sym size) all each behind).1

  behind_events_once : (has_values : Bool) (editions : ℕ) (text : List ℕ) (left right : ℕ) → StopsBehindEvents has_values editions s text left → StopsBehindEvents has_values editions s text right → left ≡ right
  behind_events_once false editions text left right a b = behind_values_once s text left right a b
  behind_events_once true editions text left right (inl a) (inl b) = in_values_once editions text left right a b
  behind_events_once true editions text left right (inl a) (inr (values, rest, all, count, is, stops)) = absurd (no_stop_in_values editions values rest text left all count is a)
  behind_events_once true editions text left right (inr (values, rest, all, count, is, stops)) (inl b) = absurd (no_stop_in_values editions values rest text right all count is b)
  behind_events_once true editions text left right (inr (values, rest, all, count, is, stops)) (inr (others, more, each, size, e, again)) =
      let behind = rest_behind_values editions values others rest more text all each count size is e in
      behind_values_once s rest left right stops (subst (λ l. StopsBehindValues s l right) (sym behind) again)

  -- ---- events
  abbrev events_line : ℕ → List ℕ
  events_line n = count_line (codes "events") n

  in_events_once : (text : List ℕ) (left right : ℕ) → StopsInEvents s text left → StopsInEvents s text right → left ≡ right
  in_events_once text left right (inl a) (inl b) = a.1 ∙ sym b.1
  in_events_once text left right (inl a) (inr (n, rest, few, is, early)) = absurd (a.0 (n, rest, few, is))
  in_events_once text left right (inr (n, rest, few, is, early)) (inl b) = absurd (b.0 (n, rest, few, is))
  in_events_once text left right (inr (n, rest, few, is, early)) (inr (k, more, less, e, again)) =
      let told = count_told (codes "events") n k rest more few less (sym is ∙ e) in
      early_once event_line (IsEventOf s) (event_lacks s) event_tells n rest left right early
      (subst (λ j. EndsEarly event_line (IsEventOf s) j rest right) (sym told.0) (subst (λ l. EndsEarly event_line (IsEventOf s) k l right) (sym told.1) again))

  events_are : (events : List Event) (rest text : List ℕ) → text ≡ events_section events ++ rest → text ≡ events_line (length events) ++ (10 ∷ (lines_of event_line events ++ rest))
  events_are events rest text is = is ∙ append_assoc (events_line (length events)) (10 ∷ lines_of event_line events) rest

  no_stop_in_events : (events : List Event) (rest text : List ℕ) (left : ℕ) → AllByRecursion (IsEventOf s) events → IsSmall (length events) → text ≡ events_section events ++ rest → StopsInEvents s text left → ⊥
  no_stop_in_events events rest text left all few is (inl (none, bytes)) = none (length events, lines_of event_line events ++ rest, few, events_are events rest text is)
  no_stop_in_events events rest text left all few is (inr (n, more, less, e, early)) =
      let told = count_told (codes "events") (length events) n (lines_of event_line events ++ rest) more few less (sym (events_are events rest text is) ∙ e) in
      no_early_end event_line (IsEventOf s) (event_lacks s) event_tells events rest more n left all told.0 told.1 early

  -- the events of a text are told, and what comes after them
  behind_events : (events others : List Event) (rest more text : List ℕ) → AllByRecursion (IsEventOf s) events → AllByRecursion (IsEventOf s) others → IsSmall (length events) → IsSmall (length others)
      → text ≡ events_section events ++ rest → text ≡ events_section others ++ more → (events ≡ others) × (rest ≡ more)
  behind_events events others rest more text all each few less is e =
      let told = count_told (codes "events") (length events) (length others) (lines_of event_line events ++ rest) (lines_of event_line others ++ more) few less (sym (events_are events rest text is) ∙ events_are others more text e) in
      lines_told event_line (IsEventOf s) (event_lacks s) event_tells events others rest more told.0 all each told.1

  pub behind_moves_once : (has_values : Bool) (text : List ℕ) (left right : ℕ) → StopsBehindMoves has_values s text left → StopsBehindMoves has_values s text right → left ≡ right
  behind_moves_once has_values text left right (inl a) (inl b) = in_events_once text left right a b
  behind_moves_once has_values text left right (inl a) (inr (events, rest, all, few, is, stops)) = absurd (no_stop_in_events events rest text left all few is a)
  behind_moves_once has_values text left right (inr (events, rest, all, few, is, stops)) (inl b) = absurd (no_stop_in_events events rest text right all few is b)
  behind_moves_once has_values text left right (inr (events, rest, all, few, is, stops)) (inr (others, more, each, less, e, again)) =
      let lines = behind_events events others rest more text all each few less is e in
      behind_events_once has_values (suc (edition_count events)) rest left right stops
      (subst (λ (l : List Event). StopsBehindEvents has_values (suc (edition_count l)) s rest right) (sym lines.0) (subst (λ l. StopsBehindEvents has_values (suc (edition_count others)) s l right) (sym lines.1) again))

  -- ---- logs that are there, up to the last line
  module _ (logs : List Log) (small : IsSmall (length logs)) (good : AreLogs s logs) where
    abbrev tail : List ℕ
    tail = logs_section logs ++ codes "done\n"

    no_stop_behind_events : (editions : ℕ) (events : List Event) (values : Option (List ℤ)) (left : ℕ) → editions ≡ suc (edition_count events) → AreValuesOfEditions events values
        → StopsBehindEvents (is_some values) editions s (values_text values ++ tail) left → ⊥
    no_stop_behind_events editions events None left count form stops = no_stop_behind_values s logs small good left stops
    no_stop_behind_events editions events (Some values) left count form (inl a) = no_stop_in_values editions values tail (values_text (Some values) ++ tail) left form.2 (form.0 ∙ sym count) refl a
    no_stop_behind_events editions events (Some values) left count form (inr (others, rest, all, size, is, stops)) =
        let behind = rest_behind_values editions values others tail rest (values_text (Some values) ++ tail) form.2 all (form.0 ∙ sym count) size refl is in
        no_stop_behind_values s logs small good left (subst (λ l. StopsBehindValues s l left) (sym behind) stops)

    pub no_stop_behind_moves : (events : List Event) (values : Option (List ℤ)) (left : ℕ) → IsSmall (length events) → AllByRecursion (IsEventOf s) events → AreValuesOfEditions events values
        → StopsBehindMoves (is_some values) s (events_section events ++ (values_text values ++ tail)) left → ⊥
    no_stop_behind_moves events values left few all form (inl a) = no_stop_in_events events (values_text values ++ tail) (events_section events ++ (values_text values ++ tail)) left all few refl a
    no_stop_behind_moves events values left few all form (inr (others, rest, each, less, is, stops)) =
        let lines = behind_events events others (values_text values ++ tail) rest (events_section events ++ (values_text values ++ tail)) all each few less refl is in
        no_stop_behind_events (suc (edition_count others)) events values left (ap (λ l. suc (edition_count l)) (sym lines.0)) form
        (subst (λ l. StopsBehindEvents (is_some values) (suc (edition_count others)) s l left) (sym lines.1) stops)

-- The text of a plan file tells what it says.
use Rattle.std.proofs.Common.{◌≡◌, ◌≢◌, ℕ, suc, ◌<◌, ◌≤◌, ℤ, List, [], ◌∷◌, ◌++◌, length, Option, Some, None, Bool, true, false, refl, ap, sym, ◌∙◌, append_assoc, arith, codes, inl}
use Rattle.std.specs.Prelude.{is_some}
use Rattle.std.specs.List.{AllByRecursion}
use Rattle.std.proofs.lemmas.List.{append-nil}
use Rattle.std.proofs.lemmas.Bool.{false≢true}
use Rattle.sp_theory.specs.Book.{Event, settle, publish, prune, end}
use Rattle.sp_theory.specs.Logs.{Log}
use Rattle.sp_value.specs.declared.tasks.Options.{Options}
use Rattle.sp_lines.specs.Lines.{numbers_behind_spaces, lines_of, Lacks, IsSmall, IsSmallPair}
use Rattle.sp_planfile.specs.RunText.{event_line, HasSmall}
use Rattle.sp_planfile.specs.Contents.{Contents}
use Rattle.sp_planfile.specs.PlanText.{head_text, options_line, belief_line, value_line, count_line, events_section, values_text, logs_section, logs_text, plan_text}
use Rattle.sp_planfile.specs.Form.{IsInForm, IsParentMove, IsEventInForm, AreValuesOfEditions, IsTickValue}
use Rattle.sp_planfile.specs.Laws.{TextTellsContents, NoTextIsBeginning}
use Rattle.sp_planfile.proofs.Unique.{line_tells, line_lacks, spaced_tells, spaced_lacks, letters}
use Rattle.sp_planfile.proofs.Sections.{head_told, model_told, count_told, lines_told, lacks-append, behind_same}
use Rattle.sp_planfile.proofs.OptionTexts.{options_told}
use Rattle.sp_planfile.proofs.ValueTexts.{value_tells, value_lacks}
use Rattle.sp_planfile.proofs.LogTexts.{logs_told, plain_logs, IsPlainLog}

-- ---- beliefs
pub move_lacks : (x : ℕ × ℕ) → IsSmallPair x → Lacks 10 (belief_line x)
move_lacks x small = lacks-append 10 (codes "belief") (numbers_behind_spaces (x.0 ∷ x.1 ∷ [])) (letters (codes "belief") (omega arith, (omega arith, (omega arith, (omega arith, (omega arith, (omega arith, tt))))))) (spaced_lacks (x.0 ∷ x.1 ∷ []) (small.0, (small.1, tt)))

pub move_tells : (x y : ℕ × ℕ) → IsSmallPair x → IsSmallPair y → belief_line x ≡ belief_line y → x ≡ y
move_tells (a, b) (d, e) small other same =
    let both = spaced_tells (a ∷ b ∷ []) (d ∷ e ∷ []) (small.0, (small.1, tt)) (other.0, (other.1, tt)) (behind_same (codes "belief") (numbers_behind_spaces (a ∷ b ∷ [])) (numbers_behind_spaces (d ∷ e ∷ [])) same) in
    cc both

small_moves : (actions joint : ℕ) (xs : List (ℕ × ℕ)) → IsSmall actions → IsSmall joint → AllByRecursion (IsParentMove actions joint) xs → AllByRecursion IsSmallPair xs
small_moves actions joint [] few less all = tt
small_moves actions joint (x ∷ xs) few less all = let first = all.0 in ((omega (arith, first.0, few), omega (arith, first.1, less)), small_moves actions joint xs few less all.1)

-- ---- events
small_events : (beliefs actions joint : ℕ) (xs : List Event) → IsSmall beliefs → IsSmall actions → AllByRecursion (IsEventInForm beliefs actions joint) xs → AllByRecursion HasSmall xs
small_events beliefs actions joint [] few less all = tt
small_events beliefs actions joint (settle k e a links ∷ xs) few less all = let form = all.0 in ((omega (arith, form.0, few), (form.1, (omega (arith, form.2, less), form.4))), small_events beliefs actions joint xs few less all.1)
small_events beliefs actions joint (publish ∷ xs) few less all = (tt, small_events beliefs actions joint xs few less all.1)
small_events beliefs actions joint (prune pairs ∷ xs) few less all = (all.0.1, small_events beliefs actions joint xs few less all.1)
small_events beliefs actions joint (end ∷ xs) few less all = (tt, small_events beliefs actions joint xs few less all.1)

events_told : (xs ys : List Event) (us vs : List ℕ) → IsSmall (length xs) → IsSmall (length ys) → AllByRecursion HasSmall xs → AllByRecursion HasSmall ys → events_section xs ++ us ≡ events_section ys ++ vs → (xs ≡ ys) × (us ≡ vs)
events_told xs ys us vs few less a b e =
    let counts = count_told (codes "events") (length xs) (length ys) (lines_of event_line xs ++ us) (lines_of event_line ys ++ vs) few less
    (sym (append_assoc (count_line (codes "events") (length xs)) (10 ∷ lines_of event_line xs) us) ∙ e ∙ append_assoc (count_line (codes "events") (length ys)) (10 ∷ lines_of event_line ys) vs) in
    lines_told event_line HasSmall line_lacks line_tells xs ys us vs counts.0 a b counts.1

-- ---- values
values_told : (events others : List Event) (x y : Option (List ℤ)) (us vs : List ℕ) → is_some x ≡ is_some y → AreValuesOfEditions events x → AreValuesOfEditions others y → values_text x ++ us ≡ values_text y ++ vs → (x ≡ y) × (us ≡ vs)
values_told events others None None us vs some a b e = (refl, e)
values_told events others None (Some ys) us vs some a b e = absurd (false≢true some)
values_told events others (Some xs) None us vs some a b e = absurd (false≢true (sym some))
values_told events others (Some xs) (Some ys) us vs some a b e =
    let counts = count_told (codes "values") (length xs) (length ys) (lines_of value_line xs ++ us) (lines_of value_line ys ++ vs) a.1 b.1
    (sym (append_assoc (count_line (codes "values") (length xs)) (10 ∷ lines_of value_line xs) us) ∙ e ∙ append_assoc (count_line (codes "values") (length ys)) (10 ∷ lines_of value_line ys) vs) in
    let lines = lines_told value_line IsTickValue value_lacks value_tells xs ys us vs counts.0 a.2 b.2 counts.1 in
    (ap Some lines.0, lines.1)

-- ---- logs
sessions_told : (xs ys : List Log) (us vs : List ℕ) → IsSmall (length xs) → IsSmall (length ys) → AllByRecursion IsPlainLog xs → AllByRecursion IsPlainLog ys
    → logs_section xs ++ (codes "done\n" ++ us) ≡ logs_section ys ++ (codes "done\n" ++ vs) → (xs ≡ ys) × (us ≡ vs)
sessions_told xs ys us vs few less a b e =
    let counts = count_told (codes "sessions") (length xs) (length ys) (logs_text xs ++ (codes "done\n" ++ us)) (logs_text ys ++ (codes "done\n" ++ vs)) few less
    (sym (append_assoc (count_line (codes "sessions") (length xs)) (10 ∷ logs_text xs) (codes "done\n" ++ us)) ∙ e ∙ append_assoc (count_line (codes "sessions") (length ys)) (10 ∷ logs_text ys) (codes "done\n" ++ vs)) in
    let logs = logs_told xs ys (codes "done\n" ++ us) (codes "done\n" ++ vs) counts.0 a b (inl refl) (inl refl) counts.1 in
    (logs.0, behind_same (codes "done\n") us vs logs.1)

-- ---- the whole
regrouped : (h m e o b v w l d t : List ℕ) → (h ++ (m ++ (e ++ (o ++ (10 ∷ (b ++ (v ++ (w ++ (l ++ d))))))))) ++ t ≡ h ++ (m ++ (e ++ (o ++ (10 ∷ (b ++ (v ++ (w ++ (l ++ (d ++ t)))))))))
regrouped h m e o b v w l d t = simp append_assoc

text_is : (c : Contents) (t : List ℕ) → plan_text c ++ t
    ≡ head_text (is_some c.values) ++ (c.model ++ (codes "endmodel\n" ++ (options_line c.options ++ (10 ∷ (lines_of belief_line c.moves ++ (events_section c.events ++ (values_text c.values ++ (logs_section c.logs ++ (codes "done\n" ++ t)))))))))
text_is c t = regrouped (head_text (is_some c.values)) c.model (codes "endmodel\n") (options_line c.options) (lines_of belief_line c.moves) (events_section c.events) (values_text c.values) (logs_section c.logs) (codes "done\n") t

same_contents : (c d : Contents) → c.model ≡ d.model → c.options ≡ d.options → c.moves ≡ d.moves → c.events ≡ d.events → c.values ≡ d.values → c.logs ≡ d.logs → c ≡ d
same_contents c d e f g h i j =
    let made : List ℕ → Options → List (ℕ × ℕ) → List Event → Option (List ℤ) → List Log → Contents = λ model options moves events values logs. record { model = model; options = options; moves = moves; events = events; values = values; logs = logs } in
    ap (λ x. made x c.options c.moves c.events c.values c.logs) e
    ∙ ap (λ x. made d.model x c.moves c.events c.values c.logs) f
    ∙ ap (λ x. made d.model d.options x c.events c.values c.logs) g
    ∙ ap (λ x. made d.model d.options d.moves x c.values c.logs) h
    ∙ ap (λ x. made d.model d.options d.moves d.events x c.logs) i
    ∙ ap (made d.model d.options d.moves d.events d.values) j

pub whole_told : (actions joint others seen : ℕ) (c d : Contents) (us vs : List ℕ) → IsInForm actions joint c → IsInForm others seen d → plan_text c ++ us ≡ plan_text d ++ vs → (c ≡ d) × (us ≡ vs)
whole_told actions joint others seen c d us vs a b e =
    let e0 = sym (text_is c us) ∙ e ∙ text_is d vs in
    let heads = head_told (is_some c.values) (is_some d.values) _ _ e0 in
    let models = model_told c.model d.model _ _ a.model b.model heads.1 in
    let options = options_told c.options d.options _ _ a.options b.options models.1 in
    let count : length c.moves ≡ length d.moves = omega (arith, a.move_count, b.move_count, ap (λ o. o.beliefs) options.0) in
    let moves = lines_told belief_line IsSmallPair move_lacks move_tells c.moves d.moves _ _ count (small_moves actions joint c.moves a.few_actions a.few_joint a.moves) (small_moves others seen d.moves b.few_actions b.few_joint b.moves) options.1 in
    let events = events_told c.events d.events _ _ a.event_count b.event_count
    (small_events c.options.beliefs actions joint c.events (omega (arith, a.options.few_beliefs)) a.few_actions a.events)
    (small_events d.options.beliefs others seen d.events (omega (arith, b.options.few_beliefs)) b.few_actions b.events) moves.1 in
    let values = values_told c.events d.events c.values d.values _ _ heads.0 a.values b.values events.1 in
    let logs = sessions_told c.logs d.logs us vs a.log_count b.log_count (plain_logs actions joint c.logs a.few_actions a.few_joint a.logs) (plain_logs others seen d.logs b.few_actions b.few_joint b.logs) values.1 in
    (same_contents c d models.0 options.0 moves.0 events.0 values.0 logs.0, logs.1)

pub text_tells : TextTellsContents
text_tells actions joint others seen c d a b e = (whole_told actions joint others seen c d [] [] a b (append-nil (plan_text c) ∙ e ∙ sym (append-nil (plan_text d)))).0

pub no_beginning : NoTextIsBeginning
no_beginning actions joint others seen c d rest a b e = (whole_told actions joint others seen c d rest [] a b (e ∙ sym (append-nil (plan_text d)))).1

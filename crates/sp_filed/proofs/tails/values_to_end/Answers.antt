use Rattle.std.proofs.Common.{◌≡◌, ◌∷◌, ◌++◌, ℕ, List, length, ap, sym, ◌∙◌, codes, append_assoc, Err, ℤ, true, subst, inr}
use Rattle.sp_lines.specs.Lines.{lines_of}
use Rattle.sp_planfile.specs.PlanText.{count_line, value_line}
use Rattle.sp_filed.specs.declared.stops.Stop.TheVariants.{Shape}
use Rattle.sp_filed.specs.Tails.{StopsBehindEvents}
use Rattle.sp_filed.proofs.tails.values_to_end.Goals as goal

values_are : (values : List ℤ) (editions : ℕ) (text rest : List ℕ) → text ≡ count_line (codes "values") editions ++ (10 ∷ (lines_of value_line values ++ rest)) → length values ≡ editions → text ≡ (count_line (codes "values") (length values) ++ (10 ∷ lines_of value_line values)) ++ rest
values_are values editions text rest e count = e ∙ ap (λ n. count_line (codes "values") n ++ (10 ∷ (lines_of value_line values ++ rest))) (sym count) ∙ sym (append_assoc (count_line (codes "values") (length values)) (10 ∷ lines_of value_line values) rest)

pub returns-in-Err-logs_to_end-clause-err : goal.returns-in-Err-logs_to_end-clause-err
returns-in-Err-logs_to_end-clause-err c = λ left e.
    let same : c.in-Err-logs_to_end.stop ≡ Shape left = cc e in
    let read = c.in-Ok-values_first.ensures.ok in
    let down : StopsBehindEvents true c.args.editions c.args.sizes c.args.text.now left =
    inr (c.in-Ok-values_first.found.0, c.in-Ok-values_first.found.1.now, read.2, read.1, values_are c.in-Ok-values_first.found.0 c.args.editions c.args.text.now c.in-Ok-values_first.found.1.now read.0 read.1, c.in-Err-logs_to_end.ensures.err left (ap Err same)) in
    subst (λ b. StopsBehindEvents b c.args.editions c.args.sizes c.args.text.now left) (sym c.if-not-has_values.false) down

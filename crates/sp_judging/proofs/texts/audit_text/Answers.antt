use Rattle.std.proofs.Common.{◌∙◌, ap, List, length}
use Rattle.std.specs.Prelude.{ℤ}
use Rattle.std.specs.Arc.{arc_value}
use Rattle.sp_judging.specs.PlanFiles.{audit_line}
use Rattle.sp_judging.proofs.texts.audit_text.Goals as goal

pub returns-clause-text : goal.returns-clause-text
returns-clause-text c =
    let f = c.in-Ok.plan.filed in
    let editions = c.len-2.ensures ∙ ap (λ (xs : List ℤ). length xs) (c.values.ensures ∙ c.in-Ok.ensures.replay.values) in
    record {
      plan = record { task = arc_value f.run.task; events = f.run.events; values = f.values; transcript = f.transcript; legal = c.in-Ok.ensures.legal };
      is = c.in_ok-text.ensures ∙ (λ h. audit_line (c.len.ensures h) (editions h) (c.len-3.ensures h));
    }

use Rattle.std.proofs.Common.{◌≡◌, ap, sym, Err, inl, inr}
use Rattle.std.specs.Arc.{arc_value}
use Rattle.sp_filed.specs.declared.error.PlanKind.TheVariants.{Shape}
use Rattle.sp_filed.specs.declared.error.PlanError.TheVariants.{Fault}
use Rattle.sp_filed.proofs.PlanFiles.{first_version}
use Rattle.sp_filed.proofs.read.read_plan.Goals as goal

pub returns-in-Some-clause-err : goal.returns-in-Some-clause-err
returns-in-Some-clause-err c = λ at kind e.
    let place : 0 ≡ at = cc e in
    let same : Shape ≡ kind = cc e in
    inl ((c.in-Some.field-0.now, c.in-Some.ensures), sym place, sym same)

pub returns-in-Ok-clause-ok : goal.returns-in-Ok-clause-ok
returns-in-Ok-clause-ok c =
    let f = c.in-Ok.field-0 in
    first_version c.args.source.now (arc_value f.run.task) f.run.events f.values f.transcript c.in-Ok.ensures.ok (λ x. c.in-None.ensures x.0 x.1)

pub returns-clause-err : goal.returns-clause-err
returns-clause-err c = λ at kind e.
    let same : c.in-Err.error ≡ Fault at kind = cc e in
    inr ((λ x. c.in-None.ensures x.0 x.1), c.in-Err.ensures.err at kind (ap Err same))

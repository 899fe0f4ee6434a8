use Rattle.std.proofs.Common.{[], refl, subst, Result}
use Rattle.sp_tool.specs.Faults.{IsExplained}
use Rattle.sp_tool.specs.declared.fault.Fault.{Fault}
use Rattle.sp_tool.specs.declared.status.Status.TheVariants.{Done}
use Rattle.sp_tool.proofs.TableLemmas.{answers, tells_nothing, fault_answers}
use Rattle.sp_tool.proofs.run.ended.Goals as goal

pub returns-in-Ok : goal.returns-in-Ok
returns-in-Ok g c = λ call cause later.
    let err = g.E.Sink.written c.args.err.now in
    answers call err err Done [] (subst (λ (r : Result (Unit {0}) Fault). IsExplained call r) c.in-Ok.is cause) (tells_nothing err) (λ e. refl) later

pub returns-in-Err : goal.returns-in-Err
returns-in-Err g c = λ call cause later.
    fault_answers call (g.E.Sink.written c.args.err.now) (g.E.Sink.written c.write_whole.new.sink) c.in-Err.fault c.line.result.now c.status.result c.write_whole.result
    (subst (λ (r : Result (Unit {0}) Fault). IsExplained call r) c.in-Err.is cause) c.line.ensures c.status.ensures c.write_whole.ensures.whole c.write_whole.ensures.part c.write_whole.ensures.cause later

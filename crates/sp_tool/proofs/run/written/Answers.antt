use Rattle.std.proofs.Common.{ℕ, ◌++◌, ap, ◌∙◌, refl, subst, Some, Result, Vec, Global}
use Rattle.std.specs.Prelude.{IfOk, IfErr}
use Rattle.sp_tool.specs.Table.{IsTextFor}
use Rattle.sp_tool.specs.Faults.{Hinders}
use Rattle.sp_tool.specs.declared.fault.Fault.{Fault}
use Rattle.sp_tool.proofs.TableLemmas.{hindered}
use Rattle.sp_tool.proofs.run.written.Goals as goal

pub returns-in-Err : goal.returns-in-Err
returns-in-Err g c = λ words job store later asks may bars.
    hindered words store later (g.K.Sink.written c.args.out.now) job c.in-Err.fault asks (subst (λ (r : Result (Vec ℕ Global) Fault). IfErr r (λ f. Hinders job store later f)) c.in-Err.is bars)

pub returns-in-Ok-write_whole : goal.returns-in-Ok-write_whole
returns-in-Ok-write_whole g c = λ words job store later asks may bars.
    let t = subst (λ (r : Result (Vec ℕ Global) Fault). IfOk r (λ t. IsTextFor store job t.items)) c.in-Ok.is may in (
      job,
      asks,
      (
        t.0,
        t.1,
        (
          c.in-Ok.text.items,
          t.2,
          (λ b e. c.in-Ok-write_whole.ensures.whole b e ∙ ap (λ l. Some (b ++ l)) c.as_slice.ensures.value),
          refl,
        ),
      ),
    )

pub returns : goal.returns
returns g c = λ words job store later asks may bars.
    let t = subst (λ (r : Result (Vec ℕ Global) Fault). IfOk r (λ t. IsTextFor store job t.items)) c.in-Ok.is may in
    let part = rw c.as_slice.ensures.value at c.in-Err-write_whole.ensures.part in (
      job,
      asks,
      (
        t.0,
        t.1,
        (
          c.in-Ok.text.items,
          t.2,
          part,
          c.in-Err-write_whole.ensures.cause.failed,
          refl,
        ),
      ),
    )

use Rattle.std.proofs.Common.{arith, sym, ◌∙◌, codes, inl}
use Rattle.sp_lines.specs.Lines.{IsSmall}
use Rattle.sp_planfile.proofs.Sections.{count_told}
use Rattle.sp_filed.proofs.Stopped.{left_is}
use Rattle.sp_filed.proofs.sections.values_first.Goals as goal

pub returns-then-count-editions-clause-err : goal.returns-then-count-editions-clause-err
returns-then-count-editions-clause-err c = λ left e. inl (
  (λ rest is.
      let small : IsSmall c.args.editions = omega arith in
      let told = count_told (codes "values") c.in-Ok.found.0 c.args.editions c.in-Ok.found.1.now rest c.in-Ok.ensures.ok.0 small (sym c.in-Ok.ensures.ok.1 ∙ is) in
      c.if-count-editions.true told.0),
  left_is _ left e,
)

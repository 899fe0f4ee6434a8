use Rattle.std.proofs.Common.{length, Err, sym, subst}
use Rattle.sp_declarations.specs.Steps.{Leaves, in_turn}
use Rattle.sp_checks.specs.Kept.{IsReadingState}
use Rattle.sp_checks.specs.Sections as spec
use Rattle.sp_checks.proofs.ReadingLemmas.{has_declared, sections_err, model_kept}
use Rattle.sp_checks.proofs.StartLemmas.{declared_scope, begun_state}
use Rattle.sp_checks.proofs.reading.parts_of.Goals as goal

pub begun-requires : goal.begun-requires
begun-requires c = declared_scope c.in_ok-declared.declared.variables c.in_ok-declared.declared.sights (has_declared c.args.source.now c.args.text.now c.in_ok-declared.declared c.requires c.in_ok-declared.ensures)

pub sections-requires-clause-state : goal.sections-requires-clause-state
sections-requires-clause-state c =
    subst IsReadingState (sym c.in_ok-state.ensures) (begun_state c.in_ok-declared.declared (has_declared c.args.source.now c.args.text.now c.in_ok-declared.declared c.requires c.in_ok-declared.ensures))

pub returns-in_err-sections-clause-value : goal.returns-in_err-sections-clause-value
returns-in_err-sections-clause-value c =
    sections_err c.args.source.now c.args.text.now c.from_residual-in_err-sections.result c.in_err-sections.field-0.0 c.from_residual-in_err-sections.ensures.1 c.in_ok-declared.declared c.in_ok-state.state c.sections.new.state c.in_ok-declared.ensures c.in_ok-state.ensures
    (subst (λ xs. Leaves (in_turn (spec.section c.args.source.now) c.in_ok-state.state xs) (Err c.in_err-sections.field-0.0) c.sections.new.state) c.as_slice.ensures c.in_err-sections.ensures.value)

pub returns-clause-model : goal.returns-clause-model
returns-clause-model c = model_kept c.sections.new.state (length c.args.source.now) c.finish.result c.in_ok-sections.ensures.state c.finish.ensures

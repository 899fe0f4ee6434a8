use Rattle.std.proofs.Common.{◌∙◌, sym, subst}
use Rattle.sp_declarations.proofs.StepLemmas.{turn_at}
use Rattle.sp_checks.specs.Sections as spec
use Rattle.sp_checks.specs.Source.{HasName}
use Rattle.sp_checks.proofs.StateLemmas.{section_state}
use Rattle.sp_checks.proofs.reading.sections.Goals as goal

pub section-requires : goal.section-requires
section-requires c = c.loop-next.invariant.state.env

pub loop-next-preserved : goal.loop-next-preserved
loop-next-preserved c = record {
  value = turn_at (spec.section c.args.source.now) c.loop-next.state c.args.list.now c.loop-next.next-index c.next-item.result _ c.loop-next-test.true c.next-item.is c.in_ok-section.ensures ∙ c.loop-next.invariant.value;
  state = section_state c.args.source.now c.loop-next.state c.loop-next.invariant.state c.next-item.result _ (subst (HasName c.args.source.now) (sym c.next-item.is) (c.requires.named c.loop-next.next-index c.next-item.result c.loop-next-test.true)) c.in_ok-section.ensures;
}

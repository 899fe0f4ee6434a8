use Rattle.sp_dd.specs.Operations.{on_diagonal}
use Rattle.sp_table.proofs.FrameLemmas.{Means, are_slot_widths, scope_is}
use Rattle.sp_table.proofs.DiagonalLemmas.{diagonal_is, diagonal_too}
use Rattle.sp_table.proofs.renaming.diagonal.Goals as goal

pub diagonal_values-requires-clause-frame : goal.diagonal_values-requires-clause-frame
diagonal_values-requires-clause-frame c = diagonal_too c.args.f.now c.args.primed _ _ c.in_ok-widths.ensures c.as_slice-to.ensures.value

pub diagonal_values-requires-clause-fits : goal.diagonal_values-requires-clause-fits
diagonal_values-requires-clause-fits c = are_slot_widths c.args.f.now c.args.primed _ _ _ c.in_ok-widths.ensures.frame c.as_slice-to.ensures.value c.in_ok-count.ensures.value c.in_ok-count.ensures.fits

-- what the result means
is : (c : goal.After-result-1) → Means c.f.inside.scope c.in_ok-widths.widths.items c.in_ok-cells.cells.items (on_diagonal c.args.f.now c.args.primed)
is c =
    diagonal_is c.args.f.now c.f.inside.scope c.args.primed _ _ _ _ (scope_is c.f.inside.scope c.f.inside.widths.items c.f.inside.cells.items c.args.f.now c.f.view_is) c.in_ok-widths.ensures
    c.as_slice-to.ensures.value c.in_ok-count.ensures.value c.in_ok-count.ensures.fits c.in_ok-cells.ensures

pub invariant_of-result : goal.invariant_of-result
invariant_of-result c = (is c).table

pub returns : goal.returns
returns c = (is c).is

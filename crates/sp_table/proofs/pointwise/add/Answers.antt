use Rattle.std.specs.Prelude.{◌+ℤ◌}
use Rattle.sp_dd.specs.Operations.{plus}
use Rattle.sp_table.proofs.FrameLemmas.{Means, combined, are_widths, scope_is}
use Rattle.sp_table.proofs.pointwise.add.Goals as goal

pub sums-requires-clause-f : goal.sums-requires-clause-f
sums-requires-clause-f c = are_widths c.args.f.now _ _ _ c.in_ok-widths.ensures.left c.as_slice-to.ensures.value c.in_ok-count.ensures.value c.in_ok-count.ensures.fits

pub sums-requires-clause-g : goal.sums-requires-clause-g
sums-requires-clause-g c = are_widths c.args.g.now _ _ _ c.in_ok-widths.ensures.right c.as_slice-to.ensures.value c.in_ok-count.ensures.value c.in_ok-count.ensures.fits

-- what the result means
is : (c : goal.After-result-1) → Means c.f.inside.scope c.in_ok-widths.widths.items c.in_ok-cells.cells.items (plus c.args.f.now c.args.g.now)
is c =
    combined (λ a b. a +ℤ b) c.args.f.now c.args.g.now c.f.inside.scope _ _ _ _ (scope_is c.f.inside.scope c.f.inside.widths.items c.f.inside.cells.items c.args.f.now c.f.view_is) c.requires.scopes c.in_ok-widths.ensures.left c.in_ok-widths.ensures.right
    c.as_slice-to.ensures.value c.in_ok-count.ensures.value c.in_ok-count.ensures.fits c.in_ok-cells.ensures

pub invariant_of-result : goal.invariant_of-result
invariant_of-result c = (is c).table

pub returns : goal.returns
returns c = (is c).is

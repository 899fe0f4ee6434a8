use Rattle.std.proofs.Common.{refl}
use Rattle.std.specs.Prelude.{pos}
use Rattle.sp_show.specs.Decimals.{decimal_of}
use Rattle.sp_spelled.specs.Signs.{tight}
use Rattle.sp_spelled.specs.Shapes.{leaf, group}
use Rattle.sp_canonical.specs.Gaps.{gap_of}
use Rattle.sp_canonical.proofs.Loops.{went_on, next_branch}
use Rattle.sp_canonical.proofs.init.put_zero_branches.Goals as goal

pub loop-i-preserved : goal.loop-i-preserved
loop-i-preserved c =
    went_on _ _ _ _ _ (group c.index-names-i.result (leaf (decimal_of (pos 0)) tight) (gap_of c.gap_if.result)) _ c.loop-i.invariant c.in_ok-put_branch.ensures
    (next_branch (λ x. leaf (decimal_of (pos 0)) tight) c.args.names.now c.args.names.now c.loop-i.i c.index-names-i.result c.index-names-i.result _ c.loop-i-test.true refl c.index-names-i.is c.index-names-i.is c.gap_if.ensures)

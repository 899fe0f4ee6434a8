use Rattle.sp_spelled.specs.Shapes.{declaration_signs}
use Rattle.sp_canonical.specs.Gaps.{gap_of}
use Rattle.sp_canonical.proofs.Loops.{went_on, next_declaration}
use Rattle.sp_canonical.proofs.declarations.put_each.Goals as goal

pub loop-i-preserved : goal.loop-i-preserved
loop-i-preserved c =
    went_on _ _ _ _ _ (declaration_signs c.index-decls-i.result.name c.index-decls-i.result.values (gap_of c.gap_if.result)) _ c.loop-i.invariant c.in_ok-put_declaration.ensures
    (next_declaration c.args.decls.now c.loop-i.i c.index-decls-i.result _ c.loop-i-test.true c.index-decls-i.is c.gap_if.ensures)

use Rattle.std.proofs.Common.{get_or}
use Rattle.sp_model.specs.Problem.{no_decl}
use Rattle.sp_canonical.specs.Gaps.{gap_of}
use Rattle.sp_canonical.specs.ModelSigns.{zero_node}
use Rattle.sp_canonical.proofs.SlotLemmas.{found_at}
use Rattle.sp_canonical.proofs.Loops.{went_on, next_zero, get_or_any}
use Rattle.sp_canonical.proofs.init.put_zeros.Goals as goal

pub loop-i-preserved : goal.loop-i-preserved
loop-i-preserved c =
    let v = get_or c.args.variables.now c.loop-i.i 0 in
    went_on _ _ _ _ _ (zero_node (gap_of c.gap_if.result) c.at-decl.result.now) _ c.loop-i.invariant c.in_ok-put_zero.ensures
    (next_zero c.args.parts.now c.args.variables.now c.loop-i.i v c.at-decl.result.now _ c.loop-i-test.true (get_or_any c.args.variables.now c.loop-i.i 0 v c.loop-i-test.true) (found_at c.args.parts.now.variables v c.at-decl.result.now no_decl c.at-decl.ensures) c.gap_if.ensures)

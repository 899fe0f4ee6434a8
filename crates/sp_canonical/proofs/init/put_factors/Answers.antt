use Rattle.std.proofs.Common.{ℕ, ◌+◌, ◌++◌, ◌∙◌, drop, sym, ap}
use Rattle.sp_canonical.specs.Gaps.{gap_of}
use Rattle.sp_canonical.specs.Tables.{free_variables}
use Rattle.sp_canonical.specs.ModelSigns.{factors_signs, summed_signs}
use Rattle.sp_canonical.proofs.Loops.{went_on, next_factor}
use Rattle.sp_canonical.proofs.init.put_factors.Goals as goal

pub loop-i-preserved : goal.loop-i-preserved
loop-i-preserved c =
    let f = c.index-factors-i.result in
    went_on _ _ _ _ _ (summed_signs c.args.parts.now c.loop-i.base (gap_of c.gap_if.result) f.func (free_variables f)) _ c.loop-i.invariant c.in_ok-put_factor.ensures
    (next_factor c.args.parts.now c.loop-i.base c.args.factors.now c.loop-i.i f _ c.loop-i-test.true c.index-factors-i.is c.gap_if.ensures
    ∙ ap (λ (n : ℕ). summed_signs c.args.parts.now c.loop-i.base (gap_of c.gap_if.result) f.func (free_variables f) ++ factors_signs c.args.parts.now n (drop (c.loop-i.i + 1) c.args.factors.now)) (sym c.in_ok-base.ensures))

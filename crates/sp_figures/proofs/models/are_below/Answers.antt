use Rattle.std.proofs.Common.{arith}
use Rattle.sp_figures.proofs.Points.{below_each}
use Rattle.sp_figures.proofs.models.are_below.Goals as goal

pub returns : goal.returns
returns c = below_each _ _ c.requires (λ k less. c.loop-slot.invariant k (omega (arith, less)))

use Rattle.std.proofs.Common.{arith, refl}
use Rattle.std.proofs.lemmas.Bool.{false≢true}
use Rattle.sp_dd.proofs.IndependenceLemmas.{point-below}
use Rattle.sp_yardstick.proofs.ScopeGuards.{point_each}
use Rattle.sp_yardstick.proofs.scopes.are_below.Goals as goal

pub returns-then-point-slot : goal.returns-then-point-slot
returns-then-point-slot c =
    (λ h. absurd (false≢true h), λ inside. absurd (omega (arith, c.if-point-slot.true, c.size.ensures, point-below c.args.scope.now.sizes c.args.point.now c.loop-slot.slot inside (omega (arith, c.loop-slot-test.true, c.requires)))))

pub returns : goal.returns
returns c = (λ yes. point_each _ _ c.requires (λ k less. c.loop-slot.invariant k (omega (arith, less))), λ inside. refl)

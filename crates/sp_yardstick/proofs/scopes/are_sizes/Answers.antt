use Rattle.std.proofs.Common.{arith, refl}
use Rattle.std.proofs.lemmas.Bool.{false≢true}
use Rattle.sp_yardstick.proofs.ScopeGuards.{sizes_each, size_at}
use Rattle.sp_yardstick.proofs.scopes.are_sizes.Goals as goal

pub returns-then-size-lt1 : goal.returns-then-size-lt1
returns-then-size-lt1 c =
    (λ h. absurd (false≢true h), λ all. absurd (omega (arith, c.if-size-lt1.true, c.at-size.ensures, (size_at c.args.sizes.now c.loop-slot.slot all (omega (arith, c.loop-slot-test.true, c.len-slots.ensures))).0)))

pub returns-then-size-gt64 : goal.returns-then-size-gt64
returns-then-size-gt64 c =
    (λ h. absurd (false≢true h), λ all. absurd (omega (arith, c.if-size-gt64.true, c.at-size.ensures, (size_at c.args.sizes.now c.loop-slot.slot all (omega (arith, c.loop-slot-test.true, c.len-slots.ensures))).1)))

pub returns : goal.returns
returns c = (λ yes. sizes_each _ (λ k less. c.loop-slot.invariant k (omega (arith, less, c.len-slots.ensures))), λ all. refl)

use Rattle.std.proofs.Common.{arith}
use Rattle.std.proofs.lemmas.Bool.{false≢true}
use Rattle.sp_dd.proofs.IndependenceLemmas.{length-point}
use Rattle.sp_yardstick.proofs.scopes.is_point.Goals as goal

pub returns-then-point-slots : goal.returns-then-point-slots
returns-then-point-slots c =
    (λ h. absurd (false≢true h), λ inside. absurd (omega (arith, c.if-point-slots.true, c.slots.ensures.value, length-point c.args.scope.now.sizes c.args.point.now inside)))

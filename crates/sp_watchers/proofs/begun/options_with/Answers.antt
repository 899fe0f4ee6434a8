use Rattle.std.proofs.Common.{arith}
use Rattle.sp_watchers.proofs.begun.options_with.Goals as goal

pub returns : goal.returns
returns c =
    let some = c.requires.0 in
    let few = c.requires.1 in
    record { some_beliefs = omega arith; few_beliefs = omega arith; some_depth = omega arith; few_depth = omega arith; some_stages = some; few_stages = few }

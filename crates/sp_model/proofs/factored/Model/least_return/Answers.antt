use Rattle.std.proofs.Common.{arith}
use Rattle.std.proofs.lemmas.Int.{ints}
use Rattle.sp_model.proofs.Bounds.{least_return_from, least_return_to, top_to}
use Rattle.sp_model.proofs.factored.Model.least_return.Goals as goal

pub returns-clause-small : goal.returns-clause-small
returns-clause-small c =
    let low = least_return_from c.self.inside.parts c.self.invariant.model in
    let between = least_return_to c.self.inside.parts c.self.invariant.model in
    let high = top_to c.self.inside.parts c.self.invariant.model in
    omega (arith, ints, c.self.invariant.least, low, between, high)

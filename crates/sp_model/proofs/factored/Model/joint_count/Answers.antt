use Rattle.std.proofs.Common.{arith}
use Rattle.sp_model.proofs.Counts.{count_of-some}
use Rattle.sp_model.proofs.RowLaw.{some_sizes}
use Rattle.sp_model.proofs.factored.Model.joint_count.Goals as goal

pub returns-clause-some : goal.returns-clause-some
returns-clause-some c =
    let some = count_of-some _ (some_sizes c.self.inside.parts.sights c.self.invariant.model.sights) in
    omega (arith, some, c.self.invariant.joints)

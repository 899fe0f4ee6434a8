use Rattle.std.proofs.Common.{arith}
use Rattle.sp_value.proofs.Vectors.{vector_small}
use Rattle.sp_ledger.proofs.listed.table_of.Goals as goal

pub new-requires-clause-small : goal.new-requires-clause-small
new-requires-clause-small c x at = let small = vector_small c.args.task.now.model c.model.ensures.known.model c.args.vector.now c.requires x at in omega (arith, small)

use Rattle.std.proofs.Common.{◌+◌, ◌*◌, ap, set, add-one}
use Rattle.sp_table.proofs.renaming.drop_each.Goals as goal

pub loop-i-preserved : goal.loop-i-preserved
loop-i-preserved c = rw (add-one) (ap (λ l. set l (2 * c.loop-i.i + c.args.first) 1) c.loop-i.invariant)

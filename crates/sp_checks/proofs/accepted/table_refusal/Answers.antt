use Rattle.sp_checks.proofs.TableLemmas.{table_slot, table_few}
use Rattle.sp_checks.proofs.accepted.table_refusal.Goals as goal

pub bad_row-requires-clause-slot : goal.bad_row-requires-clause-slot
bad_row-requires-clause-slot c = table_slot c.args.env.now c.args.table c.args.func.now c.requires.env c.requires.table c.requires.shape

pub bad_row-requires-clause-few : goal.bad_row-requires-clause-few
bad_row-requires-clause-few c = table_few c.args.env.now c.args.table c.args.func.now c.requires.env c.requires.shape

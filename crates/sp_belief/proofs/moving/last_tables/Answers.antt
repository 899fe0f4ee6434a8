use Rattle.sp_belief.specs.Tables.{IsLastTable}
use Rattle.sp_belief.proofs.Appended.{each_pushed, count_pushed}
use Rattle.sp_belief.proofs.moving.last_tables.Goals as goal

pub loop-variable-preserved : goal.loop-variable-preserved
loop-variable-preserved c =
    let is = c.loop-variable.invariant in
    let pushed = c.in_ok-push.ensures.ok in
    record {
      count = count_pushed c.loop-variable.variable _ _ _ is.count pushed;
      each = each_pushed (IsLastTable c.args.model.now c.args.action) 0 c.loop-variable.variable _ _ _ is.count is.each c.last_table.ensures pushed;
    }

use Rattle.sp_dd.proofs.Ranges.{all_are_rest}
use Rattle.sp_dd.proofs.draft.are_one.Goals as goal

pub loop-i-init : goal.loop-i-init
loop-i-init c = all_are_rest c.args.list.now c.args.start

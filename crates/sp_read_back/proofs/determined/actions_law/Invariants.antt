use Rattle.std.proofs.Common.{take}
use Rattle.std.specs.Prelude.{All}
use Rattle.sp_read_back.specs.ReadBack.{HasFuncs}
use Rattle.sp_read_back.proofs.determined.actions_law.Given as goal

abbrev pub invariant-loop-action : goal.invariant-loop-action
invariant-loop-action l = All HasFuncs (take l.action-index l.actions)

use Rattle.std.proofs.Common.{◌≡◌, take}
use Rattle.sp_checks.proofs.finish.copied.Given as goal

abbrev pub invariant-loop-func : goal.invariant-loop-func
invariant-loop-func l = l.copies ≡ take l.func-index l.funcs

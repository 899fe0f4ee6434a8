use Rattle.sp_faults.proofs.PruneTests.{prune_tests_tell}
use Rattle.sp_faults.proofs.prune_tests_tell.Goals as goal

pub returns : goal.returns
returns c = prune_tests_tell

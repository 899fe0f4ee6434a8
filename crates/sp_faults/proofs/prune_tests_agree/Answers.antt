use Rattle.sp_faults.proofs.PruneTests.{prune_tests_agree}
use Rattle.sp_faults.proofs.prune_tests_agree.Goals as goal

pub returns : goal.returns
returns c = prune_tests_agree

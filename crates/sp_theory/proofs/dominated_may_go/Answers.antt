use Rattle.sp_theory.proofs.Dominated.{dominated_may_go}
use Rattle.sp_theory.proofs.dominated_may_go.Goals as goal

pub returns : goal.returns
returns c = dominated_may_go

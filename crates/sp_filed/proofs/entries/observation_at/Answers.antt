use Rattle.std.proofs.Common.{arith}
use Rattle.sp_filed.proofs.Lines.{one_same}
use Rattle.sp_filed.proofs.entries.observation_at.Goals as goal

pub returns-else-observation-sizes : goal.returns-else-observation-sizes
returns-else-observation-sizes c = λ o small less e.
    let read = c.in_ok-observation.ensures in
    let same = one_same c.in_ok-observation.observation o c.args.text.now read.0 small read.1 e in
    omega (arith, same, less)

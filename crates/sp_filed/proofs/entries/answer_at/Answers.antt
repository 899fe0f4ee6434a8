use Rattle.std.proofs.Common.{arith}
use Rattle.sp_filed.proofs.Lines.{third_same}
use Rattle.sp_filed.proofs.entries.answer_at.Goals as goal

pub returns-else-action-sizes : goal.returns-else-action-sizes
returns-else-action-sizes c = λ e id a small little tiny less is.
    let read = c.in_ok-edition.ensures in
    let same = third_same c.in_ok-edition.edition c.in_ok-edition.member c.in_ok-edition.action e id a c.args.text.now read.0 read.1 read.2 small little tiny read.3 is in
    omega (arith, same, less)

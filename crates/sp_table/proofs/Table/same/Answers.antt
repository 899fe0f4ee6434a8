use Rattle.sp_table.proofs.CompareLemmas.{iff_same}
use Rattle.sp_table.proofs.Table.same.Goals as goal

pub returns-then-agrees : goal.returns-then-agrees
returns-then-agrees c =
    iff_same c.agrees-then-agrees.result c.args.self.now c.args.other.now c.requires c.if-agrees.ensures.yes c.agrees-then-agrees.ensures.yes c.agrees-then-agrees.ensures.no

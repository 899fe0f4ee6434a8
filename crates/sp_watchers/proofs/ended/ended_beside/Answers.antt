use Rattle.std.proofs.Common.{◌∙◌}
use Rattle.sp_watchers.proofs.Besides.{all_later}
use Rattle.sp_watchers.proofs.ended.ended_beside.Goals as goal

pub returns-in-Ok-clause-end : goal.returns-in-Ok-clause-end
returns-in-Ok-clause-end g c = (c.in-Ok.ensures.0 ∙ c.plan_beside-book.ensures.named.0, c.in-Ok.ensures.1)

pub returns-in-Ok-clause-besides : goal.returns-in-Ok-clause-besides
returns-in-Ok-clause-besides g c =
    all_later g.B.Beside.work g.B.Beside.known g.B.Beside.steps g.N.ListName.list c.args.besides.items _ c.args.besides.len c.args.besides.ok.0 c.plan_beside-book.ensures.count c.plan_beside-book.ensures.later c.requires.besides

use Rattle.std.proofs.Common.{◌∙◌, sym}
use Rattle.sp_workers.proofs.Beginnings.{named_task}
use Rattle.sp_workers.proofs.joining.plan_beside.Goals as goal

pub new-requires : goal.new-requires
new-requires g c = record { book = c.task.ensures.known; beginning = c.requires.beginning; named = c.requires.named }

pub returns-clause-task : goal.returns-clause-task
returns-clause-task g c =
    let first = g.N.ListName.first in
    let list = g.N.ListName.list in
    let out = c.into_parts-book.result in
    let h = c.into_parts-book.ensures.known in
    sym (named_task list first out.0 out.1 h.book h.beginning h.named) ∙ named_task list first c.args.book c.args.publisher c.task.ensures.known c.requires.beginning c.requires.named

pub returns-clause-list : goal.returns-clause-list
returns-clause-list g c = c.into_parts-book.ensures.known.named.0 ∙ sym c.requires.named.0

pub returns-clause-later : goal.returns-clause-later
returns-clause-later g c = rw c.from_vec.ensures c.run-besides.ensures.later

use Rattle.std.proofs.Common.{◌≡◌, ◌∙◌, sym, ap, subst}
use Rattle.sp_publish.specs.Published.{PublishedList}
use Rattle.sp_workers.specs.Shared.{Shared}
use Rattle.sp_workers.proofs.Beginnings.{named_task}
use Rattle.sp_workers.proofs.Growing.{shared_book}
use Rattle.sp_workers.proofs.locked.Locked.settle_alone.Goals as goal

pub settle_on-requires-clause-list : goal.settle_on-requires-clause-list
settle_on-requires-clause-list g c = ap (λ (p : PublishedList). p.list) c.newest.ensures ∙ c.self.invariant.named.0 ∙ sym c.requires.list

pub settle_on-requires-clause-whole : goal.settle_on-requires-clause-whole
settle_on-requires-clause-whole g c = ap (λ (p : PublishedList). p.editions) c.newest.ensures ∙ subst (λ (s : Shared). s.list.editions ≡ s.book.editions) (sym c.self.view_is) c.requires.whole

pub settle_on-requires-clause-task : goal.settle_on-requires-clause-task
settle_on-requires-clause-task g c =
    let h = c.self.invariant in
    c.requires.task ∙ named_task g.N.ListName.list g.N.ListName.first c.self.inside.book c.self.inside.held.publisher h.book h.beginning h.named

pub invariant_of-self : goal.invariant_of-self
invariant_of-self g c =
    shared_book g.N.ListName.list g.N.ListName.first c.self.inside.book c.settle_on.new.book c.self.inside.held.publisher c.self.invariant c.settle_on.ensures.known c.settle_on.ensures.later.editions

use Rattle.std.proofs.Common.{◌≡◌, ◌∙◌, sym, ap, subst}
use Rattle.sp_publish.specs.Published.{PublishedList}
use Rattle.sp_workers.specs.Shared.{Shared}
use Rattle.sp_workers.proofs.Growing.{shared_book}
use Rattle.sp_workers.proofs.locked.Locked.prune_alone.Goals as goal

pub prune_on-requires-clause-list : goal.prune_on-requires-clause-list
prune_on-requires-clause-list g c = ap (λ (p : PublishedList). p.list) c.newest.ensures ∙ c.self.invariant.named.0 ∙ sym c.requires.list

pub prune_on-requires-clause-whole : goal.prune_on-requires-clause-whole
prune_on-requires-clause-whole g c = ap (λ (p : PublishedList). p.editions) c.newest.ensures ∙ subst (λ (s : Shared). s.list.editions ≡ s.book.editions) (sym c.self.view_is) c.requires.whole

pub invariant_of-self : goal.invariant_of-self
invariant_of-self g c =
    shared_book g.N.ListName.list g.N.ListName.first c.self.inside.book c.prune_on.new.book c.self.inside.held.publisher c.self.invariant c.prune_on.ensures.known c.prune_on.ensures.later.editions

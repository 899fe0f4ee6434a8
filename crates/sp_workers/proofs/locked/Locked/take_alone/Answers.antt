use Rattle.std.proofs.Common.{◌≡◌, sym, subst, true}
use Rattle.std.specs.Prelude.{MatchOption}
use Rattle.sp_value.specs.Tasks.{TaskParts}
use Rattle.sp_core.specs.Books.{state_of}
use Rattle.sp_workers.specs.Shared.{Shared}
use Rattle.sp_workers.specs.Sections.{IsWorkOf}
use Rattle.sp_workers.proofs.Beginnings.{named_task}
use Rattle.sp_workers.proofs.Growing.{prefix_same, shared_book}
use Rattle.sp_workers.proofs.locked.Locked.take_alone.Goals as goal

pub invariant_of-self : goal.invariant_of-self
invariant_of-self g c =
    shared_book g.N.ListName.list g.N.ListName.first c.self.inside.book c.take_work.new.book c.self.inside.held.publisher c.self.invariant c.take_work.ensures.known (prefix_same _ _ c.take_work.ensures.same)

pub returns-clause-work : goal.returns-clause-work
returns-clause-work g c =
    let h = c.self.invariant in
    subst (λ (s : Shared). MatchOption c.take_work.result ((state_of s.book).done ≡ true) (λ w. IsWorkOf g.N.ListName.first.task w.belief w.seen)) c.self.view_is
    (subst (λ (t : TaskParts). MatchOption c.take_work.result ((state_of c.self.inside.book).done ≡ true) (λ w. IsWorkOf t w.belief w.seen))
    (sym (named_task g.N.ListName.list g.N.ListName.first c.self.inside.book c.self.inside.held.publisher h.book h.beginning h.named)) c.take_work.ensures.work)

use Rattle.std.proofs.Common.{refl, ap, sym}
use Rattle.std.specs.Arc.{arc_value}
use Rattle.sp_core.specs.Books.{BookParts}
use Rattle.sp_publish.specs.Published.{PublishedList}
use Rattle.sp_publish.specs.Names.{no_edition}
use Rattle.sp_watchers.specs.declared.lookers.Looker.{Looker}
use Rattle.sp_watchers.proofs.Besides.{first_of, all_named, told_task}
use Rattle.sp_watchers.proofs.lookers.watch_lookers.Goals as goal

pub ended_beside-requires-clause-opening : goal.ended_beside-requires-clause-opening
ended_beside-requires-clause-opening g c κs = λ _. ap (λ (b : BookParts). b.history) c.requires

pub ended_beside-requires-clause-named : goal.ended_beside-requires-clause-named
ended_beside-requires-clause-named g c κs = λ _. (refl, first_of _ no_edition c.in_ok-publisher.ensures.one)

pub ended_beside-requires-clause-besides : goal.ended_beside-requires-clause-besides
ended_beside-requires-clause-besides g c κs = λ _. all_named (λ (x : Looker). x.viewer) c.in-Ok.lookers.items _ _ (ap (λ (p : PublishedList). p.list) c.in_ok-publisher.ensures.notice) c.in-Ok.ensures

pub push_lookers-requires : goal.push_lookers-requires
push_lookers-requires g c = all_named (λ (x : Looker). x.viewer) c.in_ok-lookers.lookers _ _ (sym c.in_ok-lookers.ensures.end.0) c.in_ok-lookers.ensures.besides

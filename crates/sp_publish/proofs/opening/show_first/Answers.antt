use Rattle.std.proofs.Common.{◌≡◌, List, fold, ap, sym, ◌∙◌, subst}
use Rattle.sp_publish.specs.Published.{PublishedList, ListGoesOn}
use Rattle.sp_publish.proofs.PublishedLemmas.{goes_on_self}
use Rattle.sp_publish.proofs.Snaps.{turns, same_show, seen_then}
use Rattle.sp_publish.proofs.opening.show_first.Goals as goal

pub publish_as-requires : goal.publish_as-requires
publish_as-requires g c next is =
    let now = c.args.writer.desk.shown.value in
    let e : next ≡ now = is ∙ ap (λ (ps : List PublishedList). fold (λ (a b : PublishedList). b) now ps) c.requires in
    turns _ _ now next (subst (λ (z : PublishedList). ListGoesOn now z) (sym e) (goes_on_self now))

pub returns-clause-shown : goal.returns-clause-shown
returns-clause-shown g c =
    let now = c.args.writer.desk.shown.value in
    same_show _ _ c.publish_as.result.1 now c.publish_as.result.0.desk.shown.value _ (ap (λ (ps : List PublishedList). fold (λ (a b : PublishedList). b) now ps) c.requires) c.publish_as.ensures.values

pub returns-clause-view : goal.returns-clause-view
returns-clause-view g c = seen_then _ _ c.publish_as.result.1 _ _ c.publish_as.ensures.rule

use Rattle.std.proofs.Common.{◌≡◌, List, fold, drop, ap, sym, ◌∙◌, subst}
use Rattle.sp_publish.specs.Published.{PublishedList, ListGoesOn}
use Rattle.sp_publish.proofs.Snaps.{turns, last_wins}
use Rattle.sp_publish.proofs.publisher.show_longer.Goals as goal

pub publish_as-requires : goal.publish_as-requires
publish_as-requires g c next is =
    let now = c.append.new.self.desk.shown.value in
    let e : next ≡ c.args.longer = is ∙ (ap (λ (ps : List PublishedList). fold (λ (a b : PublishedList). b) now ps) c.in-Ok.ensures.pending ∙ last_wins now c.args.longer (drop c.args.writer.behind c.args.writer.log.items)) in
    let on : ListGoesOn now c.args.longer = rw c.in-Ok.ensures.desk c.requires in
    turns _ _ now next (subst (λ (z : PublishedList). ListGoesOn now z) (sym e) on)

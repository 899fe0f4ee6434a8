use Rattle.std.proofs.Common.{◌∙◌, ap}
use Rattle.sp_publish.specs.Published.{PublishedList}
use Rattle.sp_workers.proofs.Growing.{begins_on}
use Rattle.sp_watchers.proofs.ended.end_of.Goals as goal

pub publish_rest-requires : goal.publish_rest-requires
publish_rest-requires g c = begins_on c.args.publisher.now c.args.book.now c.finish.new.book c.requires c.finish.ensures.later.editions

pub returns : goal.returns
returns g c =
    let same = c.in_ok-end.ensures.told ∙ c.in_ok-end.ensures.whole in
    (ap (λ (p : PublishedList). p.list) same, ap (λ (p : PublishedList). p.ended) same)

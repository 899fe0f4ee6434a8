use Rattle.std.proofs.Common.{◌≡◌, ◌+◌, subst, arith, length}
use Rattle.sp_publish.specs.Published.{PublishedList}
use Rattle.sp_publish.proofs.PublishedLemmas.{goes_on_self, goes_on_trans}
use Rattle.sp_workers.proofs.Beginnings.{begins_whole}
use Rattle.sp_workers.proofs.publishing.publish_all.Goals as goal

pub loop-number-init : goal.loop-number-init
loop-number-init g c = record { beginning = c.requires; on = goes_on_self c.args.publisher.now; count = subst (λ (t : PublishedList). length t.editions ≡ c.number-published.result + 1) c.newest.ensures c.number-published.ensures.count }

pub loop-number-preserved : goal.loop-number-preserved
loop-number-preserved g c = record {
  beginning = c.in_ok-publish_edition.ensures.beginning;
  on = goes_on_trans _ _ _ c.loop-number.invariant.on c.in_ok-publish_edition.ensures.on;
  count = c.in_ok-publish_edition.ensures.more;
}

pub returns-clause-whole : goal.returns-clause-whole
returns-clause-whole g c =
    begins_whole c.loop-number.publisher c.args.book.now c.loop-number.invariant.beginning
    (let count = c.loop-number.invariant.count in let past = c.loop-number-test.false in let all = c.count-last.ensures.value in omega (arith, count, past, all))

pub returns-in_err-publish_edition-clause-on : goal.returns-in_err-publish_edition-clause-on
returns-in_err-publish_edition-clause-on g c = goes_on_trans _ _ _ c.loop-number.invariant.on c.in_err-publish_edition.ensures.on

use Rattle.std.proofs.Common.{sym, subst}
use Rattle.sp_publish.specs.Published.{PublishedList, ListGoesOn}
use Rattle.sp_workers.proofs.Beginnings.{ended_whole, begins_same, on_err}
use Rattle.sp_workers.proofs.publishing.publish_rest.Goals as goal

pub returns-clause-whole : goal.returns-clause-whole
returns-clause-whole g c =
    ended_whole c.args.publisher.now c.publish_all.new.publisher c.end.new.self c.args.book.now.editions c.in_ok-publish_all.ensures.on c.in_ok-publish_all.ensures.whole c.in_ok-told.ensures.published

pub returns-in_err-told-clause-err : goal.returns-in_err-told-clause-err
returns-in_err-told-clause-err g c =
    on_err c.from_residual-in_err-told.result (
      begins_same _ _ c.args.book.now c.in_err-told.ensures.same c.in_ok-publish_all.ensures.beginning,
      subst (λ (t : PublishedList). ListGoesOn c.args.publisher.now t) (sym c.in_err-told.ensures.same) c.in_ok-publish_all.ensures.on,
    )

use Rattle.sp_workers.proofs.Growing.{begins_on}
use Rattle.sp_concurrent.proofs.planning.end_run.Goals as goal

pub publish_rest-requires : goal.publish_rest-requires
publish_rest-requires g c = begins_on c.args.publisher.now c.args.book.now c.finish-finished.new.book c.requires c.finish-finished.ensures.later.editions

use Rattle.sp_workers.proofs.Beginnings.{shared_list}
use Rattle.sp_workers.proofs.locked.Locked.publish.Goals as goal

pub invariant_of-self : goal.invariant_of-self
invariant_of-self g c =
    shared_list g.N.ListName.list g.N.ListName.first c.self.inside.book c.self.inside.held.publisher c.publish_all.new.self.publisher c.self.invariant c.publish_all.ensures.beginning c.publish_all.ensures.on

pub publish_all-requires : goal.publish_all-requires
publish_all-requires g c = c.self.invariant.beginning

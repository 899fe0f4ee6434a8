use Rattle.std.specs.Arc.{arc_value}
use Rattle.std.proofs.lemmas.Result.{IfOk-weaker}
use Rattle.sp_desk.specs.Kept.{desk_in}
use Rattle.sp_desk.proofs.DeskLemmas.{desk_on, newest_number}
use Rattle.sp_desk.proofs.AskedLemmas.{known_more}
use Rattle.sp_desk.proofs.desk.Desk.look.Goals as goal

pub invariant_of-self : goal.invariant_of-self
invariant_of-self c = desk_on (desk_in c.self.inside) c.latest-newest.new.self c.self.invariant c.latest-newest.ensures.goes_on c.keeps_list.ensures

pub returns-clause-more : goal.returns-clause-more
returns-clause-more c = known_more (desk_in c.self.inside) c.args.self.now c.latest-newest.new.self c.self.view_is c.latest-newest.ensures.goes_on

pub returns-clause-number : goal.returns-clause-number
returns-clause-number c = IfOk-weaker c.latest-newest.result _ _ (λ e new. newest_number c.latest-newest.new.self (arc_value e) c.keeps_list.ensures new) c.latest-newest.ensures.newest

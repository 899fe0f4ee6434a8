use Rattle.sp_desk.specs.Kept.{desk_in}
use Rattle.sp_desk.proofs.DeskLemmas.{desk_on}
use Rattle.sp_desk.proofs.AskedLemmas.{known_more}
use Rattle.sp_desk.proofs.desk.Desk.hear.Goals as goal

pub invariant_of-self : goal.invariant_of-self
invariant_of-self c = desk_on (desk_in c.self.inside) c.learn-heard.new.self c.self.invariant c.learn-heard.ensures.goes_on c.keeps_list.ensures

pub returns-clause-more : goal.returns-clause-more
returns-clause-more c = known_more (desk_in c.self.inside) c.args.self.now c.learn-heard.new.self c.self.view_is c.learn-heard.ensures.goes_on

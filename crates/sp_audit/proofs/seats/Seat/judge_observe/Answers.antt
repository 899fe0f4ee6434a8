use Rattle.std.proofs.Common.{map, subst, Option}
use Rattle.std.specs.Arc.{arc_value}
use Rattle.sp_dd.specs.Func.{Func}
use Rattle.sp_audit.specs.Seats.{AreWeightsAfter, editions_in}
use Rattle.sp_audit.proofs.Entered.{not_seen, observe_enters}
use Rattle.sp_audit.proofs.seats.Seat.judge_observe.Goals as goal

pub returns-in-None : goal.returns-in-None
returns-in-None c =
    let es = editions_in (map arc_value c.args._editions.now) in
    not_seen c.args.model.now es c.args.self.now c.requires.going c.args.observation
    (subst (λ (r : Option Func). AreWeightsAfter c.args.model.now c.args.self.now c.args.observation r) c.in-None.is c.in_ok-look.ensures)

pub returns-in-Some : goal.returns-in-Some
returns-in-Some c =
    let es = editions_in (map arc_value c.args._editions.now) in
    observe_enters c.args.model.now es c.args.self.now c.requires.going c.requires.seat c.args.observation c.requires.observation c.in-Some.weights
    (subst (λ (r : Option Func). AreWeightsAfter c.args.model.now c.args.self.now c.args.observation r) c.in-Some.is c.in_ok-look.ensures)

use Rattle.std.proofs.Common.{map, subst, Option}
use Rattle.std.specs.Arc.{arc_value}
use Rattle.sp_audit.specs.declared.clause.Clause.{Clause}
use Rattle.sp_audit.specs.Seats.{IsAnswerJudged, editions_in}
use Rattle.sp_audit.proofs.Entered.{act_wrong, act_enters}
use Rattle.sp_audit.proofs.seats.Seat.judge_act.Goals as goal

pub returns-in-Some : goal.returns-in-Some
returns-in-Some c =
    let es = editions_in (map arc_value c.args.editions.now) in
    act_wrong c.args.model.now es c.args.self.now c.requires.going c.args.edition c.args.member c.args.action c.in-Some.clause
    (subst (λ (r : Option Clause). IsAnswerJudged c.args.model.now es c.args.self.now c.args.edition c.args.member c.args.action r) c.in-Some.is c.in_ok-clause.ensures)

pub returns-in-None : goal.returns-in-None
returns-in-None c =
    let es = editions_in (map arc_value c.args.editions.now) in
    act_enters c.args.model.now es c.args.self.now c.requires.going c.requires.seat c.args.edition c.args.member c.args.action
    (subst (λ (r : Option Clause). IsAnswerJudged c.args.model.now es c.args.self.now c.args.edition c.args.member c.args.action r) c.in-None.is c.in_ok-clause.ensures)

use Rattle.std.proofs.Common.{subst, arith, map, Option}
use Rattle.std.specs.Arc.{arc_value}
use Rattle.std.proofs.lemmas.List.{length-map}
use Rattle.sp_value.specs.Editions.{members_in}
use Rattle.sp_audit.specs.declared.clause.Clause.{Clause}
use Rattle.sp_audit.specs.Seats.{IsAnswerJudged, editions_in}
use Rattle.sp_audit.proofs.Entered.{not_last, closing_wrong, closing_enters}
use Rattle.sp_audit.proofs.seats.Seat.judge_closing.Goals as goal

pub returns-then-edition-count : goal.returns-then-edition-count
returns-then-edition-count c =
    let es = editions_in (map arc_value c.args.editions.now) in
    let count = length-map c.args.editions.now arc_value in
    let all = length-map (map arc_value c.args.editions.now) members_in in
    not_last c.args.model.now es c.args.self.now c.requires.going c.args.edition c.args.member c.args.action (λ same. absurd (omega (arith, c.if-edition-count.true, count, all, same)))

pub returns-then-edition-count-2 : goal.returns-then-edition-count-2
returns-then-edition-count-2 c =
    let es = editions_in (map arc_value c.args.editions.now) in
    let count = length-map c.args.editions.now arc_value in
    let all = length-map (map arc_value c.args.editions.now) members_in in
    not_last c.args.model.now es c.args.self.now c.requires.going c.args.edition c.args.member c.args.action (λ same. absurd (omega (arith, c.if-edition-count-2.true, count, all, same)))

pub returns-in-Some : goal.returns-in-Some
returns-in-Some c =
    let es = editions_in (map arc_value c.args.editions.now) in
    let count = length-map c.args.editions.now arc_value in
    let all = length-map (map arc_value c.args.editions.now) members_in in
    closing_wrong c.args.model.now es c.args.self.now c.requires.going c.args.edition c.args.member c.args.action (omega (arith, c.if-edition-count.false, c.if-edition-count-2.false, count, all)) c.in-Some.clause
    (subst (λ (r : Option Clause). IsAnswerJudged c.args.model.now es c.args.self.now c.args.edition c.args.member c.args.action r) c.in-Some.is c.in_ok-clause.ensures)

pub returns-in-None : goal.returns-in-None
returns-in-None c =
    let es = editions_in (map arc_value c.args.editions.now) in
    let count = length-map c.args.editions.now arc_value in
    let all = length-map (map arc_value c.args.editions.now) members_in in
    closing_enters c.args.model.now es c.args.self.now c.requires.going c.args.edition c.args.member c.args.action (omega (arith, c.if-edition-count.false, c.if-edition-count-2.false, count, all)) c.requires.seat
    (subst (λ (r : Option Clause). IsAnswerJudged c.args.model.now es c.args.self.now c.args.edition c.args.member c.args.action r) c.in-None.is c.in_ok-clause.ensures)

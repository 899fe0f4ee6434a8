use Rattle.std.proofs.Common.{arith, map}
use Rattle.std.specs.Arc.{arc_value}
use Rattle.std.proofs.lemmas.List.{length-map}
use Rattle.sp_value.specs.Editions.{members_in}
use Rattle.sp_audit.specs.Seats.{editions_in}
use Rattle.sp_audit.proofs.Entered.{told_past, told_older, told_enters}
use Rattle.sp_audit.proofs.seats.Seat.judge_told.Goals as goal

pub returns-then-edition-editions : goal.returns-then-edition-editions
returns-then-edition-editions c =
    let es = editions_in (map arc_value c.args.editions.now) in
    let count = length-map c.args.editions.now arc_value in
    let all = length-map (map arc_value c.args.editions.now) members_in in
    told_past c.args._model.now es c.args.self.now c.requires.going c.args.edition (omega (arith, c.if-edition-editions.true, count, all))

pub returns-then-edition-self : goal.returns-then-edition-self
returns-then-edition-self c =
    let es = editions_in (map arc_value c.args.editions.now) in
    let count = length-map c.args.editions.now arc_value in
    let all = length-map (map arc_value c.args.editions.now) members_in in
    told_older c.args._model.now es c.args.self.now c.requires.going c.args.edition (omega (arith, c.if-edition-editions.false, count, all)) c.if-edition-self.true

pub returns : goal.returns
returns c =
    let es = editions_in (map arc_value c.args.editions.now) in
    let count = length-map c.args.editions.now arc_value in
    let all = length-map (map arc_value c.args.editions.now) members_in in
    told_enters c.args._model.now es c.args.self.now c.requires.going c.requires.seat c.args.edition (omega (arith, c.if-edition-editions.false, count, all)) c.if-edition-self.false

use Rattle.std.proofs.Common.{sym, map}
use Rattle.std.specs.Arc.{arc_value}
use Rattle.sp_audit.specs.Seats.{editions_in}
use Rattle.sp_audit.proofs.Entered.{not_acted, seen_though, unseen_enters}
use Rattle.sp_audit.proofs.seats.Seat.judge_unseen.Goals as goal

pub returns-then-is_none : goal.returns-then-is_none
returns-then-is_none c = not_acted c.args.model.now (editions_in (map arc_value c.args._editions.now)) c.args.self.now c.requires.going c.args.observation c.if-is_none.ensures

pub returns-then-is_some : goal.returns-then-is_some
returns-then-is_some c =
    seen_though c.args.model.now (editions_in (map arc_value c.args._editions.now)) c.args.self.now c.requires.going c.args.observation c.in_ok-weights.weights (sym c.if-is_some.ensures) c.in_ok-weights.ensures

pub returns : goal.returns
returns c =
    unseen_enters c.args.model.now (editions_in (map arc_value c.args._editions.now)) c.args.self.now c.requires.going c.requires.seat c.args.observation c.requires.observation c.if-is_none.ensures
    c.in_ok-weights.weights (sym c.if-is_some.ensures) c.in_ok-weights.ensures

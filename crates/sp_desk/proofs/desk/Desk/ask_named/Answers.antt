use Rattle.std.proofs.lemmas.Result.{err_from_is_err_and}
use Rattle.std.specs.Arc.{arc_value}
use Rattle.sp_desk.proofs.AskedLemmas.{knows_on, knows_trans, open_found, place_kept, asked}
use Rattle.sp_desk.proofs.desk.Desk.ask_named.Goals as goal

pub returns-in_err-hear-clause-err : goal.returns-in_err-hear-clause-err
returns-in_err-hear-clause-err c =
    let p = err_from_is_err_and c.from_residual.result c.from_residual.ensures.1 in
    rw (p.1, p.2) (open_found c.args.name.now c.args.self.now.seats c.in-Some.place c.in-Some.ensures.0 c.in-Some.ensures.1, c.hear.ensures.more)

pub returns-in_err-newest-clause-err : goal.returns-in_err-newest-clause-err
returns-in_err-newest-clause-err c =
    let p = err_from_is_err_and c.from_residual-in_err-newest.result c.from_residual-in_err-newest.ensures.1 in
    rw (p.1, p.2) (
      open_found c.args.name.now c.args.self.now.seats c.in-Some.place c.in-Some.ensures.0 c.in-Some.ensures.1,
      knows_trans c.args.self.now c.hear.new.self c.look.new.self c.hear.ensures.more c.look.ensures.more,
    )

pub answer_at-requires-clause-place : goal.answer_at-requires-clause-place
answer_at-requires-clause-place c = place_kept c.args.self.now c.look.new.self c.in-Some.place c.in-Some.ensures.0 (knows_trans c.args.self.now c.hear.new.self c.look.new.self c.hear.ensures.more c.look.ensures.more) c.in-Some.ensures.1.there

pub returns-in_err-answer-clause-err : goal.returns-in_err-answer-clause-err
returns-in_err-answer-clause-err c =
    let p = err_from_is_err_and c.from_residual-in_err-answer.result c.from_residual-in_err-answer.ensures.1 in
    rw (p.1, p.2) (
      open_found c.args.name.now c.args.self.now.seats c.in-Some.place c.in-Some.ensures.0 c.in-Some.ensures.1,
      knows_on c.args.self.now c.look.new.self c.answer_at.new.self (knows_trans c.args.self.now c.hear.new.self c.look.new.self c.hear.ensures.more c.look.ensures.more) c.in_err-answer.ensures.err,
    )

pub returns-clause-ok : goal.returns-clause-ok
returns-clause-ok c =
    asked c.args.self.now c.hear.new.self c.look.new.self c.answer_at.new.self c.args.name.now c.args.told.now c.in-Some.place c.in-Some.ensures.0 (arc_value c.in_ok-newest.newest) c.in_ok-answer.answer
    c.in-Some.ensures.1 c.hear.ensures.more c.in_ok-hear.ensures.heard c.look.ensures.more c.in_ok-newest.ensures.newest c.in_ok-newest.ensures.number c.in_ok-answer.ensures.ok

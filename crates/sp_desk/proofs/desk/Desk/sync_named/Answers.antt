use Rattle.std.proofs.lemmas.Result.{err_from_is_err_and}
use Rattle.sp_desk.proofs.AskedLemmas.{knows_on, number_known, open_found, place_kept, synced}
use Rattle.sp_desk.proofs.desk.Desk.sync_named.Goals as goal

pub returns-in_err-hear-clause-err : goal.returns-in_err-hear-clause-err
returns-in_err-hear-clause-err c =
    let p = err_from_is_err_and c.from_residual.result c.from_residual.ensures.1 in
    rw (p.1, p.2) (open_found c.args.name.now c.args.self.now.seats c.in-Some.place c.in-Some.ensures.0 c.in-Some.ensures.1, c.hear.ensures.more)

pub tell_at-requires-clause-place : goal.tell_at-requires-clause-place
tell_at-requires-clause-place c = place_kept c.args.self.now c.hear.new.self c.in-Some.place c.in-Some.ensures.0 c.hear.ensures.more c.in-Some.ensures.1.there

pub tell_at-requires-clause-number : goal.tell_at-requires-clause-number
tell_at-requires-clause-number c = number_known c.args.told.now c.hear.new.self.known c.number.result c.in_ok-hear.ensures.heard c.number.ensures.count

pub returns-in_err-number-clause-err : goal.returns-in_err-number-clause-err
returns-in_err-number-clause-err c =
    let p = err_from_is_err_and c.from_residual-in_err-number.result c.from_residual-in_err-number.ensures.1 in
    rw (p.1, p.2) (
      open_found c.args.name.now c.args.self.now.seats c.in-Some.place c.in-Some.ensures.0 c.in-Some.ensures.1,
      knows_on c.args.self.now c.hear.new.self c.tell_at.new.self c.hear.ensures.more c.in_err-number.ensures.err,
    )

pub returns-clause-ok : goal.returns-clause-ok
returns-clause-ok c =
    synced c.args.self.now c.hear.new.self c.tell_at.new.self c.args.name.now c.args.told.now c.in-Some.place c.in-Some.ensures.0 c.number.result c.in_ok-number.number
    c.in-Some.ensures.1 c.hear.ensures.more c.in_ok-hear.ensures.heard c.number.ensures.count c.in_ok-number.ensures.ok

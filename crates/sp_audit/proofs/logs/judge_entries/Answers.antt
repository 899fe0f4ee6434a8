use Rattle.std.proofs.Common.{sym, subst, refl, arith, ◌≤◌, List, map, take, drop, suc, get_or, length, Option}
use Rattle.std.specs.Arc.{arc_value}
use Rattle.std.proofs.lemmas.List.{length-map}
use Rattle.std.proofs.lemmas.Option.{slice_get-get_or}
use Rattle.sp_theory.specs.Logs as theory
use Rattle.sp_model.specs.Problem.{problem}
use Rattle.sp_session.specs.declared.logs.Entry.TheVariants.{Told}
use Rattle.sp_session.specs.Logs.{entry_of, entries_of}
use Rattle.sp_audit.specs.declared.clause.Clause.{Clause}
use Rattle.sp_audit.specs.Clauses.{clause_of}
use Rattle.sp_audit.specs.Seats.{editions_in}
use Rattle.sp_audit.specs.Entries.{IsEntryJudged, IsSeatAfter}
use Rattle.sp_audit.proofs.Items.{more_taken, rest_from}
use Rattle.sp_audit.proofs.Single.{seen_at}
use Rattle.sp_audit.proofs.Logged.{seat_opened, seat_goes_on, wrong_entry, log_closed, log_open}
use Rattle.sp_audit.proofs.logs.judge_entries.Goals as goal

pub loop-k-init : goal.loop-k-init
loop-k-init c = seat_opened c.args.model.now (editions_in (map arc_value c.args.editions.now)) c.in_ok-seat.seat c.in_ok-seat.ensures

pub judge-requires-clause-seen : goal.judge-requires-clause-seen
judge-requires-clause-seen c =
    let es = editions_in (map arc_value c.args.editions.now) in
    let entries = c.args.entries.now in
    let k = c.loop-k.k in
    let entry = get_or entries k (Told 0) in
    let at = slice_get-get_or entries k (Told 0) c.loop-k-test.true in
    let rest = rest_from entry_of entries k entry at in
    seen_at (problem c.args.model.now) (entries_of entries) k (entry_of entry) (drop (suc k) (entries_of entries)) c.requires.seen rest.0

pub returns-in-Some : goal.returns-in-Some
returns-in-Some c =
    let es = editions_in (map arc_value c.args.editions.now) in
    let entries = c.args.entries.now in
    let k = c.loop-k.k in
    let entry = get_or entries k (Told 0) in
    let at = slice_get-get_or entries k (Told 0) c.loop-k-test.true in
    let rest = rest_from entry_of entries k entry at in
    let first = subst (λ (r : Option Clause). IsEntryJudged c.args.model.now es c.loop-k.seat (entry_of entry) c.judge.new.self r) c.in-Some.is c.in_ok-answer.ensures in
    (k, refl, wrong_entry c.args.model.now es (entries_of entries) k c.loop-k.seat (entry_of entry) (drop (suc k) (entries_of entries)) c.loop-k.invariant rest.0 rest.1 (clause_of c.in-Some.clause) first)

pub loop-k-preserved : goal.loop-k-preserved
loop-k-preserved c =
    let es = editions_in (map arc_value c.args.editions.now) in
    let entries = c.args.entries.now in
    let k = c.loop-k.k in
    let entry = get_or entries k (Told 0) in
    let at = slice_get-get_or entries k (Told 0) c.loop-k-test.true in
    let rest = rest_from entry_of entries k entry at in
    let enters = subst (λ (r : Option Clause). IsEntryJudged c.args.model.now es c.loop-k.seat (entry_of entry) c.judge.new.self r) c.in_default.is c.in_ok-answer.ensures in
    subst (λ (xs : List theory.Entry). IsSeatAfter c.args.model.now es xs c.judge.new.self) (sym (more_taken entry_of entries k entry at))
    (seat_goes_on c.args.model.now es (take k (entries_of entries)) c.loop-k.seat (entry_of entry) c.judge.new.self c.loop-k.invariant enters)

pub returns-then-not-seat : goal.returns-then-not-seat
returns-then-not-seat c =
    let es = editions_in (map arc_value c.args.editions.now) in
    let entries = c.args.entries.now in
    let long = length-map entries entry_of in
    let past : length (entries_of entries) ≤ c.loop-k.k = omega (arith, c.loop-k-test.false, long) in
    (length (entries_of entries), omega (arith, long), log_open c.args.model.now es (entries_of entries) c.loop-k.k c.loop-k.seat c.loop-k.invariant past c.if-not-seat.true)

pub returns : goal.returns
returns c =
    let es = editions_in (map arc_value c.args.editions.now) in
    let entries = c.args.entries.now in
    let long = length-map entries entry_of in
    let past : length (entries_of entries) ≤ c.loop-k.k = omega (arith, c.loop-k-test.false, long) in
    log_closed c.args.model.now es (entries_of entries) c.loop-k.k c.loop-k.seat c.loop-k.invariant past c.if-not-seat.false

use Rattle.std.proofs.Common.{◌≡◌, ◌∙◌, sym, ap, subst, refl, arith, List, map, take, Option}
use Rattle.std.specs.Arc.{arc_value}
use Rattle.std.proofs.lemmas.List.{length-map, take_all}
use Rattle.std.proofs.lemmas.List.Elements.{All-push}
use Rattle.sp_theory.specs.Logs as theory
use Rattle.sp_model.specs.Problem.{problem}
use Rattle.sp_session.specs.declared.logs.Entry.{Entry}
use Rattle.sp_session.specs.declared.logs.SessionLog.{SessionLog}
use Rattle.sp_session.specs.Logs.{entries_of, log_of, logs_of}
use Rattle.sp_faults.specs.LogFaults.{AreSeen, IsWrongLog}
use Rattle.sp_audit.specs.declared.logs.WrongEntry.{WrongEntry}
use Rattle.sp_audit.specs.Clauses.{clause_of}
use Rattle.sp_audit.specs.Seats.{editions_in}
use Rattle.sp_audit.specs.Logs.{IsLogJudged}
use Rattle.sp_ledger.proofs.Reading.{read_at}
use Rattle.sp_audit.proofs.Items.{found_at, more_taken}
use Rattle.sp_audit.proofs.Transcripts.{all_at}
use Rattle.sp_audit.proofs.logs.judge_logs.Goals as goal

pub judge_entries-requires-clause-seen : goal.judge_entries-requires-clause-seen
judge_entries-requires-clause-seen c =
    let m = problem c.args.model.now in
    let es = editions_in (map arc_value c.args.editions.now) in
    let logs = c.args.logs.now in
    let k = c.loop-k.k in
    let log = c.index-logs-k.result in
    let there = found_at (logs_of logs) k (log_of log) (omega (arith, c.loop-k-test.true, length-map logs log_of)) (read_at log_of logs k log (log_of log) c.loop-k-test.true c.index-logs-k.is refl) in
    let lent : c.as_slice.result.now ≡ log.entries = c.as_slice.ensures ∙ ap (λ (l : SessionLog). l.entries) (sym c.index-logs-k.is) in
    subst (λ (xs : List Entry). AreSeen m (entries_of xs)) (sym lent) (all_at (λ (l : theory.Log). AreSeen m l.entries) (logs_of logs) k (log_of log) there c.requires.seen)

pub returns-in-Some : goal.returns-in-Some
returns-in-Some c =
    let m = problem c.args.model.now in
    let es = editions_in (map arc_value c.args.editions.now) in
    let logs = c.args.logs.now in
    let k = c.loop-k.k in
    let log = c.index-logs-k.result in
    let there = found_at (logs_of logs) k (log_of log) (omega (arith, c.loop-k-test.true, length-map logs log_of)) (read_at log_of logs k log (log_of log) c.loop-k-test.true c.index-logs-k.is refl) in
    let lent : c.as_slice.result.now ≡ log.entries = c.as_slice.ensures ∙ ap (λ (l : SessionLog). l.entries) (sym c.index-logs-k.is) in
    let judged = subst (λ (r : Option WrongEntry). IsLogJudged m es (entries_of c.as_slice.result.now) r) c.in-Some.is c.in_ok-answer.ensures in (
      judged.0,
      judged.1,
      record {
        before = c.loop-k.invariant;
        log = log_of log;
        stands = there;
        wrong = subst (λ (xs : List Entry). IsWrongLog m es (entries_of xs) judged.0 (clause_of c.in-Some.wrong.clause)) lent judged.2;
      },
    )

pub loop-k-preserved : goal.loop-k-preserved
loop-k-preserved c =
    let m = problem c.args.model.now in
    let es = editions_in (map arc_value c.args.editions.now) in
    let logs = c.args.logs.now in
    let k = c.loop-k.k in
    let log = c.index-logs-k.result in
    let there = found_at (logs_of logs) k (log_of log) (omega (arith, c.loop-k-test.true, length-map logs log_of)) (read_at log_of logs k log (log_of log) c.loop-k-test.true c.index-logs-k.is refl) in
    let lent : c.as_slice.result.now ≡ log.entries = c.as_slice.ensures ∙ ap (λ (l : SessionLog). l.entries) (sym c.index-logs-k.is) in
    let judged = subst (λ (r : Option WrongEntry). IsLogJudged m es (entries_of c.as_slice.result.now) r) c.in_default.is c.in_ok-answer.ensures in
    subst (λ (ls : List theory.Log). theory.IsLegalTranscript m es ls) (sym (more_taken log_of logs k log (found_at logs k log c.loop-k-test.true c.index-logs-k.is)))
    (All-push (λ (l : theory.Log). theory.IsLegalLog m es l.entries) (take k (logs_of logs)) (log_of log) c.loop-k.invariant
    (subst (λ (xs : List Entry). theory.IsLegalLog m es (entries_of xs)) lent judged))

pub returns : goal.returns
returns c =
    let m = problem c.args.model.now in
    let es = editions_in (map arc_value c.args.editions.now) in
    let logs = c.args.logs.now in
    let k = c.loop-k.k in
    subst (λ (ls : List theory.Log). theory.IsLegalTranscript m es ls) (take_all k (logs_of logs) (omega (arith, c.loop-k-test.false, length-map logs log_of))) c.loop-k.invariant

use Rattle.std.proofs.Common.{◌≡◌, ◌≢◌, ◌∷◌, [], ◌++◌, length, arith, ap, sym, ◌∙◌, true, false, subst}
use Rattle.std.specs.List.{list_any}
use Rattle.std.specs.Str.{bytes_eq}
use Rattle.std.proofs.lemmas.List.{length-map, map-append, length-append}
use Rattle.sp_theory.specs.Logs as theory
use Rattle.sp_session.specs.Logs.{log_of, logs_of}
use Rattle.sp_filed.specs.Stops.{names_of, HasNoEntry, AreLogs}
use Rattle.sp_planfile.specs.Form.{IsSessionName}
use Rattle.std.specs.Prelude.{All}
use Rattle.sp_filed.proofs.Stopped.{left_is}
use Rattle.sp_filed.proofs.Sessions.{fresh, stale, log_step, logs_good, no_entry_push, no_fresh, names_push}
use Rattle.sp_filed.proofs.logs.log_lines.Goals as goal

pub returns-then-not-is_new-clause-err : goal.returns-then-not-is_new-clause-err
returns-then-not-is_new-clause-err c = λ left e.
    let some : list_any (bytes_eq c.in-Some.name.now) c.loop.names ≡ true = grind (arith, c.in_ok-is_new.ensures.new, c.if-not-is_new.true) in
    record {
      logs = logs_of c.loop.logs;
      rest = c.loop.rest.now;
      is = c.loop.invariant.read;
      good = c.loop.invariant.good;
      fewer = omega (arith, length-map c.loop.logs log_of, c.loop.invariant.count);
      no_entry = c.loop.invariant.no_entry;
      no_session = no_fresh (logs_of c.loop.logs) c.in-Some.name.now c.loop.rest.now c.in-Some.more.now c.in-Some.ensures.0 c.in-Some.ensures.1 (stale c.in-Some.name.now (names_of (logs_of c.loop.logs)) (ap (list_any (bytes_eq c.in-Some.name.now)) (sym c.loop.invariant.names) ∙ some));
      bytes = left_is _ left e;
    }

pub loop-preserved : goal.loop-preserved
loop-preserved c =
    let none : list_any (bytes_eq c.in-Some.name.now) c.loop.names ≡ false = grind (arith, c.in_ok-is_new.ensures.new, c.if-not-is_new.false) in
    let pushed : c.push.new.self ≡ c.loop.logs ++ (c.in_ok-log.log ∷ []) = c.in_ok-push.ensures.ok in
    let mapped : logs_of c.push.new.self ≡ logs_of c.loop.logs ++ (log_of c.in_ok-log.log ∷ []) = ap logs_of pushed ∙ map-append log_of c.loop.logs (c.in_ok-log.log ∷ []) in
    let made = c.in_ok-log.ensures in
    let new = fresh c.in-Some.name.now (names_of (logs_of c.loop.logs)) (ap (list_any (bytes_eq c.in-Some.name.now)) (sym c.loop.invariant.names) ∙ none) in
    let named = subst (λ n. All (λ other. other ≢ n) (names_of (logs_of c.loop.logs))) (sym made.0) new in
    record {
      count = omega (arith, ap length pushed, length-append c.loop.logs (c.in_ok-log.log ∷ []), c.loop.invariant.count);
      read = log_step (logs_of c.loop.logs) (logs_of c.push.new.self) (log_of c.in_ok-log.log) c.args.text.now c.loop.rest.now c.in-Some.name.now c.in-Some.more.now c.in_ok-log.behind.now c.loop.invariant.read c.in-Some.ensures.1 made.0 made.1 mapped;
      good = subst (AreLogs c.args.sizes) (sym mapped) (logs_good c.args.sizes (logs_of c.loop.logs) (log_of c.in_ok-log.log) c.loop.invariant.good (record { name = subst IsSessionName (sym made.0) c.in-Some.ensures.0; entries = made.2 }) named);
      no_entry = subst (λ l. HasNoEntry c.args.sizes l c.in_ok-log.behind.now) (sym mapped) (no_entry_push c.args.sizes (logs_of c.loop.logs) (log_of c.in_ok-log.log) c.in_ok-log.behind.now made.3);
      names = c.in_ok-is_new.ensures.names ∙ names_push c.loop.names c.in-Some.name.now none ∙ ap (λ l. l ++ (c.in-Some.name.now ∷ [])) c.loop.invariant.names ∙ ap (λ n. names_of (logs_of c.loop.logs) ++ (n ∷ [])) (sym made.0)
          ∙ sym (map-append (λ (l : theory.Log). l.name) (logs_of c.loop.logs) (log_of c.in_ok-log.log ∷ [])) ∙ ap names_of (sym mapped);
    }

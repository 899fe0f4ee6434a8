use Rattle.std.proofs.Common.{sym, subst, arith, ℕ, ◌+◌, ◌<◌, List, length, drop}
use Rattle.sp_theory.specs.Logs.{Log}
use Rattle.sp_session.specs.declared.logs.SessionLog.{SessionLog}
use Rattle.sp_script.specs.declared.command.Command.{Command}
use Rattle.sp_concurrent.specs.Deals.{desk_of}
use Rattle.sp_concurrent.specs.Gathered.{logs_at}
use Rattle.sp_concurrent.proofs.Dealing.{rest_from}
use Rattle.sp_concurrent.proofs.Gathered.{IsGathered, gathered_first, gathered_more, gathered_last, may_gather}
use Rattle.sp_concurrent.proofs.gathering.gather.Goals as goal

pub loop-command-init : goal.loop-command-init
loop-command-init c =
    let desk : List ℕ → ℕ = desk_of c.args.desks c.args.names.now in
    let queues = c.args.queues.items in
    let count = c.requires.count in
    subst (λ (logs : List SessionLog). IsGathered desk c.args.desks c.args.commands.now (logs_at queues) c.args.commands.now logs queues) (sym c.new-all.ensures)
    (gathered_first desk c.args.desks c.args.commands.now queues (omega (arith, count, c.args.queues.ok.0)) c.requires.dealt)

pub gather_next-requires : goal.gather_next-requires
gather_next-requires c =
    let desk : List ℕ → ℕ = desk_of c.args.desks c.args.names.now in
    let n = c.args.desks in
    let cs = c.args.commands.now in
    let i = c.loop-command.command-index in
    let x = c.command-item.result in
    let all = c.loop-command.all in
    let queues = c.loop-command.queues.items in
    let start : ℕ → List Log = logs_at c.args.queues.items in
    let less : i < length cs = omega arith in
    let some = c.requires.some in
    let count = c.loop-command.invariant.count in
    record {
      some = some;
      count = omega (arith, count, c.loop-command.queues.ok.0);
      more = may_gather desk n cs start x (drop (i + 1) cs) all queues
          (subst (λ (left : List Command). IsGathered desk n cs start left all queues) (rest_from cs i x less c.command-item.is) c.loop-command.invariant) (omega (arith, some));
    }

pub loop-command-preserved : goal.loop-command-preserved
loop-command-preserved c =
    let desk : List ℕ → ℕ = desk_of c.args.desks c.args.names.now in
    let n = c.args.desks in
    let cs = c.args.commands.now in
    let i = c.loop-command.command-index in
    let x = c.command-item.result in
    let all = c.loop-command.all in
    let queues = c.loop-command.queues.items in
    let start : ℕ → List Log = logs_at c.args.queues.items in
    let less : i < length cs = omega arith in
    let some = c.requires.some in
    gathered_more desk n cs start x (drop (i + 1) cs) all queues
    (subst (λ (left : List Command). IsGathered desk n cs start left all queues) (rest_from cs i x less c.command-item.is) c.loop-command.invariant) (omega (arith, some))
    c.gather_next.new.all c.gather_next.new.queues.items c.in_ok-gather_next.ensures

pub returns-clause-names : goal.returns-clause-names
returns-clause-names c =
    gathered_last (desk_of c.args.desks c.args.names.now) c.args.desks c.args.commands.now (logs_at c.args.queues.items) c.loop-command.all c.loop-command.queues.items c.loop-command.command-index (omega arith) c.loop-command.invariant

pub returns-clause-each : goal.returns-clause-each
returns-clause-each c = c.loop-command.invariant.each

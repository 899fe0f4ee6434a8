use Rattle.std.proofs.Common.{◌∙◌, ap, arith, ◌<◌, length}
use Rattle.std.proofs.lemmas.List.{take_all}
use Rattle.sp_script.specs.Commands.{opening_count}
use Rattle.sp_concurrent.proofs.Dealing.{count_to}
use Rattle.sp_concurrent.proofs.deals.session_count.Goals as goal

pub loop-command-preserved : goal.loop-command-preserved
loop-command-preserved c =
    let x = c.command-item.result in
    let less : c.loop-command.command-index < length c.args.commands.now = omega arith in
    let more = count_to c.args.commands.now c.loop-command.command-index x less c.command-item.is in
    let value = c.openings-count.ensures.value in
    let one = c.openings-count.ensures.few in
    let counted = c.loop-command.invariant.counted in
    let few = c.loop-command.invariant.few in
    record { counted = omega (arith, more, value, counted); few = omega (arith, one, few) }

pub returns : goal.returns
returns c = c.loop-command.invariant.counted ∙ ap opening_count (take_all c.loop-command.command-index c.args.commands.now (omega arith))

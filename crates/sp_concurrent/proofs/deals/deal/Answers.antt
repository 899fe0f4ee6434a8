use Rattle.std.proofs.Common.{◌≡◌, ◌∙◌, [], sym, ap, subst, arith, ℕ, ◌<◌, List, length}
use Rattle.std.proofs.lemmas.List.{take_all}
use Rattle.sp_script.specs.declared.command.Command.{Command}
use Rattle.sp_script.specs.Commands.{name_of}
use Rattle.sp_concurrent.specs.Deals.{desk_of, AreHands}
use Rattle.sp_concurrent.proofs.Dealing.{hands_first, dealt_known, dealt_more}
use Rattle.sp_concurrent.proofs.deals.deal.Goals as goal

pub loop-command-init : goal.loop-command-init
loop-command-init c =
    subst (AreHands (desk_of c.args.desks c.args.names.now) c.args.desks []) (sym c.in_ok-hands.ensures) (hands_first (desk_of c.args.desks c.args.names.now) c.args.desks)

pub hand_over-requires : goal.hand_over-requires
hand_over-requires c =
    let desk : List ℕ → ℕ = desk_of c.args.desks c.args.names.now in
    let x = c.command-item.result in
    let less : c.loop-command.command-index < length c.args.commands.now = omega arith in
    let is : c.desk_of-desk.result ≡ desk (name_of x) = c.desk_of-desk.ensures.value ∙ ap desk c.name_of.ensures in
    let count = c.loop-command.invariant.count in
    let below = c.desk_of-desk.ensures.below in
    record {
      within = omega (arith, count, below, c.loop-command.hands.ok.0);
      known = dealt_known desk c.args.desks c.args.commands.now c.loop-command.command-index x less c.command-item.is c.requires.known c.loop-command.hands.items c.loop-command.invariant c.desk_of-desk.result is below;
    }

pub loop-command-preserved : goal.loop-command-preserved
loop-command-preserved c =
    let desk : List ℕ → ℕ = desk_of c.args.desks c.args.names.now in
    let x = c.command-item.result in
    let less : c.loop-command.command-index < length c.args.commands.now = omega arith in
    let is : c.desk_of-desk.result ≡ desk (name_of x) = c.desk_of-desk.ensures.value ∙ ap desk c.name_of.ensures in
    dealt_more desk c.args.desks c.args.commands.now c.loop-command.command-index x less c.command-item.is c.requires.known c.loop-command.hands.items c.loop-command.invariant c.desk_of-desk.result is c.desk_of-desk.ensures.below
    c.hand_over.new.hands.items c.in_ok-hand_over.ensures

pub returns : goal.returns
returns c =
    subst (λ (ds : List Command). AreHands (desk_of c.args.desks c.args.names.now) c.args.desks ds c.loop-command.hands.items)
    (take_all c.loop-command.command-index c.args.commands.now (omega arith)) c.loop-command.invariant

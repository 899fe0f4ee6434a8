use Rattle.std.proofs.Common.{◌∙◌, arith, sym}
use Rattle.sp_table.proofs.TotalLemmas.{width_past, width_odd, width_size}
use Rattle.sp_yardstick.proofs.scopes.state_width.Goals as goal

pub returns-then-slot-variables : goal.returns-then-slot-variables
returns-then-slot-variables c = sym (width_past c.args.scope.now.variables c.args.slot c.args.scope.now.sizes c.requires (omega (arith, c.variables-variables.ensures, c.if-slot-variables.true)))

pub returns-then-slot-eq1 : goal.returns-then-slot-eq1
returns-then-slot-eq1 c =
    sym (width_odd c.args.scope.now.variables c.args.slot c.args.scope.now.sizes c.slots.ensures.known.paired (omega (arith, c.variables-variables.ensures, c.if-slot-variables.false)) c.if-slot-eq1.true)

pub returns : goal.returns
returns c =
    c.size.ensures ∙ sym (width_size c.args.scope.now.variables c.args.slot c.args.scope.now.sizes (omega (arith, c.variables-variables.ensures, c.if-slot-variables.false)) c.if-slot-eq1.false)

use Rattle.std.proofs.Common.{◌∙◌, arith, sym, subst}
use Rattle.sp_states.proofs.WidthLemmas.{IsWidth, width_behind, width_primed, width_state, width_at}
use Rattle.sp_states.proofs.widths.state_width.Goals as goal

pub returns-then-slot-variables-clause-value : goal.returns-then-slot-variables-clause-value
returns-then-slot-variables-clause-value c =
    sym (width_behind c.args.scope.now.variables c.args.slot c.args.scope.now.sizes c.requires.scope.paired c.requires.slot (omega (arith, c.variables.ensures, c.if-slot-variables.true)))

pub returns-then-slot-eq1-clause-value : goal.returns-then-slot-eq1-clause-value
returns-then-slot-eq1-clause-value c =
    sym (width_primed c.args.scope.now.variables c.args.slot c.args.scope.now.sizes c.requires.scope.paired c.requires.slot c.if-slot-eq1.true)

pub returns-clause-value : goal.returns-clause-value
returns-clause-value c =
    c.size.ensures ∙ sym (width_state c.args.scope.now.variables c.args.slot c.args.scope.now.sizes c.requires.scope.paired (omega (arith, c.variables.ensures, c.if-slot-variables.false)) c.if-slot-eq1.false)

pub returns-clause-some : goal.returns-clause-some
returns-clause-some c =
    let w : IsWidth c.size.result = subst IsWidth (sym (returns-clause-value c)) (width_at c.args.scope.now c.args.slot c.requires.scope c.requires.slot) in
    w.some

pub returns-clause-few : goal.returns-clause-few
returns-clause-few c =
    let w : IsWidth c.size.result = subst IsWidth (sym (returns-clause-value c)) (width_at c.args.scope.now c.args.slot c.requires.scope c.requires.slot) in
    w.few

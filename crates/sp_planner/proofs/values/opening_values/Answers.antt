use Rattle.std.proofs.Common.{◌≡◌, ◌∙◌, ◌+◌, ap, sym, arith, rules, take, map, length}
use Rattle.std.specs.Prelude.{FitsSigned, Some}
use Rattle.std.specs.Int.{w128}
use Rattle.std.specs.Arc.{arc_value}
use Rattle.std.proofs.lemmas.Int.{to_z-of_z}
use Rattle.std.proofs.lemmas.List.{take_all}
use Rattle.sp_value.specs.Editions.{EditionParts, members_in}
use Rattle.sp_planner.specs.Numbers.{value_at_first}
use Rattle.sp_planner.proofs.Opening.{own_value, value_step, values_are}
use Rattle.sp_planner.proofs.values.opening_values.Goals as goal

pub loop-number-preserved : goal.loop-number-preserved
loop-number-preserved c =
    let fits : FitsSigned w128 c.in_ok-value.value = search rules in
    value_step c.args.book.now.editions c.loop-number.number (arc_value c.in-Some.edition.now) c.loop-number.values c.push.new.self _ (omega arith) (search rules) c.loop-number.invariant
    (to_z-of_z w128 _ fits ∙ c.in_ok-value.ensures ∙ ap own_value c.deref.ensures) c.in_ok-push.ensures.ok

pub returns : goal.returns
returns c = c.loop-number.invariant ∙ ap (map own_value) (take_all c.loop-number.number c.args.book.now.editions (omega arith)) ∙ values_are c.args.book.now c.task.ensures.known

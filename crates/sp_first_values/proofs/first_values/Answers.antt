use Rattle.std.proofs.Common.{◌∙◌, ap, sym, arith, rules, ◌<◌, map, length, Some}
use Rattle.std.specs.Prelude.{FitsSigned}
use Rattle.std.specs.Int.{w128}
use Rattle.std.specs.Arc.{arc_value}
use Rattle.std.proofs.lemmas.Int.{to_z-of_z}
use Rattle.std.proofs.lemmas.List.{take_all, length-map, get_or-map}
use Rattle.std.proofs.lemmas.Option.{slice_get-get_or}
use Rattle.sp_first_values.specs.FirstValues.{own_value}
use Rattle.sp_first_values.proofs.Opening.{value_step}
use Rattle.sp_first_values.proofs.first_values.Goals as goal

pub loop-k-preserved : goal.loop-k-preserved
loop-k-preserved c =
    let fits : FitsSigned w128 c.in_ok-value.value = search rules in
    let editions = c.args.editions.now in
    let k = c.loop-k.k in
    let e = arc_value c.index-editions-k.result in
    let less : k < length (map arc_value editions) = omega (arith, c.loop-k-test.true, length-map editions arc_value) in
    let at = slice_get-get_or (map arc_value editions) k e less ∙ ap Some (get_or-map arc_value editions k c.index-editions-k.result e c.loop-k-test.true ∙ ap arc_value (sym c.index-editions-k.is)) in
    value_step (map arc_value editions) k e c.loop-k.values c.push.new.self _ less at c.loop-k.invariant
    (to_z-of_z w128 _ fits ∙ c.in_ok-value.ensures ∙ ap own_value c.deref.ensures) c.in_ok-push.ensures.ok

pub returns : goal.returns
returns c =
    let editions = c.args.editions.now in
    c.loop-k.invariant ∙ ap (map own_value) (take_all c.loop-k.k (map arc_value editions) (omega (arith, c.loop-k-test.false, length-map editions arc_value)))

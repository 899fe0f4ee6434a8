use Rattle.std.proofs.Common.{◌∙◌, ap, rules, List, length}
use Rattle.std.specs.Int.{w128}
use Rattle.std.specs.Arc.{arc_value}
use Rattle.std.specs.Prelude.{FitsSigned}
use Rattle.std.proofs.lemmas.Int.{to_z-of_z}
use Rattle.sp_value.specs.declared.editions.Member.{Member}
use Rattle.sp_value.specs.Editions.{EditionParts, members_in}
use Rattle.sp_planner.specs.Numbers.{value_at_first}
use Rattle.sp_planner.proofs.Numbers.{summary_is}
use Rattle.sp_planner.proofs.summary.summary_of.Goals as goal

pub returns : goal.returns
returns c =
    let fits : FitsSigned w128 c.in_ok-value.value = search rules in
    summary_is c.args.book.now c.task.ensures.known (arc_value c.latest-last.result.now) c.latest-last.ensures _
    c.record_count.ensures c.count.ensures.value
    (c.len.ensures ∙ ap (λ (xs : List Member). length xs) (c.members.ensures.value ∙ ap (λ (e : EditionParts). e.members) c.deref-2.ensures))
    (to_z-of_z w128 _ fits ∙ c.in_ok-value.ensures ∙ ap (λ (e : EditionParts). value_at_first e.task (members_in e)) c.deref.ensures)

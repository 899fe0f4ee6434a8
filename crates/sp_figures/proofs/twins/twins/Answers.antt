use Rattle.std.proofs.Common.{◌∙◌}
use Rattle.std.specs.Arc.{arc_value}
use Rattle.sp_figures.proofs.TwinLemmas.{is_twins}
use Rattle.sp_figures.proofs.twins.twins.Goals as goal

pub new-requires : goal.new-requires
new-requires c =
    is_twins c.args.edition.now c.members.ensures.known c.members.result.now c.members.ensures.value c.at-member.result.now c.at-member.ensures
    c.args.first c.args.second c.if-first-second.false c.in_ok-one.one c.in_ok-two.two c.in_ok-one.ensures c.in_ok-two.ensures
    (arc_value c.in_ok-task.task) (c.in_ok-task.ensures ∙ c.task.ensures)
    _ _ _ c.new-members.ensures c.in_ok-push.ensures.ok c.in_ok-push-2.ensures.ok _

use Rattle.std.proofs.Common.{◌∙◌, ap, List, map, Global}
use Rattle.std.specs.Arc.{arc_value}
use Rattle.std.specs.declared.sync.Arc.{Arc}
use Rattle.sp_value.specs.declared.editions.Edition.{Edition}
use Rattle.sp_first_values.specs.FirstValues.{own_value}
use Rattle.sp_audit.specs.States.{contents}
use Rattle.sp_audit.specs.ReplayParts.{ReplayParts}
use Rattle.sp_audit.proofs.Outcomes.{is_replay_of}
use Rattle.sp_audit.proofs.judgments.replay_of.Goals as goal

pub returns : goal.returns
returns c = λ es state.
    is_replay_of (contents c.args.state) es state c.new.result
    (ap (λ (r : ReplayParts). r.editions) c.new.ensures)
    (ap (λ (r : ReplayParts). r.values) c.new.ensures ∙ c.in_ok-values.ensures ∙ ap (λ (xs : List (Arc Edition Global)). map own_value (map arc_value xs)) c.deref.ensures.value)
    (ap (λ (r : ReplayParts). r.task) c.new.ensures ∙ c.into_task.ensures)

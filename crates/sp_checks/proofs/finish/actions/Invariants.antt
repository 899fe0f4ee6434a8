use Rattle.std.proofs.Common.{◌≡◌, drop}
use Rattle.sp_declarations.specs.Steps.{in_turn}
use Rattle.sp_checks.specs.Finish as spec
use Rattle.sp_checks.proofs.finish.actions.Given as goal

abbrev pub invariant-loop-draft : goal.invariant-loop-draft
invariant-loop-draft l = in_turn (spec.action_step l.scope l.end l.reward) l.actions (drop l.draft-index l.drafts) ≡ spec.actions l.scope l.end l.reward l.drafts

use Rattle.std.proofs.Common.{◌≡◌, ◌<◌, ℕ, List, Bool, false, length, get_or, subst}
use Rattle.sp_audit.specs.States.{contents}
use Rattle.sp_audit.proofs.Faults.{publish_wrong}
use Rattle.sp_audit.proofs.states.RunState.judge_publish.Goals as goal

pub returns-then-not-are_all : goal.returns-then-not-are_all
returns-then-not-are_all c =
    let (k, less, down) = subst (λ (fs : List Bool). (k : ℕ) × (k < length fs) × (get_or fs k false ≡ false)) c.deref.ensures.value c.if-not-are_all.ensures in
    publish_wrong (contents c.args.self.now) c.requires.going k less down

use Rattle.std.proofs.Common.{◌≡◌, ◌∙◌, sym, ap, subst, Bool, cond, ◌&&◌, Some}
use Rattle.sp_theory.specs.OneThread.{yields}
use Rattle.sp_model.specs.declared.parts.Parts.{Parts}
use Rattle.sp_model.specs.Problem.{problem}
use Rattle.sp_value.specs.Tasks.{TaskParts}
use Rattle.sp_value.specs.Editions.{member_of, members_in}
use Rattle.sp_prune.specs.Least.{is_less_than}
use Rattle.sp_prune.proofs.States.{read_member}
use Rattle.sp_prune.proofs.LeastLemmas.{least_step}
use Rattle.sp_prune.proofs.least_above.Goals as goal
use Rattle.sp_prune.proofs.least_above.Goals.{then-branch, else-branch}

pub loop-k-preserved : goal.loop-k-preserved
loop-k-preserved c =
    let e = c.args.edition.now in
    let p = e.task.model in
    let x = c.at-other.result.now in
    let model = c.model-model.ensures.value ∙ ap (λ (t : TaskParts). t.model) (c.deref.ensures ∙ c.task.ensures) in
    let read = read_member p c.members-members.result.now e.members c.loop-k.k x c.members-members.ensures.value c.at-other.ensures in
    let judged : c.in_ok-improves.field-0 ≡ (is_less_than x.id c.loop-k.least && yields (problem p) (member_of p c.args.member.now) (member_of p x)) =
    subst (λ (q : Parts). c.in_ok-improves.field-0 ≡ (is_less_than x.id c.loop-k.least && yields (problem q) (member_of q c.args.member.now) (member_of q x))) model c.in_ok-improves.ensures in
    let step = least_step (yields (problem p) (member_of p c.args.member.now)) (members_in e) c.loop-k.k (member_of p x) read.0 read.1 c.loop-k.least c.loop-k.invariant c.in_ok-improves.field-0 judged in
    elim c.if-branch.branch [
      | then-branch w ↦ w.least-is ∙ ap (λ (b : Bool). cond b (Some x.id) c.loop-k.least) (sym w.if-branch.true) ∙ step
      | else-branch w ↦ w.least-is ∙ ap (λ (b : Bool). cond b (Some x.id) c.loop-k.least) (sym w.if-branch.false) ∙ step
    ]

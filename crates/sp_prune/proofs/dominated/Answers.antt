use Rattle.std.proofs.Common.{◌∙◌, sym, ap, arith, ◌++◌, append-nil, length}
use Rattle.std.specs.Prelude.{filter}
use Rattle.std.proofs.lemmas.List.{length-map}
use Rattle.sp_theory.specs.OneThread.{yields}
use Rattle.sp_model.specs.Problem.{problem}
use Rattle.sp_value.specs.Editions.{member_of, members_in}
use Rattle.sp_prune.proofs.States.{read_member}
use Rattle.sp_prune.proofs.LeastLemmas.{pairs_step, pairs_all, some_pair, no_pair}
use Rattle.sp_prune.proofs.dominated.Goals as goal
use Rattle.sp_prune.proofs.dominated.Goals.{in-Some+in_ok-push-in-Some, in-None}

pub loop-k-preserved : goal.loop-k-preserved
loop-k-preserved c =
    let e = c.args.edition.now in
    let p = e.task.model in
    let x = c.at-member.result.now in
    let read = read_member p c.members-members.result.now e.members c.loop-k.k x c.members-members.ensures.value c.at-member.ensures in
    let step = pairs_step (yields (problem p)) (members_in e) c.loop-k.k (member_of p x) read.0 read.1 in
    let others = filter (yields (problem p) (member_of p x)) (members_in e) in
    elim c.match-branch-2.branch [
      | in-Some+in_ok-push-in-Some w ↦ w.pairs-is ∙ w.in_ok-push-in-Some.ensures.ok ∙ (λ i. c.loop-k.invariant i ++ sym (some_pair (member_of p x) others w.in-Some.id (sym w.in-Some.is ∙ c.in_ok-id.ensures)) i) ∙ sym step
      | in-None w ↦ w.pairs-is ∙ sym (append-nil c.loop-k.pairs) ∙ (λ i. c.loop-k.invariant i ++ sym (no_pair (member_of p x) others (sym w.in-None.is ∙ c.in_ok-id.ensures)) i) ∙ sym step
    ]

pub returns : goal.returns
returns c =
    let e = c.args.edition.now in
    let same = ap length c.members-members.ensures.value in
    c.loop-k.invariant ∙ pairs_all (problem e.task.model) (members_in e) c.loop-k.k (omega (arith, same, length-map e.members (member_of e.task.model)))

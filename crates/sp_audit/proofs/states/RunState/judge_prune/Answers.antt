use Rattle.std.proofs.Common.{◌≡◌, ◌∙◌, ap, subst, rules, arith, ◌<◌, length, Option, Some, option_map, false, vec_len, Vec, Global}
use Rattle.std.specs.Arc.{arc_value}
use Rattle.std.proofs.lemmas.List.{places}
use Rattle.sp_model.specs.declared.parts.Parts.{Parts}
use Rattle.sp_value.specs.Tasks.{TaskParts}
use Rattle.sp_model.specs.Problem.{problem}
use Rattle.sp_value.specs.declared.editions.Member.{Member}
use Rattle.sp_value.specs.Editions.{edition_of}
use Rattle.sp_faults.specs.PruneTests.{can_prune}
use Rattle.sp_audit.specs.Pruning.{IsLeftOf}
use Rattle.sp_ledger.specs.Accounts.{last_of}
use Rattle.sp_audit.specs.States.{contents, account_in, IsStateAfter}
use Rattle.sp_ledger.proofs.Reading.{read_last, latest_task, latest_members}
use Rattle.sp_audit.proofs.Reading.{some_edition}
use Rattle.sp_audit.proofs.Pruned.{not_can, left_edition, prune_wrong, pruned_follows}
use Rattle.sp_audit.proofs.states.RunState.judge_prune.Goals as goal

pub returns-then-len-eq0 : goal.returns-then-len-eq0
returns-then-len-eq0 c = prune_wrong (contents c.args.self.now) c.requires.going c.args.pairs.now (λ es rep h. let some = h.0 in absurd (omega (arith, some, c.if-len-eq0.true, c.len.ensures)))

pub put-requires : goal.put-requires
put-requires c =
    let s = c.args.self.now in
    let own = contents s in
    let es = c.requires.replays.0 in
    let rep : IsStateAfter es own = c.requires.replays.1 in
    let e = c.deref-latest.result.now in
    let long : vec_len s.editions ≡ length s.editions.items = search (rules, places) in
    let last = read_last arc_value s.editions.items c.len-2.result c.index.result.now e (c.len-2.ensures ∙ long) (some_edition es own rep) c.index.ensures c.deref-latest.ensures in
    let p : Parts = c.model.result.now in
    let of_e : p ≡ e.task.model = c.model.ensures.value ∙ ap (λ (t : TaskParts). t.model) (c.deref.ensures ∙ c.task.ensures) in
    let members : c.in_ok-members.members.items ≡ e.members = c.in_ok-members.ensures ∙ c.as_slice.ensures ∙ c.members.ensures.value in
    let same : p ≡ own.task.model = of_e ∙ ap (λ (t : TaskParts). t.model) (latest_task own.task own.editions rep.numbered (some_edition es own rep) e last) in
    let is : edition_of p c.in_ok-members.members.items ≡ last_of (account_in own).editions = (λ i. edition_of (of_e i) (members i)) ∙ latest_members own.task own.editions rep.numbered (some_edition es own rep) e last in
    let ok : IsLeftOf p c.in_ok-members.members.items c.args.pairs.now (Some c.in-Some.left.items) = subst (λ (o : Option (Vec Member Global)). IsLeftOf p c.in_ok-members.members.items c.args.pairs.now (option_map (λ (v : Vec Member Global). v.items) o)) c.in-Some.is c.in_ok-left_of.ensures in
    left_edition own p same c.in_ok-members.members.items is c.args.pairs.now es rep c.requires.going c.in-Some.left.items ok

pub returns-in-None : goal.returns-in-None
returns-in-None c =
    let s = c.args.self.now in
    let own = contents s in
    let es = c.requires.replays.0 in
    let rep : IsStateAfter es own = c.requires.replays.1 in
    let e = c.deref-latest.result.now in
    let long : vec_len s.editions ≡ length s.editions.items = search (rules, places) in
    let last = read_last arc_value s.editions.items c.len-2.result c.index.result.now e (c.len-2.ensures ∙ long) (some_edition es own rep) c.index.ensures c.deref-latest.ensures in
    let p : Parts = c.model.result.now in
    let of_e : p ≡ e.task.model = c.model.ensures.value ∙ ap (λ (t : TaskParts). t.model) (c.deref.ensures ∙ c.task.ensures) in
    let members : c.in_ok-members.members.items ≡ e.members = c.in_ok-members.ensures ∙ c.as_slice.ensures ∙ c.members.ensures.value in
    let same : p ≡ own.task.model = of_e ∙ ap (λ (t : TaskParts). t.model) (latest_task own.task own.editions rep.numbered (some_edition es own rep) e last) in
    let is : edition_of p c.in_ok-members.members.items ≡ last_of (account_in own).editions = (λ i. edition_of (of_e i) (members i)) ∙ latest_members own.task own.editions rep.numbered (some_edition es own rep) e last in
    let stopped : can_prune (problem p) (edition_of p c.in_ok-members.members.items) c.args.pairs.now ≡ false = subst (λ (o : Option (Vec Member Global)). IsLeftOf p c.in_ok-members.members.items c.args.pairs.now (option_map (λ (v : Vec Member Global). v.items) o)) c.in-None.is c.in_ok-left_of.ensures in
    prune_wrong own c.requires.going c.args.pairs.now (λ es2 rep2 h. not_can own p same c.in_ok-members.members.items is c.args.pairs.now es2 rep2 stopped h.1)

pub returns-in_ok-put-in-Some : goal.returns-in_ok-put-in-Some
returns-in_ok-put-in-Some c =
    let s = c.args.self.now in
    let own = contents s in
    let es = c.requires.replays.0 in
    let rep : IsStateAfter es own = c.requires.replays.1 in
    let e = c.deref-latest.result.now in
    let long : vec_len s.editions ≡ length s.editions.items = search (rules, places) in
    let last = read_last arc_value s.editions.items c.len-2.result c.index.result.now e (c.len-2.ensures ∙ long) (some_edition es own rep) c.index.ensures c.deref-latest.ensures in
    let p : Parts = c.model.result.now in
    let of_e : p ≡ e.task.model = c.model.ensures.value ∙ ap (λ (t : TaskParts). t.model) (c.deref.ensures ∙ c.task.ensures) in
    let members : c.in_ok-members.members.items ≡ e.members = c.in_ok-members.ensures ∙ c.as_slice.ensures ∙ c.members.ensures.value in
    let same : p ≡ own.task.model = of_e ∙ ap (λ (t : TaskParts). t.model) (latest_task own.task own.editions rep.numbered (some_edition es own rep) e last) in
    let is : edition_of p c.in_ok-members.members.items ≡ last_of (account_in own).editions = (λ i. edition_of (of_e i) (members i)) ∙ latest_members own.task own.editions rep.numbered (some_edition es own rep) e last in
    let ok : IsLeftOf p c.in_ok-members.members.items c.args.pairs.now (Some c.in-Some.left.items) = subst (λ (o : Option (Vec Member Global)). IsLeftOf p c.in_ok-members.members.items c.args.pairs.now (option_map (λ (v : Vec Member Global). v.items) o)) c.in-Some.is c.in_ok-left_of.ensures in
    let more : 0 < length c.args.pairs.now = omega (arith, c.if-len-eq0.false, c.len.ensures) in
    pruned_follows own c.requires.going p same c.in_ok-members.members.items is c.args.pairs.now more c.in-Some.left.items ok _ c.in_ok-put-in-Some.ensures

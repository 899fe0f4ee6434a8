use Rattle.std.proofs.Common.{◌≡◌, ◌∙◌, sym, ap, subst, rules, arith, ℕ, ◌<◌, List, length, Bool, true, false, cond, Some, None, vec_len}
use Rattle.std.specs.Prelude.{slice_set}
use Rattle.std.proofs.lemmas.List.{places}
use Rattle.sp_theory.specs.OneThread.{picked}
use Rattle.sp_value.specs.Tasks.{task_of}
use Rattle.sp_core.specs.Books.{BookParts, state_of}
use Rattle.sp_core.specs.Ledgers.{contents, parts_in}
use Rattle.sp_core.specs.Marks.{marks_of, neither, picked_from}
use Rattle.sp_core.proofs.NextWork.{some_work, work_is, work_below}
use Rattle.sp_core.proofs.book.Book.next_work.Goals as goal

pub pick-belief-requires-clause-some : goal.pick-belief-requires-clause-some
pick-belief-requires-clause-some c =
    let own = contents c.self.inside.ledger in
    subst (λ (bs : List Bool). 0 < length (neither bs bs)) (sym c.deref.ensures.value) (some_work own c.self.invariant c.if-self.false)

pub returns-clause-below : goal.returns-clause-below
returns-clause-below c =
    let own = contents c.self.inside.ledger in
    let is = c.pick-belief.ensures ∙ (λ i. picked_from (c.deref.ensures.value i) (c.deref-2.ensures.value i) c.args.word) in
    subst (λ (b : BookParts). c.pick-belief.result < b.task.options.beliefs) c.self.view_is
    (subst (λ (n : ℕ). n < own.task.options.beliefs) (sym is) (work_below own c.self.invariant c.if-self.false c.args.word))

pub index_mut-requires : goal.index_mut-requires
index_mut-requires c =
    let own = contents c.self.inside.ledger in
    let is = c.pick-belief.ensures ∙ (λ i. picked_from (c.deref.ensures.value i) (c.deref-2.ensures.value i) c.args.word) in
    let below = work_below own c.self.invariant c.if-self.false c.args.word in
    let long : vec_len c.self.inside.ledger.taken ≡ length c.self.inside.ledger.taken.items = search (rules, places) in
    omega (arith, is, below, long, c.self.invariant.taken)

pub returns-clause-answer : goal.returns-clause-answer
returns-clause-answer c =
    let own = contents c.self.inside.ledger in
    let is = c.pick-belief.ensures ∙ (λ i. picked_from (c.deref.ensures.value i) (c.deref-2.ensures.value i) c.args.word) in
    let going : (state_of (parts_in own)).done ≡ false = sym c.self.invariant.running.replayed.account.done ∙ c.if-self.false in
    subst (λ (b : BookParts). Some c.pick-belief.result ≡ cond (state_of b).done None (Some (picked (task_of b.task) (state_of b) (marks_of b.taken) c.args.word))) c.self.view_is
    (ap Some (is ∙ sym (work_is own c.self.invariant c.args.word)) ∙ ap (λ (d : Bool). cond d None (Some (picked (task_of own.task) (state_of (parts_in own)) (marks_of own.taken) c.args.word))) (sym going))

pub returns-clause-taken : goal.returns-clause-taken
returns-clause-taken c =
    let own = contents c.self.inside.ledger in
    let is = c.pick-belief.ensures ∙ (λ i. picked_from (c.deref.ensures.value i) (c.deref-2.ensures.value i) c.args.word) in
    let going : (state_of (parts_in own)).done ≡ false = sym c.self.invariant.running.replayed.account.done ∙ c.if-self.false in
    let found = is ∙ sym (work_is own c.self.invariant c.args.word) in
    let marked : BookParts = record (parts_in own) { taken = slice_set own.taken (picked (task_of own.task) (state_of (parts_in own)) (marks_of own.taken) c.args.word) true } in
    subst (λ (b : BookParts). parts_in (record own { taken = slice_set own.taken c.pick-belief.result true }) ≡ cond (state_of b).done b (record b { taken = slice_set b.taken (picked (task_of b.task) (state_of b) (marks_of b.taken) c.args.word) true })) c.self.view_is
    (ap (λ (k : ℕ). parts_in (record own { taken = slice_set own.taken k true })) found ∙ ap (λ (d : Bool). cond d (parts_in own) marked) (sym going))

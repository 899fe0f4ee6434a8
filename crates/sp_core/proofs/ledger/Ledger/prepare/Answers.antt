use Rattle.std.proofs.Common.{◌≡◌, ◌≢◌, ◌∙◌, refl, sym, ap, subst, rules, ℕ, ◌<◌, [], ◌∷◌, ◌++◌, length, false, vec_len, option_map}
use Rattle.std.specs.Int.{w128}
use Rattle.std.specs.Prelude.{FitsSigned, AllPairs, IfSome}
use Rattle.std.proofs.lemmas.Int.{to_z-of_z}
use Rattle.std.proofs.lemmas.List.{places}
use Rattle.std.specs.Arc.{arc_value}
use Rattle.sp_value.specs.declared.editions.Member.{Member}
use Rattle.sp_value.specs.Tasks.{TaskParts}
use Rattle.sp_value.specs.Editions.{IsMemberOf}
use Rattle.sp_ledger.specs.declared.flags.Choice.TheVariants.{Neither, New, Old}
use Rattle.sp_core.specs.Books.{state_of}
use Rattle.sp_core.specs.Ledgers.{LedgerContents, contents, account_in, parts_in, IsLedger}
use Rattle.sp_dd.specs.Func.{Func}
use Rattle.sp_core.specs.Settling.{AreSampledWorths, IsOurs}
use Rattle.sp_core.specs.Plans.{choice_for, new_member, IsEntry, IsGreatestAtBelief}
use Rattle.sp_ledger.proofs.Ours.{own_belief}
use Rattle.sp_ledger.proofs.Reading.{chosen_is, read_last}
use Rattle.sp_core.proofs.Preparing.{new_known, some_edition, latest_task, greatest_is}
use Rattle.sp_core.proofs.SettledLedgers.{different_new, different_old}
use Rattle.sp_core.proofs.ledger.Ledger.prepare.Goals as goal

pub returns-in-Neither-clause-plan : goal.returns-in-Neither-clause-plan
returns-in-Neither-clause-plan c =
    let now = contents c.make_room.new.self in
    let same = c.make_room.ensures.same in
    let d = c.args.candidate.now in
    let led : IsLedger now = subst IsLedger (sym same) c.requires.ledger in
    let ours = subst (λ (x : LedgerContents). IsOurs (parts_in x) d.base) (sym same) c.requires.ours in
    let going : now.done ≡ false = ap (λ (x : LedgerContents). x.done) same ∙ c.requires.going in
    let is = c.vector-vector.ensures.known in
    let fits_latest : FitsSigned w128 c.index-2.result.now = search rules in
    let fits_grown : FitsSigned w128 c.index-3.result.now = search rules in
    let fits_worth : FitsSigned w128 c.in_ok-worth.worth = search rules in
    let chosen : choice_for now d ≡ Neither = chosen_is now.task (state_of (parts_in now)) (account_in now) led.running.replayed.account d.belief (own_belief now.task now.editions led.numbered d is ours) d.vector c.belief-belief.result c.belief-belief.ensures _ _ _ _ _ _ _ c.index.ensures c.index-2.ensures c.index-3.ensures
    (to_z-of_z w128 _ fits_latest) (to_z-of_z w128 _ fits_grown) (to_z-of_z w128 _ fits_worth) _ _ _ refl refl refl c.in_ok-worth.ensures _ Neither c.choose-choice.ensures c.in-Neither.is in
    chosen

pub due-requires-clause-weighed : goal.due-requires-clause-weighed
due-requires-clause-weighed c =
    let task = ap (λ (x : LedgerContents). x.task) c.make_room.ensures.same in
    subst (λ (t : TaskParts). IfSome c.args.weighed (λ w. AreSampledWorths t c.vector-vector.result.now w.now)) (sym task)
    (subst (λ (v : Func). IfSome c.args.weighed (λ w. AreSampledWorths c.args.self.now.task v w.now)) (sym c.vector-vector.ensures.value) c.requires.weighed)

pub due-requires-clause-member : goal.due-requires-clause-member
due-requires-clause-member c =
    let now = contents c.make_room.new.self in
    let same = c.make_room.ensures.same in
    let d = c.args.candidate.now in
    let led : IsLedger now = subst IsLedger (sym same) c.requires.ledger in
    let ours = subst (λ (x : LedgerContents). IsOurs (parts_in x) d.base) (sym same) c.requires.ours in
    let going : now.done ≡ false = ap (λ (x : LedgerContents). x.done) same ∙ c.requires.going in
    let is = c.vector-vector.ensures.known in
    let it : Member = record { id = now.records; action = c.action.result; vector = c.vector-vector.result.now } in
    let it_is : new_member now d ≡ it = (λ i. let r : Member = record { id = now.records; action = sym c.action.ensures i; vector = sym c.vector-vector.ensures.value i } in r) in
    subst (IsMemberOf now.task.model) it_is (new_known now led d is ours)

pub due-requires-clause-different : goal.due-requires-clause-different
due-requires-clause-different c =
    let now = contents c.make_room.new.self in
    let same = c.make_room.ensures.same in
    let d = c.args.candidate.now in
    let led : IsLedger now = subst IsLedger (sym same) c.requires.ledger in
    let ours = subst (λ (x : LedgerContents). IsOurs (parts_in x) d.base) (sym same) c.requires.ours in
    let going : now.done ≡ false = ap (λ (x : LedgerContents). x.done) same ∙ c.requires.going in
    let is = c.vector-vector.ensures.known in
    let it : Member = record { id = now.records; action = c.action.result; vector = c.vector-vector.result.now } in
    let it_is : new_member now d ≡ it = (λ i. let r : Member = record { id = now.records; action = sym c.action.ensures i; vector = sym c.vector-vector.ensures.value i } in r) in
    subst (λ (x : Member). AllPairs (λ (y z : Member). y.id ≢ z.id) (now.grown ++ x ∷ [])) it_is (different_new now led going d is ours)

pub greatest_at-requires : goal.greatest_at-requires
greatest_at-requires c =
    let now = contents c.make_room.new.self in
    let same = c.make_room.ensures.same in
    let d = c.args.candidate.now in
    let led : IsLedger now = subst IsLedger (sym same) c.requires.ledger in
    let ours = subst (λ (x : LedgerContents). IsOurs (parts_in x) d.base) (sym same) c.requires.ours in
    let going : now.done ≡ false = ap (λ (x : LedgerContents). x.done) same ∙ c.requires.going in
    let is = c.vector-vector.ensures.known in
    let items = c.make_room.new.self.editions in
    let e = c.deref.result.now in
    let long : vec_len items ≡ length items.items = search (rules, places) in
    let last = read_last arc_value items.items c.len.result c.index-latest.result.now e (c.len.ensures ∙ long) (some_edition now led) c.index-latest.ensures c.deref.ensures in
    subst (λ (t : TaskParts). c.belief.result < t.options.beliefs) (sym (latest_task now led e last))
    (subst (λ (n : ℕ). n < now.task.options.beliefs) (sym c.belief.ensures) (own_belief now.task now.editions led.numbered d is ours))

pub due-requires-in-Old-clause-member : goal.due-requires-in-Old-clause-member
due-requires-in-Old-clause-member c =
    let now = contents c.make_room.new.self in
    let same = c.make_room.ensures.same in
    let d = c.args.candidate.now in
    let led : IsLedger now = subst IsLedger (sym same) c.requires.ledger in
    let ours = subst (λ (x : LedgerContents). IsOurs (parts_in x) d.base) (sym same) c.requires.ours in
    let going : now.done ≡ false = ap (λ (x : LedgerContents). x.done) same ∙ c.requires.going in
    let is = c.vector-vector.ensures.known in
    let items = c.make_room.new.self.editions in
    let e = c.deref.result.now in
    let long : vec_len items ≡ length items.items = search (rules, places) in
    let last = read_last arc_value items.items c.len.result c.index-latest.result.now e (c.len.ensures ∙ long) (some_edition now led) c.index-latest.ensures c.deref.ensures in
    subst (λ (t : TaskParts). IsMemberOf t.model c.in_ok-member-in-Old.member) (latest_task now led e last) c.in_ok-member-in-Old.ensures.known

pub due-requires-in-Old-clause-different : goal.due-requires-in-Old-clause-different
due-requires-in-Old-clause-different c =
    let now = contents c.make_room.new.self in
    let same = c.make_room.ensures.same in
    let d = c.args.candidate.now in
    let led : IsLedger now = subst IsLedger (sym same) c.requires.ledger in
    let ours = subst (λ (x : LedgerContents). IsOurs (parts_in x) d.base) (sym same) c.requires.ours in
    let going : now.done ≡ false = ap (λ (x : LedgerContents). x.done) same ∙ c.requires.going in
    let is = c.vector-vector.ensures.known in
    let items = c.make_room.new.self.editions in
    let e = c.deref.result.now in
    let long : vec_len items ≡ length items.items = search (rules, places) in
    let last = read_last arc_value items.items c.len.result c.index-latest.result.now e (c.len.ensures ∙ long) (some_edition now led) c.index-latest.ensures c.deref.ensures in
    let fits_latest : FitsSigned w128 c.index-2.result.now = search rules in
    let fits_grown : FitsSigned w128 c.index-3.result.now = search rules in
    let fits_worth : FitsSigned w128 c.in_ok-worth.worth = search rules in
    let chosen : choice_for now d ≡ Old = chosen_is now.task (state_of (parts_in now)) (account_in now) led.running.replayed.account d.belief (own_belief now.task now.editions led.numbered d is ours) d.vector c.belief-belief.result c.belief-belief.ensures _ _ _ _ _ _ _ c.index.ensures c.index-2.ensures c.index-3.ensures
    (to_z-of_z w128 _ fits_latest) (to_z-of_z w128 _ fits_grown) (to_z-of_z w128 _ fits_worth) _ _ _ refl refl refl c.in_ok-worth.ensures _ Old c.choose-choice.ensures c.in-Old.is in
    let greatest = greatest_is now led e last d.belief c.belief.result c.in_ok-member-in-Old.member c.belief.ensures c.in_ok-member-in-Old.ensures.greatest in
    different_old now led going d is ours chosen c.in_ok-member-in-Old.member greatest

pub returns-in_ok-next-in-New-clause-plan : goal.returns-in_ok-next-in-New-clause-plan
returns-in_ok-next-in-New-clause-plan c =
    let now = contents c.make_room.new.self in
    let same = c.make_room.ensures.same in
    let d = c.args.candidate.now in
    let led : IsLedger now = subst IsLedger (sym same) c.requires.ledger in
    let ours = subst (λ (x : LedgerContents). IsOurs (parts_in x) d.base) (sym same) c.requires.ours in
    let going : now.done ≡ false = ap (λ (x : LedgerContents). x.done) same ∙ c.requires.going in
    let is = c.vector-vector.ensures.known in
    let fits_latest : FitsSigned w128 c.index-2.result.now = search rules in
    let fits_grown : FitsSigned w128 c.index-3.result.now = search rules in
    let fits_worth : FitsSigned w128 c.in_ok-worth.worth = search rules in
    let chosen : choice_for now d ≡ New = chosen_is now.task (state_of (parts_in now)) (account_in now) led.running.replayed.account d.belief (own_belief now.task now.editions led.numbered d is ours) d.vector c.belief-belief.result c.belief-belief.ensures _ _ _ _ _ _ _ c.index.ensures c.index-2.ensures c.index-3.ensures
    (to_z-of_z w128 _ fits_latest) (to_z-of_z w128 _ fits_grown) (to_z-of_z w128 _ fits_worth) _ _ _ refl refl refl c.in_ok-worth.ensures _ New c.choose-choice.ensures c.in-New.is in
    let then = contents c.due.new.self in
    let it_is : (record { id = now.records; action = c.action.result; vector = c.vector-vector.result.now }) ≡ new_member then d = (λ i. let r : Member = record { id = sym (ap (λ (x : LedgerContents). x.records) c.due.ensures.same) i; action = c.action.ensures i; vector = c.vector-vector.ensures.value i } in r) in
    (ap (λ (x : LedgerContents). choice_for x d) c.due.ensures.same ∙ chosen, subst (λ (x : Member). IsEntry then x (option_map arc_value c.in_ok-next-in-New.next)) it_is c.in_ok-next-in-New.ensures.entry)

pub returns-in_ok-next-in-Old-clause-plan : goal.returns-in_ok-next-in-Old-clause-plan
returns-in_ok-next-in-Old-clause-plan c =
    let now = contents c.make_room.new.self in
    let same = c.make_room.ensures.same in
    let d = c.args.candidate.now in
    let led : IsLedger now = subst IsLedger (sym same) c.requires.ledger in
    let ours = subst (λ (x : LedgerContents). IsOurs (parts_in x) d.base) (sym same) c.requires.ours in
    let going : now.done ≡ false = ap (λ (x : LedgerContents). x.done) same ∙ c.requires.going in
    let is = c.vector-vector.ensures.known in
    let items = c.make_room.new.self.editions in
    let e = c.deref.result.now in
    let long : vec_len items ≡ length items.items = search (rules, places) in
    let last = read_last arc_value items.items c.len.result c.index-latest.result.now e (c.len.ensures ∙ long) (some_edition now led) c.index-latest.ensures c.deref.ensures in
    let fits_latest : FitsSigned w128 c.index-2.result.now = search rules in
    let fits_grown : FitsSigned w128 c.index-3.result.now = search rules in
    let fits_worth : FitsSigned w128 c.in_ok-worth.worth = search rules in
    let chosen : choice_for now d ≡ Old = chosen_is now.task (state_of (parts_in now)) (account_in now) led.running.replayed.account d.belief (own_belief now.task now.editions led.numbered d is ours) d.vector c.belief-belief.result c.belief-belief.ensures _ _ _ _ _ _ _ c.index.ensures c.index-2.ensures c.index-3.ensures
    (to_z-of_z w128 _ fits_latest) (to_z-of_z w128 _ fits_grown) (to_z-of_z w128 _ fits_worth) _ _ _ refl refl refl c.in_ok-worth.ensures _ Old c.choose-choice.ensures c.in-Old.is in
    let greatest = greatest_is now led e last d.belief c.belief.result c.in_ok-member-in-Old.member c.belief.ensures c.in_ok-member-in-Old.ensures.greatest in (
      ap (λ (x : LedgerContents). choice_for x d) c.due-in-Old.ensures.same ∙ chosen,
      subst (λ (x : LedgerContents). IsGreatestAtBelief x d.belief c.in_ok-member-in-Old.member) (sym c.due-in-Old.ensures.same) greatest,
      c.in_ok-next-in-Old.ensures.entry,
    )

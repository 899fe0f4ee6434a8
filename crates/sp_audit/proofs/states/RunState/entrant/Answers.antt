use Rattle.std.proofs.Common.{◌≡◌, ◌∙◌, sym, subst, rules, arith, inl, inr, ℕ, ◌<◌, length, vec_len}
use Rattle.std.specs.Int.{w128}
use Rattle.std.specs.Prelude.{FitsSigned}
use Rattle.std.proofs.lemmas.Int.{to_z-of_z}
use Rattle.std.proofs.lemmas.List.{places}
use Rattle.std.specs.Arc.{arc_value}
use Rattle.sp_dd.specs.Func.{Func}
use Rattle.sp_value.specs.declared.editions.Member.{Member}
use Rattle.sp_value.specs.Tasks.{TaskParts}
use Rattle.sp_value.specs.Editions.{IsVector, IsMemberOf}
use Rattle.sp_value.specs.Candidates.{IsCandidate}
use Rattle.sp_ledger.specs.declared.flags.Choice.TheVariants.{Neither, New, Old}
use Rattle.sp_audit.specs.States.{contents, IsStateAfter, new_member, choice_for}
use Rattle.sp_ledger.proofs.Ours.{own_belief, own_vector, own_member}
use Rattle.sp_ledger.proofs.Reading.{read_last, latest_task, greatest_is}
use Rattle.sp_audit.proofs.Reading.{chosen_is, some_edition}
use Rattle.sp_audit.proofs.states.RunState.entrant.Goals as goal

pub worth-requires-clause-belief : goal.worth-requires-clause-belief
worth-requires-clause-belief c =
    let own = contents c.args.self.now in
    let es = c.requires.replays.0 in
    let rep : IsStateAfter es own = c.requires.replays.1 in
    let d = c.args.candidate in
    let is = subst IsCandidate c.candidate.view_is c.candidate.invariant in
    let ours = c.requires.base in
    subst (λ (n : ℕ). n < c.deref.result.now.options.beliefs) (sym c.belief.ensures) (subst (λ (t : TaskParts). d.belief < t.options.beliefs) (sym (c.deref.ensures ∙ c.task.ensures)) (own_belief own.task own.editions rep.numbered d is ours))

pub worth-requires-clause-vector : goal.worth-requires-clause-vector
worth-requires-clause-vector c =
    let own = contents c.args.self.now in
    let es = c.requires.replays.0 in
    let rep : IsStateAfter es own = c.requires.replays.1 in
    let d = c.args.candidate in
    let is = subst IsCandidate c.candidate.view_is c.candidate.invariant in
    let ours = c.requires.base in
    subst (λ (f : Func). IsVector c.deref.result.now.model f) (sym c.vector.ensures.value) (subst (λ (t : TaskParts). IsVector t.model d.vector) (sym (c.deref.ensures ∙ c.task.ensures)) (own_vector own.task own.editions rep.numbered d is ours))

pub index-requires : goal.index-requires
index-requires c =
    let own = contents c.args.self.now in
    let es = c.requires.replays.0 in
    let rep : IsStateAfter es own = c.requires.replays.1 in
    let d = c.args.candidate in
    let is = subst IsCandidate c.candidate.view_is c.candidate.invariant in
    let ours = c.requires.base in
    let long : vec_len c.args.self.now.improved ≡ length c.args.self.now.improved.items = search (rules, places) in
    let count : length c.args.self.now.improved.items ≡ own.task.options.beliefs = rep.replayed.account.flags in
    omega (arith, c.belief-belief.ensures, own_belief own.task own.editions rep.numbered d is ours, long, count)

pub index-requires-2 : goal.index-requires-2
index-requires-2 c =
    let own = contents c.args.self.now in
    let es = c.requires.replays.0 in
    let rep : IsStateAfter es own = c.requires.replays.1 in
    let d = c.args.candidate in
    let is = subst IsCandidate c.candidate.view_is c.candidate.invariant in
    let ours = c.requires.base in
    let long : vec_len c.args.self.now.latest_values ≡ length c.args.self.now.latest_values.items = search (rules, places) in
    let count : length c.args.self.now.latest_values.items ≡ own.task.options.beliefs = rep.replayed.account.latest_count in
    omega (arith, c.belief-belief.ensures, own_belief own.task own.editions rep.numbered d is ours, long, count)

pub index-requires-3 : goal.index-requires-3
index-requires-3 c =
    let own = contents c.args.self.now in
    let es = c.requires.replays.0 in
    let rep : IsStateAfter es own = c.requires.replays.1 in
    let d = c.args.candidate in
    let is = subst IsCandidate c.candidate.view_is c.candidate.invariant in
    let ours = c.requires.base in
    let long : vec_len c.args.self.now.grown_values ≡ length c.args.self.now.grown_values.items = search (rules, places) in
    let count : length c.args.self.now.grown_values.items ≡ own.task.options.beliefs = rep.replayed.account.grown_count in
    omega (arith, c.belief-belief.ensures, own_belief own.task own.editions rep.numbered d is ours, long, count)

pub greatest_at-requires : goal.greatest_at-requires
greatest_at-requires c =
    let own = contents c.args.self.now in
    let es = c.requires.replays.0 in
    let rep : IsStateAfter es own = c.requires.replays.1 in
    let d = c.args.candidate in
    let is = subst IsCandidate c.candidate.view_is c.candidate.invariant in
    let ours = c.requires.base in
    let items = c.args.self.now.editions in
    let e = c.deref-in-Old.result.now in
    let long : vec_len items ≡ length items.items = search (rules, places) in
    let last = read_last arc_value items.items c.len.result c.index-latest.result.now e (c.len.ensures ∙ long) (some_edition es own rep) c.index-latest.ensures c.deref-in-Old.ensures in
    subst (λ (t : TaskParts). c.belief-in-Old.result < t.options.beliefs) (sym (latest_task own.task own.editions rep.numbered (some_edition es own rep) e last))
    (subst (λ (n : ℕ). n < own.task.options.beliefs) (sym c.belief-in-Old.ensures) (own_belief own.task own.editions rep.numbered d is ours))

pub returns-in-Neither-clause-entrant : goal.returns-in-Neither-clause-entrant
returns-in-Neither-clause-entrant c =
    let own = contents c.args.self.now in
    let es = c.requires.replays.0 in
    let rep : IsStateAfter es own = c.requires.replays.1 in
    let d = c.args.candidate in
    let is = subst IsCandidate c.candidate.view_is c.candidate.invariant in
    let ours = c.requires.base in
    let fits_latest : FitsSigned w128 c.index-2.result.now = search rules in
    let fits_grown : FitsSigned w128 c.index-3.result.now = search rules in
    let fits_worth : FitsSigned w128 c.in_ok-worth.worth = search rules in
    let chosen : choice_for own d ≡ Neither = chosen_is es own rep d is ours c.belief-belief.result c.belief-belief.ensures _ _ _ _ _ _ _ c.index.ensures c.index-2.ensures c.index-3.ensures
    (to_z-of_z w128 _ fits_latest) (to_z-of_z w128 _ fits_grown) (to_z-of_z w128 _ fits_worth) _ _ _ (c.deref.ensures ∙ c.task.ensures) c.belief.ensures c.vector.ensures.value c.in_ok-worth.ensures _ Neither c.choose-choice.ensures c.in-Neither.is in
    chosen

pub returns-in-New-clause-entrant : goal.returns-in-New-clause-entrant
returns-in-New-clause-entrant c =
    let own = contents c.args.self.now in
    let es = c.requires.replays.0 in
    let rep : IsStateAfter es own = c.requires.replays.1 in
    let d = c.args.candidate in
    let is = subst IsCandidate c.candidate.view_is c.candidate.invariant in
    let ours = c.requires.base in
    let fits_latest : FitsSigned w128 c.index-2.result.now = search rules in
    let fits_grown : FitsSigned w128 c.index-3.result.now = search rules in
    let fits_worth : FitsSigned w128 c.in_ok-worth.worth = search rules in
    let chosen : choice_for own d ≡ New = chosen_is es own rep d is ours c.belief-belief.result c.belief-belief.ensures _ _ _ _ _ _ _ c.index.ensures c.index-2.ensures c.index-3.ensures
    (to_z-of_z w128 _ fits_latest) (to_z-of_z w128 _ fits_grown) (to_z-of_z w128 _ fits_worth) _ _ _ (c.deref.ensures ∙ c.task.ensures) c.belief.ensures c.vector.ensures.value c.in_ok-worth.ensures _ New c.choose-choice.ensures c.in-New.is in
    let it : Member = record { id = own.records; action = c.action-action.result; vector = c.open-vector.result.2 } in
    let it_is : it ≡ new_member own d = (λ i. let r : Member = record { id = own.records; action = c.action-action.ensures i; vector = c.open-vector.ensures.vector i } in r) in
    (subst (IsMemberOf own.task.model) (sym it_is) (own_member own.task own.editions rep.numbered d is ours rep.task.model own.records), inl (chosen, it_is))

pub returns-in_ok-member-in-Old-clause-entrant : goal.returns-in_ok-member-in-Old-clause-entrant
returns-in_ok-member-in-Old-clause-entrant c =
    let own = contents c.args.self.now in
    let es = c.requires.replays.0 in
    let rep : IsStateAfter es own = c.requires.replays.1 in
    let d = c.args.candidate in
    let is = subst IsCandidate c.candidate.view_is c.candidate.invariant in
    let ours = c.requires.base in
    let items = c.args.self.now.editions in
    let e = c.deref-in-Old.result.now in
    let long : vec_len items ≡ length items.items = search (rules, places) in
    let last = read_last arc_value items.items c.len.result c.index-latest.result.now e (c.len.ensures ∙ long) (some_edition es own rep) c.index-latest.ensures c.deref-in-Old.ensures in
    let fits_latest : FitsSigned w128 c.index-2.result.now = search rules in
    let fits_grown : FitsSigned w128 c.index-3.result.now = search rules in
    let fits_worth : FitsSigned w128 c.in_ok-worth.worth = search rules in
    let chosen : choice_for own d ≡ Old = chosen_is es own rep d is ours c.belief-belief.result c.belief-belief.ensures _ _ _ _ _ _ _ c.index.ensures c.index-2.ensures c.index-3.ensures
    (to_z-of_z w128 _ fits_latest) (to_z-of_z w128 _ fits_grown) (to_z-of_z w128 _ fits_worth) _ _ _ (c.deref.ensures ∙ c.task.ensures) c.belief.ensures c.vector.ensures.value c.in_ok-worth.ensures _ Old c.choose-choice.ensures c.in-Old.is in
    let greatest = greatest_is own.task own.editions rep.numbered (some_edition es own rep) e last d.belief c.belief-in-Old.result c.in_ok-member-in-Old.member c.belief-in-Old.ensures c.in_ok-member-in-Old.ensures.greatest in
    (subst (λ (t : TaskParts). IsMemberOf t.model c.in_ok-member-in-Old.member) (latest_task own.task own.editions rep.numbered (some_edition es own rep) e last) c.in_ok-member-in-Old.ensures.known, inr (chosen, greatest))

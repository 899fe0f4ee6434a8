use Rattle.std.proofs.Common.{◌≡◌, ◌∙◌, sym, ap, subst, rules, ℕ, List, [], ◌∷◌, map, replicate, false, length}
use Rattle.std.specs.Prelude.{pos}
use Rattle.std.specs.Arc.{arc_value}
use Rattle.std.specs.Vec.{with_items}
use Rattle.std.specs.declared.sync.Arc.{Arc}
use Rattle.std.proofs.Common.{Global, ℤ}
use Rattle.std.proofs.lemmas.List.{with_items_is, places, length-replicate}
use Rattle.sp_dd.specs.Func.{IsScope}
use Rattle.sp_model.specs.declared.parts.Parts.{Parts}
use Rattle.sp_model.specs.Problem.{shape_of, vector_of}
use Rattle.sp_value.specs.declared.editions.Member.{Member}
use Rattle.sp_value.specs.declared.editions.Edition.{Edition}
use Rattle.sp_value.specs.declared.tasks.Options.{Options}
use Rattle.sp_value.specs.Tasks.{TaskParts, IsTask, task_of}
use Rattle.sp_value.specs.Editions.{EditionParts}
use Rattle.sp_ledger.specs.Accounts.{AreWorths}
use Rattle.sp_ledger.specs.Opening.{first_edition, first_member}
use Rattle.sp_audit.specs.States.{ReplayContents}
use Rattle.sp_audit.proofs.Following.{first_replay}
use Rattle.sp_audit.proofs.states.RunState.opened.Goals as goal

pub returns-clause-replay : goal.returns-clause-replay
returns-clause-replay c =
    let t = arc_value c.args.task in
    let is : IsTask t = subst IsTask c.deref.ensures c.model.ensures.known in
    let scope : IsScope (shape_of t.model) = subst IsScope (c.scope.ensures ∙ ap (λ (p : Parts). p.scope) (c.model.ensures.value ∙ ap (λ (u : TaskParts). u.model) c.deref.ensures) ∙ is.model.scope) c.slots-beliefs.ensures.known in
    let options = c.options.ensures ∙ ap (λ (u : TaskParts). u.options) c.deref-2.ensures in
    let count : c.options.result.now.beliefs ≡ t.options.beliefs = ap (λ (o : Options). o.beliefs) options in
    let stages : c.options-2.result.now.stages ≡ t.options.stages = ap (λ (o : Options). o.stages) (c.options-2.ensures ∙ ap (λ (u : TaskParts). u.options) c.deref-3.ensures) in
    let member : c.in_ok-member.member ≡ first_member t = c.in_ok-member.ensures.value ∙ ap first_member c.deref-4.ensures in
    let own : c.in_ok-task.task ≡ t = c.in_ok-task.ensures in
    let edition : arc_value c.in_ok-edition.edition ≡ first_edition t = c.in_ok-edition.ensures ∙ ap first_edition (c.task-2.ensures ∙ own) in
    let editions : c.in_ok-editions.editions.items ≡ c.in_ok-edition.edition ∷ [] = c.in_ok-editions.ensures in
    let improved : c.in_ok-improved.improved.items ≡ replicate c.options.result.now.beliefs false = c.in_ok-improved.ensures in
    let room : c.in_ok-latest_values.latest_values.items ≡ replicate c.options.result.now.beliefs (pos 0) = c.in_ok-latest_values.ensures in
    let grown_values : c.in_ok-grown_values.grown_values.items ≡ replicate c.options.result.now.beliefs (pos 0) = c.in_ok-grown_values.ensures in
    let worths : c.in_ok-worths.worths.items ≡ replicate c.options.result.now.beliefs (pos 0) = c.in_ok-worths.ensures in
    let weighed : AreWorths (task_of c.in_ok-task.task) (vector_of c.in_ok-task.task.model c.in_ok-member.member.vector) c.weigh.new.worths = c.in_ok-weigh.ensures in
    let final = with_items_is c.in_ok-latest_values.latest_values c.weigh.new.worths (search (rules, places)) in
    let long : length c.weigh.new.worths ≡ t.options.beliefs = c.weigh.auto.worths ∙ ap (λ (xs : List ℤ). length xs) (c.as_mut_slice.ensures.value ∙ room) ∙ length-replicate c.options.result.now.beliefs (pos 0) ∙ count in
    first_replay t is scope _
    (λ i. let r : ReplayContents = record {
      task = own i;
      editions = (ap (λ (xs : List (Arc Edition Global)). map arc_value xs) editions ∙ ap (λ (e : EditionParts). e ∷ []) edition) i;
      records = 1;
      grown = c.new-2.ensures.items i;
      improved = (improved ∙ ap (λ (n : ℕ). replicate n false) count) i;
      latest_values = (with_items c.in_ok-latest_values.latest_values c.weigh.new.worths).items;
      grown_values = (grown_values ∙ ap (λ (n : ℕ). replicate n (pos 0)) count) i;
      worths = (worths ∙ ap (λ (n : ℕ). replicate n (pos 0)) count) i;
      stages_left = stages i;
      done = false;
    } in r)
    (ap (λ (xs : List ℤ). length xs) final ∙ long)
    (subst (AreWorths (task_of t) (vector_of t.model (first_member t).vector)) (sym final)
    (subst (λ (x : Member). AreWorths (task_of t) (vector_of t.model x.vector) c.weigh.new.worths) member
    (subst (λ (u : TaskParts). AreWorths (task_of u) (vector_of u.model c.in_ok-member.member.vector) c.weigh.new.worths) own weighed)))

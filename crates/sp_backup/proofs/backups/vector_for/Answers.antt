use Rattle.std.proofs.Common.{◌≡◌, ℕ, rules, arith, refl, sym, ap, ◌∙◌, subst, length, get_or, List}
use Rattle.std.specs.Int.{w128}
use Rattle.std.specs.Prelude.{FitsSigned, All}
use Rattle.std.proofs.lemmas.Int.{to_z-of_z}
use Rattle.std.proofs.lemmas.List.{length-map}
use Rattle.sp_dd.specs.Func.{Func}
use Rattle.sp_dd.specs.Operations.{state_dot}
use Rattle.sp_theory.specs.Points.{count_of}
use Rattle.sp_theory.proofs.Agreement.{dot_same}
use Rattle.sp_model.specs.Problem.{sizes_of, problem}
use Rattle.sp_model.specs.Links.{weights_of}
use Rattle.sp_value.specs.declared.editions.Member.{Member}
use Rattle.sp_value.specs.Editions.{members_in, no_member}
use Rattle.sp_value.specs.Linked.{linked_vectors}
use Rattle.sp_value.proofs.Vectors.{vector_small, dot_is}
use Rattle.sp_backup.specs.Choosing.{ids_at}
use Rattle.sp_backup.specs.Members.{HasMember}
use Rattle.sp_backup.specs.Stepping.{IsStep}
use Rattle.sp_backup.proofs.AllLinks.{places_within}
use Rattle.sp_backup.proofs.Trials.{ids_known, linked-agrees}
use Rattle.sp_backup.proofs.backups.vector_for.Goals as goal

pub ids_of-requires : goal.ids_of-requires
ids_of-requires c =
    let e = c.args.setting.now.edition.now in
    let long = ap length (c.as_slice.ensures ∙ c.members-members.ensures.value) in
    λ k d less. (let inside = places_within e (weights_of e.task.model c.args.setting.now.weights.now) c.args.action (count_of (sizes_of e.task.model.sights)) c.args.places.now c.requires.links k d less in omega (arith, long, inside))

pub assemble-requires-clause-count : goal.assemble-requires-clause-count
assemble-requires-clause-count c =
    let e = c.args.setting.now.edition.now in
    ap length (c.as_slice-2.ensures ∙ c.in_ok-ids.ensures ∙ ap (λ (l : List Member). ids_at l c.args.places.now) (c.as_slice.ensures ∙ c.members-members.ensures.value))
    ∙ length-map c.args.places.now (λ (k : ℕ). (get_or e.members k no_member).id) ∙ c.requires.links.count

pub assemble-requires-clause-members : goal.assemble-requires-clause-members
assemble-requires-clause-members c =
    let e = c.args.setting.now.edition.now in
    subst (All (HasMember e.members)) (sym (c.as_slice-2.ensures ∙ c.in_ok-ids.ensures ∙ ap (λ (l : List Member). ids_at l c.args.places.now) (c.as_slice.ensures ∙ c.members-members.ensures.value)))
    (ids_known e c.members-members.ensures.known (weights_of e.task.model c.args.setting.now.weights.now) c.args.action c.args.places.now c.requires.links)

pub dot-requires-clause-unprimed_f : goal.dot-requires-clause-unprimed_f
dot-requires-clause-unprimed_f c = c.in_ok-vector.ensures.vector.unprimed

pub dot-requires-clause-small : goal.dot-requires-clause-small
dot-requires-clause-small c =
    let within = vector_small c.args.setting.now.edition.now.task.model c.members-members.ensures.known.task.model c.in_ok-vector.vector c.in_ok-vector.ensures.vector in
    (λ x at. let small = within x at in omega (arith, small))

pub returns : goal.returns
returns c =
    let e = c.args.setting.now.edition.now in
    let known = c.members-members.ensures.known in
    let fits : FitsSigned w128 c.in_ok-sum.sum = search rules in
    let w = weights_of e.task.model c.args.setting.now.weights.now in
    let ids : c.as_slice-2.result.now ≡ ids_at e.members c.args.places.now = c.as_slice-2.ensures ∙ c.in_ok-ids.ensures ∙ ap (λ (l : List Member). ids_at l c.args.places.now) (c.as_slice.ensures ∙ c.members-members.ensures.value) in
    let stepped = subst (λ (l : List ℕ). IsStep e.task.model c.args.action (linked_vectors (problem e.task.model) (members_in e) l) c.in_ok-vector.vector) ids c.in_ok-vector.ensures in
    let agrees = linked-agrees e known w c.args.action c.args.places.now c.requires.links c.in_ok-vector.vector stepped in
    record {
      vector = stepped.vector;
      agrees = agrees;
      sum =
          to_z-of_z w128 _ fits ∙ c.in_ok-sum.ensures ∙ ap (λ (f : Func). state_dot f c.in_ok-vector.vector) c.func.ensures.value
          ∙ dot_is e.task.model known.task.model c.args.setting.now.weights.now c.in_ok-vector.vector c.args.setting.now.scope stepped.vector c.func.ensures.known.not_negative
          ∙ dot_same (problem e.task.model) w w _ _ (λ s at. refl) agrees;
    }

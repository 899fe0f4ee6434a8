use Rattle.std.proofs.Common.{◌≡◌, ◌∙◌, sym, ap, subst, rules, List, [], ◌∷◌, ◌++◌, map, length, vec_len, Global}
use Rattle.std.specs.Arc.{arc_value}
use Rattle.std.specs.declared.sync.Arc.{Arc}
use Rattle.std.proofs.lemmas.List.{places, length-map, map-append}
use Rattle.sp_value.specs.declared.editions.Edition.{Edition}
use Rattle.sp_value.specs.Editions.{EditionParts, IsEdition}
use Rattle.sp_audit.specs.States.{ReplayContents, contents}
use Rattle.sp_audit.proofs.states.RunState.put.Goals as goal

pub shared_edition-requires : goal.shared_edition-requires
shared_edition-requires c =
    let s = c.args.self.now in
    let own = contents s in
    let long : vec_len s.editions ≡ length s.editions.items = search (rules, places) in
    let number = c.len-number.ensures ∙ long ∙ sym (length-map s.editions.items arc_value) in
    subst IsEdition (λ i. let r : EditionParts = record { number = sym number i; task = sym c.task.ensures i; members = sym c.from_vec.ensures i } in r) c.requires

pub returns : goal.returns
returns c =
    let s = c.args.self.now in
    let own = contents s in
    let long : vec_len s.editions ≡ length s.editions.items = search (rules, places) in
    let number = c.len-number.ensures ∙ long ∙ sym (length-map s.editions.items arc_value) in
    let edition = c.in_ok-edition.ensures ∙ (λ i. let r : EditionParts = record { number = number i; task = c.task.ensures i; members = c.from_vec.ensures i } in r) in
    let editions = ap (λ (xs : List (Arc Edition Global)). map arc_value xs) (c.push_reserved.ensures.items ∙ ap (λ (xs : List (Arc Edition Global)). xs ++ c.in_ok-edition.edition ∷ []) c.reserve.ensures.items)
    ∙ map-append arc_value s.editions.items (c.in_ok-edition.edition ∷ []) ∙ ap (λ (e : EditionParts). own.editions ++ e ∷ []) edition in
    (λ i. let r : ReplayContents = record own { editions = editions i } in r)

use Rattle.std.proofs.Common.{◌≡◌, ◌∙◌, sym, ap, subst, rules, ℕ, List, [], ◌∷◌, ◌++◌, map, replicate, false, length, vec_len, Vec, ℤ, Global}
use Rattle.std.specs.Arc.{arc_value}
use Rattle.std.specs.declared.sync.Arc.{Arc}
use Rattle.std.proofs.lemmas.List.{places, length-map, map-append}
use Rattle.sp_value.specs.declared.editions.Member.{Member}
use Rattle.sp_value.specs.declared.editions.Edition.{Edition}
use Rattle.sp_value.specs.Tasks.{TaskParts}
use Rattle.sp_value.specs.Editions.{EditionParts, IsEdition}
use Rattle.sp_audit.specs.States.{ReplayContents, contents, IsStateAfter}
use Rattle.sp_audit.proofs.Following.{published_follows, grown_is_edition}
use Rattle.sp_audit.proofs.states.RunState.publish.Goals as goal

pub shared_edition-requires : goal.shared_edition-requires
shared_edition-requires c =
    let own = contents c.args.self.now in
    let es = c.requires.replays.0 in
    let rep : IsStateAfter es own = c.requires.replays.1 in
    let members : c.from_vec.result ≡ own.grown = c.from_vec.ensures ∙ ap (λ (v : Vec Member Global). v.items) c.replace-grown.ensures.value in
    subst (λ (t : TaskParts). IsEdition (record { number = c.len-number.result; task = t; members = c.from_vec.result })) (sym c.task.ensures)
    (subst (λ (xs : List Member). IsEdition (record { number = c.len-number.result; task = own.task; members = xs })) (sym members) (grown_is_edition es own rep c.requires.going c.requires.up c.len-number.result))

pub returns : goal.returns
returns c =
    let s = c.args.self.now in
    let own = contents s in
    let long : vec_len s.editions ≡ length s.editions.items = search (rules, places) in
    let number : c.len-number.result ≡ length own.editions = c.len-number.ensures ∙ long ∙ sym (length-map s.editions.items arc_value) in
    let members : c.from_vec.result ≡ own.grown = c.from_vec.ensures ∙ ap (λ (v : Vec Member Global). v.items) c.replace-grown.ensures.value in
    let edition = c.in_ok-edition.ensures ∙ (λ i. let r : EditionParts = record { number = number i; task = c.task.ensures i; members = members i } in r) in
    let editions = ap (λ (xs : List (Arc Edition Global)). map arc_value xs) (c.push_reserved.ensures.items ∙ ap (λ (xs : List (Arc Edition Global)). xs ++ c.in_ok-edition.edition ∷ []) c.reserve.ensures.items)
    ∙ map-append arc_value s.editions.items (c.in_ok-edition.edition ∷ []) ∙ ap (λ (e : EditionParts). own.editions ++ e ∷ []) edition in
    let grown = ap (λ (v : Vec Member Global). v.items) c.replace-grown.ensures.after ∙ c.new.ensures.items in
    let flags : vec_len s.improved ≡ length s.improved.items = search (rules, places) in
    let improved = c.fill.ensures.items (λ y e. e) ∙ ap (λ (n : ℕ). replicate n false) flags in
    published_follows own c.requires.going c.requires.up _
    (λ i. let r : ReplayContents = record {
      task = own.task;
      editions = editions i;
      records = own.records;
      grown = grown i;
      improved = improved i;
      latest_values = ap (λ (v : Vec ℤ Global). v.items) c.swap.ensures.x_after i;
      grown_values = ap (λ (v : Vec ℤ Global). v.items) c.swap.ensures.y_after i;
      worths = own.worths;
      stages_left = c.saturating_sub-self.ensures i;
      done = own.done;
    } in r)

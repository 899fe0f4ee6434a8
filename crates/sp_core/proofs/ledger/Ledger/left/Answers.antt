use Rattle.std.proofs.Common.{◌≡◌, ◌∙◌, sym, ap, subst, rules, List, length, get_or, vec_len, ◌-◌}
use Rattle.std.specs.Arc.{arc_value}
use Rattle.std.specs.declared.sync.Arc.{Arc}
use Rattle.std.proofs.Common.{Global}
use Rattle.std.proofs.lemmas.List.{places}
use Rattle.sp_value.specs.declared.editions.Member.{Member}
use Rattle.sp_value.specs.declared.editions.Edition.{Edition}
use Rattle.sp_value.specs.Tasks.{TaskParts}
use Rattle.sp_value.specs.Editions.{IsEdition}
use Rattle.sp_core.specs.Ledgers.{contents}
use Rattle.sp_drops.specs.Drops.{left_by}
use Rattle.sp_ledger.proofs.Reading.{read_last}
use Rattle.sp_core.proofs.Preparing.{some_edition}
use Rattle.sp_core.proofs.PrunedLedgers.{left_edition}
use Rattle.sp_core.proofs.ledger.Ledger.left.Goals as goal

pub shared_edition-requires : goal.shared_edition-requires
shared_edition-requires c =
    let own = contents c.args.self.now in
    let old = c.args.self.now.editions in
    let ledger = c.requires.ledger in
    let long : vec_len old ≡ length old.items = search (rules, places) in
    let read = c.index-latest.ensures ∙ ap (λ (xs : List (Arc Edition Global)). get_or xs (c.len.result - 1) c.index-latest.result.now) c.reserve-2.ensures.items in
    let last = read_last arc_value old.items c.len.result c.index-latest.result.now c.deref.result.now (c.len.ensures ∙ c.reserve-2.ensures.len ∙ long) (some_edition own ledger) read c.deref.ensures in
    let members = c.in_ok-members.ensures ∙ ap (left_by c.args.pairs.now) (c.as_slice.ensures ∙ c.members.ensures.value) in
    subst (λ (t : TaskParts). IsEdition (record { number = c.len-number.result; task = t; members = c.in_ok-members.members })) (sym c.task.ensures)
    (subst (λ (xs : List Member). IsEdition (record { number = c.len-number.result; task = c.args.self.now.task; members = xs })) (sym members)
    (left_edition own ledger c.deref.result.now last c.members.ensures.known c.args.pairs.now c.requires.some c.len-number.result))

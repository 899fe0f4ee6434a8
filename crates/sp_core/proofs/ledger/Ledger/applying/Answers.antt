use Rattle.std.proofs.Common.{◌≡◌, ◌∙◌, rules, length, vec_len}
use Rattle.std.specs.Arc.{arc_value}
use Rattle.std.proofs.lemmas.List.{places}
use Rattle.sp_core.specs.Ledgers.{contents}
use Rattle.sp_ledger.proofs.Reading.{read_last}
use Rattle.sp_core.proofs.Preparing.{some_edition}
use Rattle.sp_core.proofs.PrunedLedgers.{applying_read}
use Rattle.sp_core.proofs.ledger.Ledger.applying.Goals as goal

pub returns : goal.returns
returns c =
    let own = contents c.args.self.now in
    let items = c.args.self.now.editions in
    let long : vec_len items ≡ length items.items = search (rules, places) in
    let last = read_last arc_value items.items c.len.result c.index-latest.result.now c.deref.result.now (c.len.ensures ∙ long) (some_edition own c.requires) c.index-latest.ensures c.deref.ensures in
    applying_read own c.requires c.deref.result.now last c.as_slice.result.now (c.as_slice.ensures ∙ c.members.ensures.value) c.args.pairs.now c.in_ok-found.found c.in_ok-found.ensures

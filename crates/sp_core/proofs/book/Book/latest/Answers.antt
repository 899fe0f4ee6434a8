use Rattle.std.proofs.Common.{◌≡◌, ◌∙◌, sym, ap, subst, rules, refl, arith, ◌-◌, length, Some, vec_len}
use Rattle.std.specs.Prelude.{slice_get}
use Rattle.std.specs.Arc.{arc_value}
use Rattle.std.proofs.lemmas.List.{places}
use Rattle.std.proofs.lemmas.Option.{slice_get-get_or}
use Rattle.sp_core.specs.Books.{BookParts}
use Rattle.sp_core.specs.Ledgers.{contents}
use Rattle.sp_ledger.proofs.Reading.{read_last}
use Rattle.sp_core.proofs.Preparing.{some_edition}
use Rattle.sp_core.proofs.book.Book.latest.Goals as goal

pub returns : goal.returns
returns c =
    let editions = c.self.inside.ledger.editions in
    let e = arc_value c.index.result.now in
    let long : vec_len editions ≡ length editions.items = search (rules, places) in
    let some = some_edition (contents c.self.inside.ledger) c.self.invariant in
    let last = read_last arc_value editions.items c.len.result c.index.result.now e (c.len.ensures ∙ long) some c.index.ensures refl in
    let all = (contents c.self.inside.ledger).editions in
    subst (λ (b : BookParts). slice_get b.editions (length b.editions - 1) ≡ Some e) c.self.view_is
    (slice_get-get_or all (length all - 1) e (omega (arith, some)) ∙ ap Some (sym last))

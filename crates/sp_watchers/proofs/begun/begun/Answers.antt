use Rattle.std.proofs.Common.{◌≡◌, ◌∙◌, ap, sym, subst, List, length, Some}
use Rattle.std.specs.Arc.{arc_value}
use Rattle.sp_value.specs.Editions.{EditionParts}
use Rattle.sp_workers.proofs.Beginnings.{edition_at, first_begins}
use Rattle.sp_watchers.proofs.begun.begun.Goals as goal

pub begin-requires-clause-first : goal.begin-requires-clause-first
begin-requires-clause-first g c =
    let at = sym c.in-Some.ensures ∙ ap Some (sym c.in_ok-first.ensures) in
    (edition_at c.args.book.now c.task.ensures.known 0 (arc_value c.in_ok-first.first) at).0

pub returns-clause-beginning : goal.returns-clause-beginning
returns-clause-beginning g c =
    let at = sym c.in-Some.ensures ∙ ap Some (sym c.in_ok-first.ensures) in
    first_begins c.in_ok-begun.begun.0 c.args.book.now (arc_value c.in_ok-first.first) c.in_ok-begun.ensures.editions c.in_ok-begun.ensures.open at

pub returns-clause-one : goal.returns-clause-one
returns-clause-one g c = ap (λ (es : List EditionParts). length es) c.in_ok-begun.ensures.editions

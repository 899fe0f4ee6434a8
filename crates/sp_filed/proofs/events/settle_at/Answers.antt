use Rattle.std.proofs.Common.{◌≡◌, ◌≢◌, ℕ, List, length, arith, ap, sym, ◌∙◌, Option, Some, None}
use Rattle.std.specs.Prelude.{MatchOption}
use Rattle.std.specs.List.{AllByRecursion}
use Rattle.sp_lines.specs.Lines.{numbers_behind_spaces, IsSmall}
use Rattle.sp_planfile.proofs.Unique.{spaced_tells}
use Rattle.sp_filed.proofs.Lines.{settle_same, settle_begins}
use Rattle.sp_filed.proofs.events.settle_at.Goals as goal
use Rattle.sp_filed.proofs.events.settle_at.Goals.{else-belief-sizes-via-then-belief-sizes+then-action-sizes+else-len-sizes, else-belief-sizes-via-then-belief-sizes+else-action-sizes, else-belief-sizes-via-else-belief-sizes}

none_of : (found : Option (List ℕ)) (text links : List ℕ) → found ≡ None → MatchOption found ((ns : List ℕ) → AllByRecursion IsSmall ns → text ≢ numbers_behind_spaces ns) (λ ns. (text ≡ numbers_behind_spaces ns) × AllByRecursion IsSmall ns) → AllByRecursion IsSmall links → text ≡ numbers_behind_spaces links → ⊥
none_of None text links e none small is = none links small is
none_of (Some ns) text links e read small is = cc

some_of : (found : Option (List ℕ)) (text links read : List ℕ) → found ≡ Some read → MatchOption found ((ns : List ℕ) → AllByRecursion IsSmall ns → text ≢ numbers_behind_spaces ns) (λ ns. (text ≡ numbers_behind_spaces ns) × AllByRecursion IsSmall ns) → AllByRecursion IsSmall links → text ≡ numbers_behind_spaces links → read ≡ links
some_of None text links read e none small is = cc
some_of (Some ns) text links read e so small is =
    let same : ns ≡ read = cc in
    sym same ∙ spaced_tells ns links so.1 small (sym so.0 ∙ is)

pub returns-in_default : goal.returns-in_default
returns-in_default c = λ k e a links good is. c.in_default.ensures k e a (numbers_behind_spaces links) (settle_begins c.args.text.now k e a links good.1 is)

pub returns-in_default-2 : goal.returns-in_default-2
returns-in_default-2 c = λ k e a links good is.
    let same = settle_same c.args.text.now c.in-Some.rest.now k e a c.in-Some.belief c.in-Some.base c.in-Some.action links c.in-Some.ensures good.1 is in
    none_of c.in_ok-links.field-0 c.in-Some.rest.now links c.in_default-2.is c.in_ok-links.ensures good.1.1.1.1 same.3

pub returns-else-belief-sizes : goal.returns-else-belief-sizes
returns-else-belief-sizes c = λ k e a links good is.
    let same = settle_same c.args.text.now c.in-Some.rest.now k e a c.in-Some.belief c.in-Some.base c.in-Some.action links c.in-Some.ensures good.1 is in
    let all = some_of c.in_ok-links.field-0 c.in-Some.rest.now links c.in-Some-2.links c.in-Some-2.is c.in_ok-links.ensures good.1.1.1.1 same.3 in
    elim c.else-belief-sizes.branch as (λ _. ⊥) [
      | else-belief-sizes-via-then-belief-sizes+then-action-sizes+else-len-sizes w ↦ omega (arith, w.if-len-sizes.false, w.len.ensures, good.0.3, ap length all)
      | else-belief-sizes-via-then-belief-sizes+else-action-sizes w ↦ omega (arith, w.if-action-sizes.false, same.2, good.0.2)
      | else-belief-sizes-via-else-belief-sizes w ↦ omega (arith, w.if-belief-sizes.false, same.0, good.0.0)
    ]

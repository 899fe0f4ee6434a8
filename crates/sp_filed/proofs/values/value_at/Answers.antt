use Rattle.std.proofs.Common.{rules, ◌≡◌, ◌≢◌, arith, ap, sym, ◌∙◌, codes, Ok, ℤ, Result, unsigned_abs}
use Rattle.sp_lex.specs.Decimal.{ticks_of}
use Rattle.sp_lex.specs.declared.decimal.NumError.{NumError}
use Rattle.sp_spelled.proofs.Digits.{ticks_are}
use Rattle.sp_planfile.proofs.Sections.{behind_same}
use Rattle.sp_show.specs.Decimals.{decimal_of}
use Rattle.sp_filed.proofs.values.value_at.Goals as goal

ok_same : (r : Result ℤ NumError) (y z : ℤ) → r ≡ Ok y → r ≡ Ok z → y ≡ z
ok_same r y z e f = cc

pub returns-in_default-ticks : goal.returns-in_default-ticks
returns-in_default-ticks c = λ z good is.
    let word = behind_same (codes "value ") c.in-Some.word.now (decimal_of z) (sym c.in-Some.ensures ∙ is) in
    c.in_default-ticks.not-Ok z (c.ticks.ensures ∙ ap ticks_of word ∙ ticks_are z good)

pub returns-then-unsigned_abs-gt-MOST : goal.returns-then-unsigned_abs-gt-MOST
returns-then-unsigned_abs-gt-MOST c = λ z good is.
    let word = behind_same (codes "value ") c.in-Some.word.now (decimal_of z) (sym c.in-Some.ensures ∙ is) in
    let same = ok_same c.ticks.result c.in-Ok.value z c.in-Ok.is (c.ticks.ensures ∙ ap ticks_of word ∙ ticks_are z good) in
    let magnitude : c.unsigned_abs.result ≡ unsigned_abs c.in-Ok.value = search rules in
    omega (arith, magnitude, ap unsigned_abs same, good, c.if-unsigned_abs-gt-MOST.true)

pub returns : goal.returns
returns c = λ z good is.
    let word = behind_same (codes "value ") c.in-Some.word.now (decimal_of z) (sym c.in-Some.ensures ∙ is) in
    let same = ok_same c.ticks.result c.in-Ok.value z c.in-Ok.is (c.ticks.ensures ∙ ap ticks_of word ∙ ticks_are z good) in
    let differ : c.as_bytes.result.now ≢ c.in-Some.word.now = search rules in
    let shown : c.as_bytes.result.now ≡ decimal_of c.in-Ok.value = search rules in
    differ (shown ∙ ap decimal_of same ∙ sym word)

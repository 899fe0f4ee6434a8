use Rattle.std.proofs.Common.{arith, ℕ, ◌≡◌, ◌<◌, ◌≤◌, ◌^◌, length, get_or, List, Option, Some, None, rules}
use Rattle.std.specs.Prelude.{MatchOption, ◌≢◌}
use Rattle.std.specs.Fmt.{decimal}
use Rattle.std.specs.Str.Parse.{AllDigits, digits_value}
use Rattle.sp_lines.specs.Lines.{IsSmall}
use Rattle.sp_lines.proofs.Digits.{not_empty, not_padded, not_great, is_decimal}
use Rattle.sp_lines.proofs.reading.number_of.Goals as goal
use Rattle.sp_lines.proofs.reading.number_of.Goals.{else-digits-eq48-via-then-digits-eq48+else-digits-gt1, else-digits-eq48-via-else-digits-eq48}

pub returns-then-is_empty : goal.returns-then-is_empty
returns-then-is_empty c = λ n small e. let none : length c.args.digits.now ≡ 0 = search rules in not_empty c.args.digits.now n none small e

pub returns-then-digits-gt1 : goal.returns-then-digits-gt1
returns-then-digits-gt1 c = λ n small e. not_padded c.args.digits.now n (omega arith) (omega arith) small e

told : (ds : List ℕ) (r : Option ℕ) → AllDigits 10 ds → 0 < length ds → (get_or ds 0 0 ≡ 48 → length ds ≡ 1) → MatchOption r (2 ^ 64 ≤ digits_value 10 ds) (λ n. n ≡ digits_value 10 ds) → MatchOption r (2 ^ 64 ≤ digits_value 10 ds) (λ n. n < 2 ^ 64)
    → MatchOption r ((n : ℕ) → IsSmall n → ds ≢ decimal n) (λ n. ds ≡ decimal n)
told ds None all some lone value small = λ n s e. not_great ds n value s e
told ds (Some n) all some lone value small = is_decimal ds n all some lone value small

pub returns : goal.returns
returns c =
    let some : 0 < length c.args.digits.now = search rules in
    let lone : get_or c.args.digits.now 0 0 ≡ 48 → length c.args.digits.now ≡ 1 =
    elim c.else-digits-eq48.branch as (λ _. get_or c.args.digits.now 0 0 ≡ 48 → length c.args.digits.now ≡ 1) [
      | else-digits-eq48-via-then-digits-eq48+else-digits-gt1 w ↦ λ e. omega (arith, w.if-digits-gt1.false, some)
      | else-digits-eq48-via-else-digits-eq48 w ↦ λ e. absurd (w.if-digits-eq48.false e)
    ] in
    told c.args.digits.now c.value_of.result c.requires some lone c.value_of.ensures (search rules)

use Rattle.std.proofs.Common.{arith}
use Rattle.std.proofs.lemmas.Str.Parse.{digit_at}
use Rattle.sp_lines.proofs.Digits.{too_great, value_step}
use Rattle.sp_lines.proofs.reading.value_of.Goals as goal

pub returns-in_default : goal.returns-in_default
returns-in_default c = too_great c.args.digits.now c.loop-digit.digit-index c.loop-digit.value c.requires (omega arith) c.loop-digit.invariant (omega (arith, c.in_default.ensures))

pub overflow_sub-digit : goal.overflow_sub-digit
overflow_sub-digit c = (digit_at c.args.digits.now c.loop-digit.digit-index c.requires (omega arith)).0

pub returns-in_default-checked_add : goal.returns-in_default-checked_add
returns-in_default-checked_add c = too_great c.args.digits.now c.loop-digit.digit-index c.loop-digit.value c.requires (omega arith) c.loop-digit.invariant (omega (arith, c.in_default-checked_add.ensures, c.in-Some.ensures))

pub loop-digit-preserved : goal.loop-digit-preserved
loop-digit-preserved c =
    let step = value_step c.args.digits.now c.loop-digit.digit-index c.requires (omega arith) in
    omega (arith, step, c.in-Some-checked_add.ensures, c.in-Some.ensures, c.loop-digit.invariant)

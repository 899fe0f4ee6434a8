use Rattle.std.proofs.Common.{arith, length}
use Rattle.sp_lines.proofs.Digits.{digits_below}
use Rattle.sp_lines.proofs.reading.digits_first.Goals as goal

pub returns-then-byte-lt48-clause-digits : goal.returns-then-byte-lt48-clause-digits
returns-then-byte-lt48-clause-digits c = digits_below c.args.text.now c.loop-place.place (omega arith) c.loop-place.invariant

pub returns-clause-digits : goal.returns-clause-digits
returns-clause-digits c = digits_below c.args.text.now (length c.args.text.now) (omega arith) (λ k h. c.loop-place.invariant k (omega arith))

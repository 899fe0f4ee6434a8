use Rattle.std.proofs.Common.{take, drop, rules}
use Rattle.sp_lines.proofs.Digits.{no_number}
use Rattle.sp_lines.proofs.reading.first_number.Goals as goal

pub returns-in-None : goal.returns-in-None
returns-in-None c = λ n rest begins. no_number c.args.text.now (take c.digits_first-count.result c.args.text.now) (drop c.digits_first-count.result c.args.text.now) n rest (search rules) c.digits_first-count.ensures.digits c.digits_first-count.ensures.ends (rw c.split_at.ensures.front at c.in-None.ensures) begins

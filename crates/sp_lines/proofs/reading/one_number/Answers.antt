use Rattle.std.proofs.Common.{rules, ◌<◌, length, arith, ap, []}
use Rattle.sp_lines.proofs.Spaces.{spaced_rest}
use Rattle.sp_lines.proofs.reading.one_number.Goals as goal

pub returns-else-is_empty : goal.returns-else-is_empty
returns-else-is_empty c = λ x small e.
    let some : 0 < length c.in_ok-number.rest.now = search rules in
    let told = spaced_rest c.args.text.now c.in_ok-number.number c.in_ok-number.rest.now x [] c.in_ok-number.ensures small e in
    omega (arith, some, ap length told.1)

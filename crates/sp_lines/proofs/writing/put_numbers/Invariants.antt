use Rattle.std.proofs.Common.{◌≡◌, drop, ◌++◌}
use Rattle.sp_lines.specs.Lines.{numbers_behind_spaces}
use Rattle.sp_lines.proofs.writing.put_numbers.Given as goal

abbrev pub invariant-loop-number : goal.invariant-loop-number
invariant-loop-number l = l.fn.text.items ++ numbers_behind_spaces l.numbers ≡ l.text.items ++ numbers_behind_spaces (drop l.number-index l.numbers)

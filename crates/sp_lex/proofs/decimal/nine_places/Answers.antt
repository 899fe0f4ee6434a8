use Rattle.std.proofs.Common.{refl, arith}
use Rattle.sp_lex.specs.Decimal.{number_of_first}
use Rattle.sp_lex.proofs.Digits.{tens_start}
use Rattle.sp_lex.proofs.decimal.nine_places.Goals as goal

pub loop-place-init : goal.loop-place-init
unfolding number_of_first
loop-place-init c = record { capped = omega (arith, tens_start); same = refl }

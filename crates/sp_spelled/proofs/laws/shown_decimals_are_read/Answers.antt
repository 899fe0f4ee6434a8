use Rattle.sp_spelled.proofs.Numbers.{decimal_spells}
use Rattle.sp_spelled.proofs.laws.shown_decimals_are_read.Goals as goal

pub returns : goal.returns
returns c = decimal_spells

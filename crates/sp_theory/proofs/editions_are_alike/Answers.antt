use Rattle.sp_theory.proofs.Agreement.{value_same, greatest_member_agrees, backup_same}
use Rattle.sp_theory.proofs.PairsAgreement.{dominated_same}
use Rattle.sp_theory.proofs.editions_are_alike.Goals as goal

pub returns : goal.returns
returns c m edition other w x agree weights = (value_same m edition other w x agree weights, greatest_member_agrees m edition other w x agree weights, backup_same m edition other w x agree weights, dominated_same m edition other agree)

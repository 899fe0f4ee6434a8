-- Two refusals that come first are one.
use Rattle.sp_checks.proofs.OneRowLemmas.{one_first}
use Rattle.sp_checks.proofs.laws.one_refusal.Goals as goal

pub returns : goal.returns
returns c = one_first

use Rattle.std.proofs.Common.{refl}
use Rattle.sp_theory.specs.Book.{opening}
use Rattle.sp_theory.proofs.Prompt.{ends_once}
use Rattle.sp_theory.proofs.legal_runs_end_once.Goals as goal

pub returns : goal.returns
unfolding opening
returns c t es legal = ends_once t (opening t) es refl legal.0 legal.1

use Rattle.sp_desk.proofs.Legality.{runs_serve}
use Rattle.sp_desk.proofs.laws.desk_runs_serve.Goals as goal

pub returns : goal.returns
returns c = runs_serve

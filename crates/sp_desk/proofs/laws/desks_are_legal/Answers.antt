use Rattle.sp_desk.proofs.Legality.{desks_legal}
use Rattle.sp_desk.proofs.laws.desks_are_legal.Goals as goal

pub returns : goal.returns
returns c = desks_legal

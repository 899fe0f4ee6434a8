use Rattle.sp_theory.proofs.Returns.{return_from, each_known}
use Rattle.sp_theory.proofs.returns_are_from_least.Goals as goal

pub returns : goal.returns
returns c m lawful records plan = return_from m lawful records (each_known m lawful records plan)

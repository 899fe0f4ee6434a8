use Rattle.std.proofs.Common.{get_or}
use Rattle.sp_publish.specs.Names.{no_edition}
use Rattle.sp_concurrent.proofs.planning.plan_to_end.Given as goal

abbrev pub ghosts-plan_beside : goal.ghosts-plan_beside
ghosts-plan_beside g a = record { list = a.publisher.list; first = get_or a.publisher.editions 0 no_edition }

use Rattle.std.proofs.Common.{get_or}
use Rattle.sp_publish.specs.Names.{no_edition}
use Rattle.sp_watchers.proofs.askers.watch_askers.Given as goal

-- the list that was begun
abbrev pub ghosts-ended_beside : goal.ghosts-ended_beside
ghosts-ended_beside g a = record { list = a.publisher.list; first = get_or a.publisher.editions 0 no_edition }

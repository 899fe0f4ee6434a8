use Rattle.std.proofs.Common.{◌≡◌}
use Rattle.std.specs.Prelude.{All}
use Rattle.sp_watchers.specs.declared.askers.Asker.{Asker}
use Rattle.sp_watchers.proofs.askers.askers_of.Given as goal

abbrev pub invariant-loop-viewer : goal.invariant-loop-viewer
invariant-loop-viewer l = All (λ (x : Asker). x.desk.known.list ≡ l.first.list) l.askers.items

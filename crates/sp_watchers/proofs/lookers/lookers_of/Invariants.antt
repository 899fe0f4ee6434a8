use Rattle.std.proofs.Common.{◌≡◌}
use Rattle.std.specs.Prelude.{All}
use Rattle.sp_watchers.specs.declared.lookers.Looker.{Looker}
use Rattle.sp_watchers.proofs.lookers.lookers_of.Given as goal

abbrev pub invariant-loop-viewer : goal.invariant-loop-viewer
invariant-loop-viewer l = All (λ (x : Looker). x.viewer.list ≡ l.first.list) l.lookers.items

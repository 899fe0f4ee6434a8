use Rattle.std.proofs.Common.{◌≡◌, Some, All, vec_len}
use Rattle.left_right.specs.Sides.{view}
use Rattle.sp_publish.specs.Published.{PublishedList}
use Rattle.sp_publish.proofs.opening.make_viewers.Given as goal

abbrev pub invariant-loop : goal.invariant-loop
invariant-loop l = (l.writer.desk.shown ≡ l.initial.writer.desk.shown) × (view l.writer.desk.place ≡ Some l.kept) × (vec_len l.all ≡ l.counter) × All (λ (x : PublishedList). x ≡ l.kept) l.all.items

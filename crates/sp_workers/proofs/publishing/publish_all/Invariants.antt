use Rattle.std.proofs.Common.{◌≡◌, ◌+◌, length}
use Rattle.sp_publish.specs.Published.{ListGoesOn}
use Rattle.sp_workers.specs.Shared.{IsBeginning}
use Rattle.sp_workers.proofs.publishing.publish_all.Given as goal

abbrev pub invariant-loop-number : goal.invariant-loop-number
invariant-loop-number g l = record {
  beginning : IsBeginning l.publisher l.book;
  on : ListGoesOn l.fn.publisher l.publisher;
  count : length l.publisher.editions ≡ l.number + 1;
}

use Rattle.std.proofs.Common.{◌≡◌, take}
use Rattle.std.specs.Prelude.{filter}
use Rattle.sp_theory.specs.OneThread.{yields}
use Rattle.sp_model.specs.Problem.{problem}
use Rattle.sp_value.specs.Editions.{member_of, members_in}
use Rattle.sp_prune.specs.Least.{least_of}
use Rattle.sp_prune.proofs.least_above.Given as goal

abbrev pub invariant-loop-k : goal.invariant-loop-k
invariant-loop-k l = l.least ≡ least_of (filter (yields (problem l.edition.task.model) (member_of l.edition.task.model l.member)) (take l.k (members_in l.edition)))

use Rattle.std.proofs.Common.{◌≡◌, take}
use Rattle.std.specs.Prelude.{filter}
use Rattle.std.specs.List.{flat_map}
use Rattle.sp_theory.specs.OneThread.{pair_of, yields}
use Rattle.sp_model.specs.Problem.{problem}
use Rattle.sp_value.specs.Editions.{members_in}
use Rattle.sp_prune.proofs.dominated.Given as goal

abbrev pub invariant-loop-k : goal.invariant-loop-k
invariant-loop-k l = l.pairs ≡ flat_map (λ x. pair_of x (filter (yields (problem l.edition.task.model) x) (members_in l.edition))) (take l.k (members_in l.edition))

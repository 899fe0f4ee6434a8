use Rattle.std.proofs.Common.{◌≡◌, ℕ, ◌<◌, pos, get_or}
use Rattle.sp_theory.specs.Values as values
use Rattle.sp_model.specs.Problem.{vector_of, problem}
use Rattle.sp_value.specs.Tasks.{weights_at}
use Rattle.sp_ledger.proofs.worths.weigh_by.Given as goal

abbrev pub invariant-loop-belief : goal.invariant-loop-belief
invariant-loop-belief l = (k : ℕ) → k < l.belief → get_or l.worths k (pos 0) ≡ values.dot (problem l.task.model) (weights_at l.task k) (vector_of l.task.model l.vector)

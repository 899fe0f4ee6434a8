use Rattle.std.proofs.Common.{◌≡◌, ◌<◌, ℕ, get_or}
use Rattle.sp_theory.specs.Points.{point_of}
use Rattle.sp_model.specs.Problem.{sizes_of}
use Rattle.sp_belief.specs.Paths.{no_step}
use Rattle.sp_belief.proofs.walking.Walk.shared.Given as goal

abbrev pub invariant-loop-k : goal.invariant-loop-k
invariant-loop-k l = (i : ℕ) → i < l.k → (get_or l.path.items i no_step).value ≡ get_or (point_of (sizes_of l.self.carried.now.model.now.sights) l.observation) i 0

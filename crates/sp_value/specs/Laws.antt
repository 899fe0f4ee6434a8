-- The laws of candidates, as the functions of this crate state them.
use Rattle.std.specs.Prelude.{◌^◌, ◌≤ℤ◌}
use Rattle.sp_theory.specs.Sums.{times}
use Rattle.sp_theory.specs.Points.{IsPoint}
use Rattle.sp_theory.specs.Draws.{q}
use Rattle.sp_theory.specs.Model.{State, divisions}
use Rattle.sp_theory.specs.Step.{exact_step}
use Rattle.sp_theory.specs.Values.{dot}
use Rattle.sp_theory.specs.Backup.{candidate}
use Rattle.sp_theory.specs.Agreement.{VectorsAgree}
use Rattle.sp_theory.specs.Laws.{IsCloseAt}
use Rattle.sp_model.specs.Problem.{vector_of, problem}
use Rattle.sp_value.specs.Tasks.{weights_at}
use Rattle.sp_value.specs.Editions.{members_in}
use Rattle.sp_value.specs.Linked.{linked_vectors}
use Rattle.sp_value.specs.Candidates.{CandidateParts, IsCandidate}

-- at every state a candidate is worth at most the exact one-step value of its links
abbrev pub CandidatesAreLow : Type 0
CandidatesAreLow = (c : CandidateParts) → IsCandidate c → (s : State)
    → let m = problem c.base.task.model in
    IsPoint m.sizes s → times (q ^ divisions m) (vector_of c.base.task.model c.vector s) ≤ℤ exact_step m c.action (linked_vectors m (members_in c.base) c.links) s

-- at its belief a candidate is at most the exact backup on its base, and at most K ticks for each unit of weight below it
abbrev pub CandidatesAreClose : Type 0
CandidatesAreClose = (c : CandidateParts) → IsCandidate c
    → let m = problem c.base.task.model in
    IsCloseAt m (members_in c.base) (weights_at c.base.task c.belief) (dot m (weights_at c.base.task c.belief) (vector_of c.base.task.model c.vector))

-- its vector is the one that the theory's backup makes of its action
abbrev pub CandidatesAreBackups : Type 0
CandidatesAreBackups = (c : CandidateParts) → IsCandidate c
    → let m = problem c.base.task.model in
    VectorsAgree m (vector_of c.base.task.model c.vector) (candidate m (members_in c.base) (weights_at c.base.task c.belief) c.action)

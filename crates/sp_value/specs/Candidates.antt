-- Candidates: point-based backups with their vectors.
use Rattle.std.specs.Prelude.{ℕ, ◌<◌, List}
use Rattle.sp_dd.specs.Func.{Func}
use Rattle.sp_theory.specs.Step.{step}
use Rattle.sp_theory.specs.Backup.{IsBackup}
use Rattle.sp_theory.specs.Agreement.{VectorsAgree}
use Rattle.sp_model.specs.Problem.{vector_of, problem}
use Rattle.sp_value.specs.Tasks.{weights_at}
use Rattle.sp_value.specs.Editions.{EditionParts, IsEdition, IsVector, members_in}
use Rattle.sp_value.specs.Linked.{linked_vectors}

-- what contracts see of a candidate
pub record CandidateParts : Type 0 where
  pub belief : ℕ
  pub base : EditionParts
  pub action : ℕ
  pub links : List ℕ
  pub vector : Func

-- what the type of candidates keeps: action and links are the backup at the belief on the base, and the vector is their floored one-step value
pub record IsCandidate (c : CandidateParts) : Type 0 where
  pub base : IsEdition c.base
  pub belief : c.belief < c.base.task.options.beliefs
  pub backup : IsBackup (problem c.base.task.model) (members_in c.base) (weights_at c.base.task c.belief) c.action c.links
  pub vector : IsVector c.base.task.model c.vector
  pub stepped : VectorsAgree (problem c.base.task.model) (vector_of c.base.task.model c.vector) (step (problem c.base.task.model) c.action (linked_vectors (problem c.base.task.model) (members_in c.base) c.links))

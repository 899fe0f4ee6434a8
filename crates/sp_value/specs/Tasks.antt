-- What is planned: a model, its sampled beliefs, and the options.
use Rattle.std.specs.Prelude.{◌≡◌, ℕ, ◌≤◌, map, length, slice_index_or, All}
use Rattle.sp_dd.specs.Func.{Func}
use Rattle.sp_theory.specs.Values.{Weights}
use Rattle.sp_theory.specs.Samples as theory
use Rattle.sp_theory.specs.Book.{Task}
use Rattle.sp_model.specs.declared.parts.Parts.{Parts}
use Rattle.sp_model.specs.declared.beliefs.Sample.{Sample}
use Rattle.sp_model.specs.declared.beliefs.Samples.{Samples}
use Rattle.sp_model.specs.Problem.{shape_of, no_func, problem}
use Rattle.sp_model.specs.Kept.{IsModel}
use Rattle.sp_model.specs.Links.{weights_of, sample_of}
use Rattle.sp_value.specs.declared.tasks.Options.{Options}

-- what contracts see of a task
pub record TaskParts : Type 0 where
  pub model : Parts
  pub samples : Samples
  pub options : Options

-- what stands past the end of the samples
abbrev pub no_sample : Sample
no_sample = record { action = 0; observation = 0; weights = no_func }

-- the weights of a sampled belief, as a function of slots
abbrev pub sampled_func : TaskParts → ℕ → Func
sampled_func t k = (slice_index_or t.samples.list k no_sample).weights

-- the weights of a sampled belief
abbrev pub weights_at : TaskParts → ℕ → Weights
weights_at t k = weights_of t.model (sampled_func t k)

-- the task, as the theory has it
abbrev pub task_of : TaskParts → Task
task_of t = record { model = problem t.model; beliefs = t.options.beliefs; samples = weights_at t; stages = t.options.stages }

-- what the type of tasks keeps: the options are in range, and the samples are of the model, on its scope, as many and as deep as the options say
pub record IsTask (t : TaskParts) : Type 0 where
  pub model : IsModel t.model
  pub some_beliefs : 1 ≤ t.options.beliefs
  pub few_beliefs : t.options.beliefs ≤ 4096
  pub some_depth : 1 ≤ t.options.depth
  pub few_depth : t.options.depth ≤ 4096
  pub some_stages : 1 ≤ t.options.stages
  pub few_stages : t.options.stages ≤ 1000
  pub count : length t.samples.list ≡ t.options.beliefs
  pub depth : t.samples.depth ≡ t.options.depth
  pub scopes : All (λ s. s.weights.shape ≡ shape_of t.model) t.samples.list
  pub sampled : theory.AreSamplesOf (problem t.model) t.samples.depth (map (sample_of t.model) t.samples.list)

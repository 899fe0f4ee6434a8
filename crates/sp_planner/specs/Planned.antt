-- What one thread plans: a function of the model, the options and the chooser of the sampled beliefs.
use Rattle.std.specs.Prelude.{◌≡◌, ℕ, ◌+◌, ◌*◌, ◌^◌, ◌%◌, ◌≤◌, List, length, false}
use Rattle.sp_theory.specs.Sums.{floor}
use Rattle.sp_theory.specs.Values.{value}
use Rattle.sp_theory.specs.Scaling.{total_weight}
use Rattle.sp_theory.specs.Book.{Task, Book, Event, opening, editions}
use Rattle.sp_theory.specs.Runs.{IsLegal, IsPrompt, replay, publications}
use Rattle.sp_theory.specs.OneThread.{one_thread}
use Rattle.sp_theory.specs.Laws.{IsSound, AllClose}
use Rattle.sp_model.specs.declared.parts.Parts.{Parts}
use Rattle.sp_value.specs.declared.tasks.Options.{Options}
use Rattle.sp_value.specs.Tasks.{TaskParts, IsTask, task_of}
use Rattle.sp_choose.specs.Machines.{Machine}
use Rattle.sp_sampler.specs.Words.{first_words, stream_of_seed}
use Rattle.sp_sampler.specs.Sampled.{AreSampled}
use Rattle.sp_planner.specs.declared.summary.Summary.{Summary}

-- the options are in range
pub record AreOptions (o : Options) : Type 0 where
  pub some_beliefs : 1 ≤ o.beliefs
  pub few_beliefs : o.beliefs ≤ 4096
  pub some_depth : 1 ≤ o.depth
  pub few_depth : o.depth ≤ 4096
  pub some_stages : 1 ≤ o.stages
  pub few_stages : o.stages ≤ 1000

-- the seed of the words that pick beliefs: one more, around the end of 64 bits
abbrev pub next_seed : ℕ → ℕ
next_seed seed = (seed + 1) % 2 ^ 64

-- the words that pick beliefs: as many as the beliefs of all stages, which are enough
abbrev pub picking_words : Options → List ℕ
picking_words o = first_words (o.beliefs * o.stages) (stream_of_seed (next_seed o.seed))

-- the task is that of the model, the options and the beliefs that the chooser and the words of the seed sample
pub record IsTaskFor (p : Parts) (o : Options) (chooser : Machine) (t : TaskParts) : Type 0 where
  pub is_task : IsTask t
  pub model : t.model ≡ p
  pub options : t.options ≡ o
  pub samples : AreSampled p chooser o.depth (first_words (2 * o.beliefs) (stream_of_seed o.seed)) o.beliefs t.samples.list

-- what is known of a run to its end, beside which events it has
pub record IsTrusted (t : Task) (events : List Event) : Type 0 where
  -- each event is allowed by the book before it, the last one is the end, and publications and the end come as soon as they are due
  pub legal : IsLegal t events
  pub prompt : IsPrompt t (opening t) events
  -- each vector of each edition is at every state at most the exact return of the plan that its links spell, and between the least return and the top;
  -- no value at a sampled belief falls from an edition to a later one
  pub sound : IsSound t (replay t (opening t) events)
  -- each recorded backup is at its belief at most the exact backup on its edition, and at most K ticks below it for each unit of weight
  pub close : AllClose t (opening t) events
  -- as many editions are published as the options have stages
  pub published : publications events ≡ t.stages

-- the task and the events are those that one thread plans
pub record IsPlanned (p : Parts) (o : Options) (chooser : Machine) (t : TaskParts) (events : List Event) : Type 0 where
  pub task : IsTaskFor p o chooser t
  pub run : events ≡ one_thread (task_of t) o.prune (opening (task_of t)) (λ k. false) (picking_words o)
  pub trusted : IsTrusted (task_of t) events

-- the numbers of a book: all records with the leaf, all editions with edition 0, the members of the latest edition, and its value at belief 0 in ticks, rounded down
pub record IsSummaryOf (t : Task) (b : Book) (s : Summary) : Type 0 where
  pub records : s.records ≡ length b.records
  pub editions : s.editions ≡ length (editions b)
  pub members : s.members ≡ length b.latest
  pub value : s.value ≡ floor (value t.model b.latest (t.samples 0)) (total_weight t.model (t.samples 0))

-- the numbers of what one thread plans
pub record IsSummaryFor (p : Parts) (o : Options) (chooser : Machine) (s : Summary) : Type 0 where
  pub task : TaskParts
  pub events : List Event
  pub planned : IsPlanned p o chooser task events
  pub numbers : IsSummaryOf (task_of task) (replay (task_of task) (opening (task_of task)) events) s

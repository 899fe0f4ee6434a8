-- The sampled beliefs that a plan file tells by actions and joint observations.
use Rattle.std.specs.Prelude.{◌≡◌, ℕ, suc, ◌%◌, ◌==◌, ◌<◌, if◌then◌else◌, List, ◌∷◌, ◌++◌, map, length, All, Some, slice_get}
use Rattle.std.specs.List.{AllByRecursion}
use Rattle.sp_theory.specs.Samples as theory
use Rattle.sp_model.specs.declared.parts.Parts.{Parts}
use Rattle.sp_model.specs.declared.beliefs.Sample.{Sample}
use Rattle.sp_model.specs.Problem.{shape_of, problem}
use Rattle.sp_model.specs.Links.{sample_of}
use Rattle.sp_belief.specs.Updates.{IsUnseen}
use Rattle.sp_lines.specs.Lines.{lines_of, BeginsLineOf}
use Rattle.sp_planfile.specs.Contents.{moves_of}
use Rattle.sp_planfile.specs.PlanText.{belief_line}
use Rattle.sp_filed.specs.declared.sizes.Sizes.{Sizes}
use Rattle.sp_filed.specs.Sizes.{IsMoveOf}

-- the belief after which belief k + 1 is next: belief k, or belief 0 where the depth divides k
abbrev pub parent_number : ℕ → ℕ → ℕ
parent_number depth k = if k % depth == 0 then 0 else k

-- samples of the model, with weights on its scope, and with actions and joint observations of the sizes
pub record AreSampledBy (p : Parts) (s : Sizes) (depth : ℕ) (xs : List Sample) : Type 0 where
  pub scopes : All (λ x. x.weights.shape ≡ shape_of p) xs
  pub of_model : theory.AreSamplesOf (problem p) depth (map (sample_of p) xs)
  pub moves : AllByRecursion (IsMoveOf s) (moves_of xs)

-- some beliefs are told, and the text goes on there; so many bytes are left
pub record TellsSome (p : Parts) (s : Sizes) (depth : ℕ) (text : List ℕ) (left : ℕ) : Type 0 where
  pub read : List Sample
  pub rest : List ℕ
  pub is : text ≡ lines_of belief_line (moves_of read) ++ rest
  pub some : 0 < length read
  pub fewer : length read < s.beliefs
  pub sampled : AreSampledBy p s depth read
  pub bytes : left ≡ length rest

-- it goes on with no line of a belief
pub record StopsInMoves (p : Parts) (s : Sizes) (depth : ℕ) (text : List ℕ) (left : ℕ) : Type 0 where
  pub before : TellsSome p s depth text left
  pub none : ¬ (BeginsLineOf belief_line (IsMoveOf s) before.rest)

-- it goes on with the line of a belief whose observation is unseen
pub record IsUnseenMove (p : Parts) (s : Sizes) (depth : ℕ) (text : List ℕ) (left : ℕ) : Type 0 where
  pub before : TellsSome p s depth text left
  pub move : ℕ × ℕ
  pub more : List ℕ
  pub parent : Sample
  pub k : ℕ
  pub is : before.rest ≡ belief_line move ++ (10 ∷ more)
  pub good : IsMoveOf s move
  pub count : length before.read ≡ suc k
  pub stands : slice_get before.read (parent_number depth k) ≡ Some parent
  pub unseen : IsUnseen p parent.weights move.0 move.1

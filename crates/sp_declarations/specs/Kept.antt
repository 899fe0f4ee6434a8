-- What declarations keep.
use Rattle.std.specs.Prelude.{ℕ, ◌^◌, ◌<◌, ◌≤◌, ◌++◌, List, map, length, All}
use Rattle.sp_theory.specs.Points.{count_of}
use Rattle.sp_syntax.specs.declared.text.Declaration.{Declaration}
use Rattle.sp_model.specs.declared.parts.Decl.{Decl}
use Rattle.sp_model.specs.Words.{IsModelName, IsValueName}
use Rattle.sp_model.specs.Kept.{IsDecl, AreDifferent}
use Rattle.sp_model.specs.Problem.{sizes_of}
use Rattle.sp_trees.specs.Words.{text}

-- a declared name is a name, and there is a value
pub record HasDeclared (source : List ℕ) (d : Declaration) : Type 0 where
  pub name : IsModelName (text source d.name)
  pub some : 0 < length d.values
  pub values : All (λ w. IsValueName (text source w)) d.values

-- the declarations keep the limits, and no name comes twice
pub record AreDeclared (variables sights : List Decl) : Type 0 where
  pub some_variable : 0 < length variables
  pub few_variables : length variables ≤ 24
  pub some_sight : 0 < length sights
  pub few_sights : length sights ≤ 8
  pub few_states : count_of (sizes_of variables) ≤ 2 ^ 24
  pub few_joint : count_of (sizes_of sights) ≤ 4096
  pub variables_kept : All IsDecl variables
  pub sights_kept : All IsDecl sights
  pub different : AreDifferent (map (λ d. d.name) (variables ++ sights))

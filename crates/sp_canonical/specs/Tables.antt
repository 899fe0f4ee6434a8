-- The functions of a model that its canonical text shows.
use Rattle.std.specs.Prelude.{ℕ, suc, ◌*◌, List, [], ◌∷◌, Bool, cond, negsuc, nat_eq, not, filter}
use Rattle.std.specs.List.{list_any}
use Rattle.std.specs.Ordering.{int_eq}
use Rattle.std.specs.Cmp.Lexicographic.{pointwise}
use Rattle.sp_dd.specs.Func.{Shape, Func}
use Rattle.sp_dd.specs.NodeLists.{Node}
use Rattle.sp_dd.specs.Diagrams.{node_list}
use Rattle.sp_dd.specs.Operations.{scalar_multiple}
use Rattle.sp_rows.specs.Tables.{identity}
use Rattle.sp_model.specs.declared.parts.Decl.{Decl}
use Rattle.sp_model.specs.declared.parts.Factor.{Factor}

-- a function under the name of its variable
pub record NamedTable : Type 0 where
  pub name : List ℕ
  pub table : Func

-- the functions under the names of these variables
abbrev pub named_tables : List Decl → List Func → List NamedTable
named_tables [] fs = []
named_tables (d ∷ ds) [] = []
named_tables (d ∷ ds) (f ∷ fs) = record { name = d.name; table = f } ∷ named_tables ds fs

-- by this table variable i keeps its value
abbrev pub is_identity : Shape → ℕ → Func → Bool
is_identity s i f = pointwise int_eq f.leaves (identity s i).leaves

-- the tables of the variables from i on that aren't the identity
abbrev pub moving_tables : Shape → ℕ → List Decl → List Func → List NamedTable
moving_tables s i [] fs = []
moving_tables s i (d ∷ ds) [] = []
moving_tables s i (d ∷ ds) (f ∷ fs) = cond (is_identity s i f) (moving_tables s (suc i) ds fs) (record { name = d.name; table = f } ∷ moving_tables s (suc i) ds fs)

-- the negative of a function
abbrev pub negative : Func → Func
negative f = scalar_multiple f (negsuc 0)

-- the function depends on that slot
abbrev pub is_on : List Node → ℕ → Bool
is_on ns slot = list_any (λ n. nat_eq n.slot slot) ns

-- the own variables of a factor on which its function doesn't depend
abbrev pub free_variables : Factor → List ℕ
free_variables f = filter (λ i. not (is_on (node_list f.func) (2 * i))) f.own

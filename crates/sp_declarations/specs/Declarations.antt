-- Declarations, in the order of the text.
use Rattle.std.specs.Prelude.{ℕ, ◌*◌, ◌==◌, nat_lt, is_some, List, [], ◌∷◌, ◌++◌, length, Option, Some, Result, Ok, if◌then◌else◌}
use Rattle.std.specs.List.{list_any}
use Rattle.std.specs.Str.{bytes_eq}
use Rattle.sp_lex.specs.declared.lexeme.Span.{Span}
use Rattle.sp_syntax.specs.declared.text.Declaration.{Declaration}
use Rattle.sp_syntax.specs.declared.text.Text.{Text}
use Rattle.sp_model.specs.declared.parts.Decl.{Decl}
use Rattle.sp_names.specs.Names.{with_name}
use Rattle.sp_trees.specs.declared.refusal.Refusal.{Refusal}
use Rattle.sp_trees.specs.declared.refusal.ModelKind.{ModelKind}
use Rattle.sp_trees.specs.declared.refusal.ModelKind.TheVariants as kind
use Rattle.sp_trees.specs.Refusals.{refused_if}
use Rattle.sp_trees.specs.Words.{text, number_of}
use Rattle.sp_declarations.specs.declared.declarations.Limits.{Limits}
use Rattle.sp_declarations.specs.declared.declarations.Read.{Read}
use Rattle.sp_declarations.specs.declared.declarations.Declared.{Declared}
use Rattle.sp_declarations.specs.Steps.{◌>>=◌, unless_refused, in_turn}

-- at most 24 variables with 2^24 states
abbrev pub variable_limits : Limits
variable_limits = record { most = 24; points = 16777216 }

-- at most 8 observation variables with 4096 joint observations
abbrev pub sight_limits : Limits
sight_limits = record { most = 8; points = 4096 }

abbrev pub refusal_at : ℕ → ModelKind → Option Refusal
refusal_at at kind = Some (record { at = at; kind = kind })

-- a value that was listed before, or the 65th
abbrev pub value_refusal : List (List ℕ) → List ℕ → ℕ → Option Refusal
value_refusal values word at = if is_some (number_of values word) then refusal_at at kind.RepeatedName else refused_if (length values == 64) at (kind.TooMany 64)

-- the values with one more
abbrev pub value : List ℕ → List (List ℕ) → Span → Result (List (List ℕ)) Refusal
value source values span = unless_refused (value_refusal values (text source span) span.start) >>= λ _. Ok (values ++ text source span ∷ [])

-- the values of a declaration
unfoldable pub values : List ℕ → List Span → Result (List (List ℕ)) Refusal
values source spans = in_turn (value source) [] spans

-- one variable too many, or too many choices of a value for each of them
abbrev pub limit_refusal : Limits → Read → Declaration → Option Refusal
limit_refusal l r d =
    if length r.decls == l.most then refusal_at d.left.start (kind.TooMany l.most)
    else refused_if (nat_lt l.points (r.points * length d.values)) d.left.start (kind.TooMany l.points)

-- a name that was declared before
abbrev pub name_refusal : List ℕ → List (List ℕ) → Declaration → Option Refusal
name_refusal source names d = refused_if (list_any (bytes_eq (text source d.name)) names) d.name.start kind.RepeatedName

-- the name and the values of a declaration
abbrev pub decl_of : List ℕ → Declaration → Result Decl Refusal
decl_of source d = values source d.values >>= λ vs. Ok (record { name = text source d.name; values = vs })

abbrev pub with_decl : List ℕ → Read → Declaration → Decl → Read
with_decl source r d decl = record { names = with_name r.names (text source d.name); decls = r.decls ++ decl ∷ []; points = r.points * length d.values }

-- what was read with one more declaration
unfoldable pub declaration : List ℕ → Limits → Read → Declaration → Result Read Refusal
declaration source l r d =
    unless_refused (limit_refusal l r d) >>= λ _. (unless_refused (name_refusal source r.names d) >>= λ _. (decl_of source d >>= λ decl. Ok (with_decl source r d decl)))

abbrev pub no_decls : List (List ℕ) → Read
no_decls names = record { names = names; decls = []; points = 1 }

-- the declarations of a sort, behind those names
abbrev pub declarations : List ℕ → Limits → List (List ℕ) → List Declaration → Result Read Refusal
declarations source l names ds = in_turn (declaration source l) (no_decls names) ds

-- the declarations of a text
unfoldable pub declarations_of : List ℕ → Text → Result Declared Refusal
declarations_of source t =
    declarations source variable_limits [] t.variables.declarations >>= λ v.
    (declarations source sight_limits v.names t.observations.declarations >>= λ s. Ok (record { variables = v.decls; sights = s.decls }))

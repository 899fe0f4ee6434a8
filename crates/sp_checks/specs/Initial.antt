-- The initial belief.
use Rattle.std.specs.Prelude.{ℕ, ◌*◌, ◌&&◌, not, is_some, Bool, true, false, List, [], ◌∷◌, ◌++◌, map, filter, fold, ℤ, Option, Some, None, Result, Ok}
use Rattle.std.specs.List.{list_any, list_all, range_with_len}
use Rattle.sp_dd.specs.Func.{Func}
use Rattle.sp_lex.specs.declared.lexeme.Span.{Span}
use Rattle.sp_syntax.specs.declared.text.Tree.{Tree, out-Tree}
use Rattle.sp_syntax.specs.declared.text.Tree.TheOpen.{Tree-F}
use Rattle.sp_syntax.specs.declared.text.Branch.{Branch}
use Rattle.sp_model.specs.declared.parts.Factor.{Factor}
use Rattle.sp_rows.specs.Tables.{is_probability, bad_sum}
use Rattle.sp_trees.specs.declared.refusal.Refusal.{Refusal}
use Rattle.sp_trees.specs.declared.refusal.ModelKind.TheVariants as kind
use Rattle.sp_trees.specs.declared.slots.Slots.{Slots}
use Rattle.sp_trees.specs.declared.env.Env.{Env}
use Rattle.sp_trees.specs.Refusals.{lesser, refused_if}
use Rattle.sp_trees.specs.Judged.{refusal}
use Rattle.sp_trees.specs.Slots.{none, union, has}
use Rattle.sp_trees.specs.Judge.{judgement}
use Rattle.sp_declarations.specs.Steps.{◌>>=◌, unless_refused, in_turn}
use Rattle.sp_declarations.specs.Declarations.{refusal_at}
use Rattle.sp_checks.specs.declared.roles.Role.TheVariants as role
use Rattle.sp_checks.specs.declared.initial.Share.{Share}
use Rattle.sp_checks.specs.declared.initial.Factored.{Factored}
use Rattle.sp_checks.specs.declared.state.State.{State}
use Rattle.sp_checks.specs.Roles.{start_of, allowed_slots}

-- the own variables of a factor, where there are n: those that it mentions unprimed
abbrev pub own_of : ℕ → Slots → List ℕ
own_of n mentions = filter (λ i. has mentions (2 * i)) (range_with_len 0 n)

-- some variable is mentioned unprimed by both
abbrev pub shares : ℕ → Slots → Slots → Bool
shares n a b = list_any (λ i. has a (2 * i) && has b (2 * i)) (range_with_len 0 n)

-- each variable is mentioned unprimed
abbrev pub has_every : ℕ → Slots → Bool
has_every n mentions = list_all (λ i. has mentions (2 * i)) (range_with_len 0 n)

-- what all factors mention
abbrev pub mentions_of_factors : List Share → Slots
mentions_of_factors list = fold (λ all s. union all s.judged.mentions) none list

-- a factor's place, and what judging it gives
abbrev pub share_of : Env → List ℕ → Tree → Share
share_of env source t = record { at = start_of t; judged = judgement env source (allowed_slots env.scope role.Init) t }

abbrev pub sum_refusal : ℕ → Option ℤ → Option Refusal
sum_refusal at None = None
sum_refusal at (Some sum) = refusal_at at (kind.InitSum sum)

abbrev pub value_refusal_by : ℕ → Func → List ℕ → Bool → Option Refusal
value_refusal_by at f own true = sum_refusal at (bad_sum f own)
value_refusal_by at f own false = refusal_at at kind.BadProbability

-- a factor with a value that is no probability, or that doesn't sum to one over its own variables
unfoldable pub value_refusal : ℕ → Func → List ℕ → Option Refusal
value_refusal at f own = value_refusal_by at f own (is_probability f)

-- a factor that shares a variable with those before it, which mention the used slots, or that is refused inside
abbrev pub share_refusal : ℕ → Slots → Share → Option Refusal
share_refusal n used s = lesser (refused_if (shares n used s.judged.mentions) s.at kind.BadScope) (refusal s.judged.outcome)

abbrev pub checked_share : ℕ → Slots → Share → Result (Unit {0}) Refusal
checked_share n used s = unless_refused (share_refusal n used s)

abbrev pub checked_values : ℕ → Func → List ℕ → Result (Unit {0}) Refusal
checked_values at f own = unless_refused (value_refusal at f own)

-- the factor of a function, where its values are shares
unfoldable pub owned : ℕ → Share → Func → Result Factor Refusal
owned n s f = checked_values s.at f (own_of n s.judged.mentions) >>= λ _. Ok (record { func = f; own = own_of n s.judged.mentions })

-- one more factor behind those that mention the used slots
unfoldable pub factor : ℕ → Slots → Share → Result Factor Refusal
factor n used s = checked_share n used s >>= λ _. (s.judged.outcome >>= λ f. owned n s f)

-- the factors with one more
unfoldable pub factor_step : ℕ → Factored → Share → Result Factored Refusal
factor_step n r s = factor n r.used s >>= λ f. Ok (record { used = union r.used s.judged.mentions; list = r.list ++ f ∷ [] })

abbrev pub no_factors : Factored
no_factors = record { used = none; list = [] }

abbrev pub factors_in_turn : ℕ → List Share → Result Factored Refusal
factors_in_turn n list = in_turn (factor_step n) no_factors list

-- each variable is in some factor
abbrev pub checked_every : ℕ → ℕ → List Share → Result (Unit {0}) Refusal
checked_every n at list = unless_refused (refused_if (not (has_every n (mentions_of_factors list))) at kind.BadScope)

-- the factors of some judged trees, of which each variable is in one
unfoldable pub factors : ℕ → ℕ → List Share → Result (List Factor) Refusal
factors n at list =
    checked_every n at list >>= λ _. (factors_in_turn n list >>= λ r. Ok r.list)

-- the trees of the factors: those of a product, or the tree itself
abbrev pub trees_by : Tree → Tree-F Tree Branch → List Tree
trees_by t (Tree-F.Product left star trees right) = trees
trees_by t _ = t ∷ []

abbrev pub factor_trees : Tree → List Tree
factor_trees t = trees_by t (out-Tree t)

-- the initial belief wasn't read before
abbrev pub checked_init : State → ℕ → Result (Unit {0}) Refusal
checked_init s at = unless_refused (refused_if (is_some s.init) at kind.RepeatedName)

-- what was read with the section of the initial belief
unfoldable pub init : List ℕ → State → Span → Tree → Result State Refusal
init source s keyword t =
    checked_init s keyword.start >>= λ _.
    (factors s.env.scope.variables keyword.start (map (share_of s.env source) (factor_trees t)) >>= λ fs. Ok (record s { init = Some fs }))

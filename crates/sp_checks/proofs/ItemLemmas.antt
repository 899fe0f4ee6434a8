-- The items of an action.
use Rattle.std.proofs.Common.{◌≡◌, ℕ, ◌<◌, List, [], ◌∷◌, ◌++◌, Ok, Err, refl, sym, ap, subst, ◌∙◌, replicate, ◌+◌}
use Rattle.std.specs.Prelude.{Result, IsErrAnd, Option, Some, None}
use Rattle.std.proofs.lemmas.List.{replicate-append-replicate}
use Rattle.sp_dd.specs.Func.{Func}
use Rattle.sp_lex.specs.declared.lexeme.Span.{Span}
use Rattle.sp_syntax.specs.declared.text.Tree.{Tree}
use Rattle.sp_syntax.specs.declared.text.Observed.{Observed}
use Rattle.sp_trees.specs.declared.refusal.ModelKind.TheVariants as kind
use Rattle.sp_trees.specs.declared.env.Env.{Env}
use Rattle.sp_trees.specs.declared.nodes.Place.{Place}
use Rattle.sp_trees.specs.declared.nodes.Place.TheVariants.{Variable, Sight}
use Rattle.sp_trees.specs.Words.{text}
use Rattle.sp_trees.specs.Nodes.{IsPlace, place_of}
use Rattle.sp_declarations.specs.declared.error.ModelError.{ModelError}
use Rattle.sp_declarations.specs.Steps.{GivesOrRunsOut, Leaves}
use Rattle.sp_declarations.proofs.StepLemmas.{after, after_ok, exit_leaves}
use Rattle.sp_checks.specs.declared.accepted.Accepted.{Accepted}
use Rattle.sp_checks.specs.declared.roles.Role.TheVariants as role
use Rattle.sp_checks.specs.declared.items.Listed.{Listed}
use Rattle.sp_checks.specs.Kept.{IsListing}
use Rattle.sp_checks.specs.Accepted.{accepted}
use Rattle.sp_checks.specs.Actions.{IsInRange, unlisted_place, named_by, place_of_name, variable_at, variable, observed_at, observe_entry, begun_observe, observed_in_turn, observe, checked_cost, cost}

-- a place of the environment has room
pub in_range : (env : Env) (l : Listed) (p : Place) → IsListing env l → IsPlace env p → IsInRange l p
in_range env l (Variable i) h k = subst (λ (n : ℕ). i < n) (sym h.moves_count) k
in_range env l (Sight j) h k = subst (λ (n : ℕ). j < n) (sym h.sights_count) k

module _ (env : Env) (source : List ℕ) (l : Listed) (word : Span) where
  pub named_some : (p : Place) (r : Result Place ModelError) → place_of env (text source word) ≡ Some p → GivesOrRunsOut (unlisted_place l word.start p) r → GivesOrRunsOut (place_of_name env source l word) r
  unfolding place_of_name
  named_some p r e h = subst (λ o. GivesOrRunsOut (named_by l word.start o) r) (sym e) h

  pub named_none : place_of env (text source word) ≡ None → place_of_name env source l word ≡ Err (record { at = word.start; kind = kind.UnknownName })
  unfolding place_of_name
  named_none e = ap (named_by l word.start) e

module _ (env : Env) (source : List ℕ) (l : Listed) (word : Span) (t : Tree) where
  pub variable_err : (x : Result (Unit {0}) ModelError) (new : Listed) (e : ModelError) → IsErrAnd x (λ q. q ≡ e) → GivesOrRunsOut (place_of_name env source l word) (Err e) → Leaves (variable env source l word t) x new
  unfolding variable
  variable_err x new e k h = exit_leaves _ _ e x new h k

  pub variable_then : (p : Place) (x : Result (Unit {0}) ModelError) (new : Listed) → place_of_name env source l word ≡ Ok p → Leaves (variable_at env source l word t p) x new → Leaves (variable env source l word t) x new
  unfolding variable
  variable_then p x new e h = after _ _ _ _ e h

module _ (env : Env) (source : List ℕ) (l : Listed) (o : Observed) where
  pub observed_err : (x : Result (Unit {0}) ModelError) (new : Listed) (e : ModelError) → IsErrAnd x (λ q. q ≡ e) → GivesOrRunsOut (place_of_name env source l o.name) (Err e) → Leaves (observe_entry env source l o) x new
  unfolding observe_entry
  observed_err x new e k h = exit_leaves _ _ e x new h k

  pub observed_then : (p : Place) (x : Result (Unit {0}) ModelError) (new : Listed) → place_of_name env source l o.name ≡ Ok p → Leaves (observed_at env source l o p) x new → Leaves (observe_entry env source l o) x new
  unfolding observe_entry
  observed_then p x new e h = after _ _ _ _ e h

module _ (env : Env) (source : List ℕ) (l : Listed) (keyword : Span) (list : List Observed) where
  pub observe_err : (x : Result (Unit {0}) ModelError) (new : Listed) (e : ModelError) (m : Listed) → IsErrAnd x (λ q. q ≡ e) → Leaves (begun_observe l keyword.start) (Err e) m → Leaves (observe env source l keyword list) x new
  unfolding observe
  observe_err x new e m k h = exit_leaves _ _ e x new h k

  pub observe_then : (m : Listed) (x : Result (Unit {0}) ModelError) (new : Listed) → begun_observe l keyword.start ≡ Ok m → Leaves (observed_in_turn env source m list) x new → Leaves (observe env source l keyword list) x new
  unfolding observe
  observe_then m x new e h = after _ _ _ _ e h

module _ (env : Env) (source : List ℕ) (l : Listed) (keyword : Span) (t : Tree) where
  module _ (x : Result (Unit {0}) ModelError) (new : Listed) (e : ModelError) (k : IsErrAnd x (λ q. q ≡ e)) where
    pub cost_err : GivesOrRunsOut (checked_cost l keyword.start) (Err e) → Leaves (cost env source l keyword t) x new
    unfolding cost
    cost_err h = exit_leaves _ _ e x new h k

    pub cost_tree_err : checked_cost l keyword.start ≡ Ok tt → GivesOrRunsOut (accepted env source role.Reward t) (Err e) → Leaves (cost env source l keyword t) x new
    unfolding cost
    cost_tree_err p h = after _ _ _ _ p (exit_leaves _ _ e x new h k)

  pub cost_ok : (a : Accepted) → checked_cost l keyword.start ≡ Ok tt → accepted env source role.Reward t ≡ Ok a → cost env source l keyword t ≡ Ok (record l { cost = Some a.func })
  unfolding cost
  cost_ok a p h = after_ok _ _ _ _ p (after_ok _ _ _ _ h refl)

-- one more variable that isn't listed
pub none_more : (n : ℕ) (xs ys : List (Option Func)) → xs ≡ replicate n None → ys ≡ xs ++ None ∷ [] → ys ≡ replicate (n + 1) None
none_more n xs ys e h = h ∙ ap (λ zs. zs ++ None ∷ []) e ∙ replicate-append-replicate n 1 None

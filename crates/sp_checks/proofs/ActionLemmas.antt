-- Actions.
use Rattle.std.proofs.Common.{◌≡◌, ℕ, List, [], ◌∷◌, ◌++◌, Ok, Err, length}
use Rattle.std.specs.Prelude.{Result, IsErrAnd}
use Rattle.sp_dd.specs.Func.{Func}
use Rattle.sp_lex.specs.declared.lexeme.Span.{Span}
use Rattle.sp_syntax.specs.declared.text.Item.{Item}
use Rattle.sp_names.specs.Names.{with_name}
use Rattle.sp_trees.specs.declared.env.Env.{Env}
use Rattle.sp_trees.specs.Words.{text}
use Rattle.sp_declarations.specs.declared.error.ModelError.{ModelError}
use Rattle.sp_declarations.specs.Steps.{GivesOrRunsOut, Leaves}
use Rattle.sp_declarations.proofs.StepLemmas.{after, after_ok, exit_leaves, exit_gives}
use Rattle.sp_checks.specs.declared.items.Listed.{Listed}
use Rattle.sp_checks.specs.declared.state.Draft.{Draft}
use Rattle.sp_checks.specs.declared.state.State.{State}
use Rattle.sp_checks.specs.Actions.{items, moves_of, sights_of, draft_of, draft, checked_name, action}

module _ (env : Env) (source : List ℕ) (word : Span) (end : ℕ) (l : Listed) where
  pub sights_err : (x : Result Draft ModelError) (e : ModelError) → IsErrAnd x (λ q. q ≡ e) → GivesOrRunsOut (sights_of end l.sights) (Err e) → GivesOrRunsOut (draft_of env source word end l) x
  unfolding draft_of
  sights_err x e k h = exit_gives _ _ e x h k

  pub draft_of_ok : (name : List ℕ) (moves sights : List Func) → sights_of end l.sights ≡ Ok sights → name ≡ text source word → moves ≡ moves_of env.scope l.moves → draft_of env source word end l ≡ Ok (record { name = name; cost = l.cost; moves = moves; sights = sights })
  unfolding draft_of
  draft_of_ok name moves sights p n m = after_ok _ _ _ _ p (cc (n, m))

module _ (env : Env) (source : List ℕ) (number : ℕ) (word : Span) (list : List Item) (end : Span) where
  pub items_err : (x : Result Draft ModelError) (e : ModelError) → IsErrAnd x (λ q. q ≡ e) → GivesOrRunsOut (items env source number list) (Err e) → GivesOrRunsOut (draft env source number word list end) x
  unfolding draft
  items_err x e k h = exit_gives _ _ e x h k

  pub draft_then : (l : Listed) (x : Result Draft ModelError) → items env source number list ≡ Ok l → GivesOrRunsOut (draft_of env source word end.start l) x → GivesOrRunsOut (draft env source number word list end) x
  unfolding draft
  draft_then l x e h = after _ _ _ _ e h

module _ (source : List ℕ) (s : State) (word : Span) (list : List Item) (end : Span) where
  module _ (x : Result (Unit {0}) ModelError) (new : State) (e : ModelError) (k : IsErrAnd x (λ q. q ≡ e)) where
    pub name_err : GivesOrRunsOut (checked_name source s.names (length s.actions) word) (Err e) → Leaves (action source s word list end) x new
    unfolding action
    name_err h = exit_leaves _ _ e x new h k

    pub draft_err : checked_name source s.names (length s.actions) word ≡ Ok tt → GivesOrRunsOut (draft s.env source (length s.actions) word list end) (Err e) → Leaves (action source s word list end) x new
    unfolding action
    draft_err p h = after _ _ _ _ p (exit_leaves _ _ e x new h k)

  pub action_ok : (d : Draft) (names : List (List ℕ)) (actions : List Draft) → checked_name source s.names (length s.actions) word ≡ Ok tt → draft s.env source (length s.actions) word list end ≡ Ok d
      → names ≡ with_name s.names (text source word) → actions ≡ s.actions ++ d ∷ [] → action source s word list end ≡ Ok (record s { names = names; actions = actions })
  unfolding action
  action_ok d names actions p h n a = after_ok _ _ _ _ p (after_ok _ _ _ _ h (cc (n, a)))

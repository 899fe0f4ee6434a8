-- The initial belief.
use Rattle.std.proofs.Common.{◌≡◌, ℕ, List, [], ◌∷◌, ◌++◌, map, Ok, Err, refl, subst}
use Rattle.std.specs.Prelude.{Result, IsErrAnd, Some}
use Rattle.sp_dd.specs.Func.{Func}
use Rattle.sp_lex.specs.declared.lexeme.Span.{Span}
use Rattle.sp_syntax.specs.declared.text.Tree.{Tree}
use Rattle.sp_model.specs.declared.parts.Factor.{Factor}
use Rattle.sp_trees.specs.declared.slots.Slots.{Slots}
use Rattle.sp_trees.specs.Slots.{union}
use Rattle.sp_declarations.specs.declared.error.ModelError.{ModelError}
use Rattle.sp_declarations.specs.Steps.{GivesOrRunsOut, Leaves}
use Rattle.sp_declarations.proofs.StepLemmas.{after, after_ok, exit_leaves, exit_gives}
use Rattle.sp_checks.specs.declared.initial.Share.{Share}
use Rattle.sp_checks.specs.declared.initial.Factored.{Factored}
use Rattle.sp_checks.specs.declared.state.State.{State}
use Rattle.sp_checks.specs.Initial.{own_of, share_of, checked_share, checked_values, owned, factor, factor_step, factors_in_turn, checked_every, factors, factor_trees, checked_init, init}

-- one factor
module _ (n : ℕ) (used : Slots) (s : Share) where
  module _ (x : Result Factor ModelError) (e : ModelError) (k : IsErrAnd x (λ q. q ≡ e)) where
    pub share_err : GivesOrRunsOut (checked_share n used s) (Err e) → GivesOrRunsOut (factor n used s) x
    unfolding factor
    share_err h = exit_gives _ _ e x h k

    pub func_err : checked_share n used s ≡ Ok tt → GivesOrRunsOut s.judged.outcome (Err e) → GivesOrRunsOut (factor n used s) x
    unfolding factor
    func_err p h = after _ _ _ _ p (exit_gives _ _ e x h k)

  pub factor_then : (f : Func) (x : Result Factor ModelError) → checked_share n used s ≡ Ok tt → s.judged.outcome ≡ Ok f → GivesOrRunsOut (owned n s f) x → GivesOrRunsOut (factor n used s) x
  unfolding factor
  factor_then f x p q h = after _ _ _ _ p (after _ _ _ _ q h)

module _ (n : ℕ) (s : Share) (f : Func) (own : List ℕ) (o : own ≡ own_of n s.judged.mentions) where
  pub values_err : (x : Result Factor ModelError) (e : ModelError) → IsErrAnd x (λ q. q ≡ e) → GivesOrRunsOut (checked_values s.at f own) (Err e) → GivesOrRunsOut (owned n s f) x
  unfolding owned
  values_err x e k h = exit_gives _ _ e x (subst (λ (own : List ℕ). GivesOrRunsOut (checked_values s.at f own) (Err e)) o h) k

  pub owned_ok : (g : Func) → g ≡ f → checked_values s.at f own ≡ Ok tt → owned n s f ≡ Ok (record { func = g; own = own })
  unfolding owned
  owned_ok g c h = after_ok _ _ _ _ (subst (λ (own : List ℕ). checked_values s.at f own ≡ Ok tt) o h) (cc (o, c))

-- the factors with one more
module _ (n : ℕ) (r : Factored) (s : Share) where
  pub factor_err : (x : Result (Unit {0}) ModelError) (new : Factored) (e : ModelError) → IsErrAnd x (λ q. q ≡ e) → GivesOrRunsOut (factor n r.used s) (Err e) → Leaves (factor_step n r s) x new
  unfolding factor_step
  factor_err x new e k h = exit_leaves _ _ e x new h k

  pub step_ok : (f : Factor) (used : Slots) (list : List Factor) → factor n r.used s ≡ Ok f → used ≡ union r.used s.judged.mentions → list ≡ r.list ++ f ∷ [] → factor_step n r s ≡ Ok (record { used = used; list = list })
  unfolding factor_step
  step_ok f used list p u l = after_ok _ _ _ _ p (cc (u, l))

-- all factors
module _ (n at : ℕ) (list : List Share) where
  module _ (x : Result (List Factor) ModelError) (e : ModelError) (k : IsErrAnd x (λ q. q ≡ e)) where
    pub every_err : GivesOrRunsOut (checked_every n at list) (Err e) → GivesOrRunsOut (factors n at list) x
    unfolding factors
    every_err h = exit_gives _ _ e x h k

    pub turns_err : checked_every n at list ≡ Ok tt → GivesOrRunsOut (factors_in_turn n list) (Err e) → GivesOrRunsOut (factors n at list) x
    unfolding factors
    turns_err p h = after _ _ _ _ p (exit_gives _ _ e x h k)

  pub factors_ok : (r : Factored) → checked_every n at list ≡ Ok tt → factors_in_turn n list ≡ Ok r → factors n at list ≡ Ok r.list
  unfolding factors
  factors_ok r p h = after_ok _ _ _ _ p (after_ok _ _ _ _ h refl)

-- the section
module _ (source : List ℕ) (s : State) (keyword : Span) (t : Tree) where
  module _ (x : Result (Unit {0}) ModelError) (new : State) (e : ModelError) (k : IsErrAnd x (λ q. q ≡ e)) where
    pub init_err : GivesOrRunsOut (checked_init s keyword.start) (Err e) → Leaves (init source s keyword t) x new
    unfolding init
    init_err h = exit_leaves _ _ e x new h k

    pub factors_err : checked_init s keyword.start ≡ Ok tt → GivesOrRunsOut (factors s.env.scope.variables keyword.start (map (share_of s.env source) (factor_trees t))) (Err e) → Leaves (init source s keyword t) x new
    unfolding init
    factors_err p h = after _ _ _ _ p (exit_leaves _ _ e x new h k)

  pub init_ok : (fs : List Factor) → checked_init s keyword.start ≡ Ok tt → factors s.env.scope.variables keyword.start (map (share_of s.env source) (factor_trees t)) ≡ Ok fs → init source s keyword t ≡ Ok (record s { init = Some fs })
  unfolding init
  init_ok fs p h = after_ok _ _ _ _ p (after_ok _ _ _ _ h refl)

-- The end of a text.
use Rattle.std.proofs.Common.{◌≡◌, ℕ, List, [], ◌∷◌, ◌++◌, Ok, Err, refl, sym, ap, subst}
use Rattle.std.specs.Prelude.{Result, IsErrAnd, Option, not}
use Rattle.sp_dd.specs.Func.{Shape, Func}
use Rattle.sp_model.specs.declared.parts.Factor.{Factor}
use Rattle.sp_model.specs.declared.parts.ActionPart.{ActionPart}
use Rattle.sp_model.specs.declared.parts.Parts.{Parts}
use Rattle.sp_rows.specs.Tables.{is_reward}
use Rattle.sp_trees.specs.declared.refusal.ModelKind.TheVariants as kind
use Rattle.sp_trees.specs.declared.env.Env.{Env}
use Rattle.sp_trees.specs.Refusals.{refused_if}
use Rattle.sp_declarations.specs.declared.error.ModelError.{ModelError}
use Rattle.sp_declarations.specs.Steps.{unless_refused, GivesOrRunsOut, Leaves}
use Rattle.sp_declarations.proofs.StepLemmas.{after_ok, exit_leaves, exit_gives}
use Rattle.sp_checks.specs.declared.state.Draft.{Draft}
use Rattle.sp_checks.specs.Finish.{or_zero, reward_of, checked_reward, action_part, action_step, actions, parts}

module _ (s : Shape) (end : ℕ) (reward : Func) (d : Draft) where
  pub range_err : (x : Result Func ModelError) (e : ModelError) (f : Func) → f ≡ reward_of s reward d → IsErrAnd x (λ q. q ≡ e) → GivesOrRunsOut (unless_refused (refused_if (not (is_reward f)) end kind.RewardRange)) (Err e) → GivesOrRunsOut (checked_reward s end reward d) x
  unfolding checked_reward
  range_err x e f r k h = exit_gives _ _ e x (subst (λ (f : Func). GivesOrRunsOut (unless_refused (refused_if (not (is_reward f)) end kind.RewardRange)) (Err e)) r h) k

  pub reward_ok : (f : Func) → f ≡ reward_of s reward d → unless_refused (refused_if (not (is_reward f)) end kind.RewardRange) ≡ Ok tt → checked_reward s end reward d ≡ Ok f
  unfolding checked_reward
  reward_ok f r h = after_ok _ _ _ _ (subst (λ (f : Func). unless_refused (refused_if (not (is_reward f)) end kind.RewardRange) ≡ Ok tt) r h) (ap Ok (sym r))

  pub part_err : (x : Result ActionPart ModelError) (e : ModelError) → IsErrAnd x (λ q. q ≡ e) → GivesOrRunsOut (checked_reward s end reward d) (Err e) → GivesOrRunsOut (action_part s end reward d) x
  unfolding action_part
  part_err x e k h = exit_gives _ _ e x h k

  pub part_ok : (f : Func) (name : List ℕ) (moves sight : List Func) → checked_reward s end reward d ≡ Ok f → name ≡ d.name → moves ≡ d.moves → sight ≡ d.sights → action_part s end reward d ≡ Ok (record { name = name; reward = f; moves = moves; sight = sight })
  unfolding action_part
  part_ok f name moves sight p n m t = after_ok _ _ _ _ p (cc (n, m, t))

  pub step_err : (done : List ActionPart) (x : Result (Unit {0}) ModelError) (new : List ActionPart) (e : ModelError) → IsErrAnd x (λ q. q ≡ e) → GivesOrRunsOut (action_part s end reward d) (Err e) → Leaves (action_step s end reward done d) x new
  unfolding action_step
  step_err done x new e k h = exit_leaves _ _ e x new h k

  pub step_ok : (done : List ActionPart) (a : ActionPart) (new : List ActionPart) → action_part s end reward d ≡ Ok a → new ≡ done ++ a ∷ [] → action_step s end reward done d ≡ Ok new
  unfolding action_step
  step_ok done a new p n = after_ok _ _ _ _ p (ap Ok (sym n))

module _ (env : Env) (end : ℕ) (init : List Factor) (discount : ℕ) (reward : Option Func) (ds : List Draft) where
  pub parts_err : (x : Result Parts ModelError) (e : ModelError) (f : Func) → f ≡ or_zero env.scope reward → IsErrAnd x (λ q. q ≡ e) → GivesOrRunsOut (actions env.scope end f ds) (Err e) → GivesOrRunsOut (parts env end init discount reward ds) x
  unfolding parts
  parts_err x e f r k h = exit_gives _ _ e x (subst (λ (f : Func). GivesOrRunsOut (actions env.scope end f ds) (Err e)) r h) k

  pub parts_ok : (f : Func) (done : List ActionPart) → f ≡ or_zero env.scope reward → actions env.scope end f ds ≡ Ok done
      → parts env end init discount reward ds ≡ Ok (record { variables = env.variables; sights = env.sights; scope = env.scope; discount = discount; init = init; actions = done })
  unfolding parts
  parts_ok f done r h = after_ok _ _ _ _ (subst (λ (f : Func). actions env.scope end f ds ≡ Ok done) r h) refl

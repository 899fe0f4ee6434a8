-- What was read makes a model.
use Rattle.std.proofs.Common.{◌≡◌, ℕ, suc, ◌+◌, ◌*◌, ◌<◌, ◌≤◌, Bool, true, false, not, List, [], ◌∷◌, ◌++◌, Ok, refl, sym, ap, subst, ◌∙◌, arith, length, map, append-nil, append_assoc}
use Rattle.std.specs.Prelude.{Option, Some, None, IfSome, All, pos}
use Rattle.std.proofs.lemmas.List.{map-append, length-map}
use Rattle.sp_dd.specs.Func.{Shape, Func, IsScope}
use Rattle.sp_dd.specs.Operations.{everywhere}
use Rattle.sp_dd.proofs.FuncLemmas.{scope_some, value_of-function_of}
use Rattle.sp_model.specs.declared.parts.Factor.{Factor}
use Rattle.sp_model.specs.declared.parts.ActionPart.{ActionPart}
use Rattle.sp_model.specs.declared.parts.Parts.{Parts}
use Rattle.sp_model.specs.Kept.{IsModel, IsAction, IsFactor, IsReward, AreDifferent}
use Rattle.sp_rows.proofs.LawLemmas.{reward_small, less_free, zero_free}
use Rattle.sp_trees.specs.declared.refusal.ModelKind.TheVariants as kind
use Rattle.sp_trees.specs.Refusals.{refused_if}
use Rattle.sp_trees.specs.Good.{IsFit}
use Rattle.sp_declarations.specs.Steps.{unless_refused, in_turn}
use Rattle.sp_checks.specs.declared.state.Draft.{Draft}
use Rattle.sp_checks.specs.declared.state.State.{State}
use Rattle.sp_checks.specs.Finish.{or_zero, reward_of, checked_reward, action_part, action_step, actions, parts, finish_by, finish}
use Rattle.sp_checks.specs.Kept.{IsActionDraft, IsReadingState, IsRewardFunction, AreFactors}
use Rattle.sp_declarations.proofs.StepLemmas.{stood, all_more}

-- zero is a reward
pub zero_fit : (s : Shape) → IsScope s → IsFit s (everywhere s (pos 0))
zero_fit s scope = record {
  shape = refl;
  small = λ x p. rw (value_of-function_of s (λ y. pos 0) x (scope_some s scope) p) (omega arith);
}

pub or_zero_fit : (s : Shape) (o : Option Func) → IsScope s → IfSome o (IsFit s) → IsFit s (or_zero s o)
or_zero_fit s None scope h = zero_fit s scope
or_zero_fit s (Some f) scope h = h

or_zero_worth : (s : Shape) (o : Option Func) → IsScope s → IfSome o (IsRewardFunction s) → IsRewardFunction s (or_zero s o)
or_zero_worth s None scope h = record { fit = zero_fit s scope; not_seen = λ j b. zero_free s (2 * s.variables + j) scope b }
or_zero_worth s (Some f) scope h = h

is_within : (b : Bool) (end : ℕ) → unless_refused (refused_if (not b) end kind.RewardRange) ≡ Ok tt → b ≡ true
is_within true end h = refl
is_within false end h = cc

module _ (s : Shape) (end : ℕ) (reward : Func) (scope : IsScope s) (worth : IsRewardFunction s reward) where
  reward_kept : (d : Draft) (f : Func) → IsActionDraft s d → checked_reward s end reward d ≡ Ok f → IsReward s f
  unfolding checked_reward
  reward_kept d f k h =
      let a = stood _ _ _ h in
      let same : reward_of s reward d ≡ f = cc (a.then) in
      let cost = or_zero_worth s d.cost scope k.cost in
      let g = or_zero s d.cost in
      let shape : reward.shape ≡ s = worth.fit.shape in
      let shapes : g.shape ≡ reward.shape = cost.fit.shape ∙ sym shape in
      let here : IsScope reward.shape = subst IsScope (sym shape) scope in
      subst (IsReward s) same (record {
        shape = shape;
        small = reward_small (reward_of s reward d) here (is_within _ end a.was);
        not_seen = λ j b. less_free reward g (2 * s.variables + j) here shapes (subst (λ (t : Shape). 2 * s.variables + j < length t.sizes) (sym shape) b) (worth.not_seen j b) (cost.not_seen j b);
      })

  part_kept : (d : Draft) (a : ActionPart) → IsActionDraft s d → action_part s end reward d ≡ Ok a → IsAction s a
  unfolding action_part
  part_kept d a k h =
      let r = stood _ _ _ h in
      subst (IsAction s) (let e : record { name = d.name; reward = r.value; moves = d.moves; sight = d.sights } ≡ a = cc (r.then) in e)
      (record { name = k.name; reward = reward_kept d r.value k r.was; move_count = k.moves_count; moves = k.moves; sight_count = k.sights_count; sights = k.sights })

  part_name : (d : Draft) (a : ActionPart) → action_part s end reward d ≡ Ok a → a.name ≡ d.name
  unfolding action_part
  part_name d a h = let r = stood (checked_reward s end reward d) (λ r. Ok (record { name = d.name; reward = r; moves = d.moves; sight = d.sights })) a h in ap (λ (a : ActionPart). a.name) (let e : a ≡ record { name = d.name; reward = r.value; moves = d.moves; sight = d.sights } = cc (r.then) in e)

  step_is : (done : List ActionPart) (d : Draft) (q : List ActionPart) → IsActionDraft s d → All (IsAction s) done → action_step s end reward done d ≡ Ok q → All (IsAction s) q × (map (λ a. a.name) q ≡ map (λ a. a.name) done ++ d.name ∷ [])
  unfolding action_step
  step_is done d q k h e =
      let a = stood _ _ _ e in
      let same : done ++ a.value ∷ [] ≡ q = cc (a.then) in (
        subst (All (IsAction s)) same (all_more (IsAction s) done a.value h (part_kept d a.value k a.was)),
        ap (map (λ (a : ActionPart). a.name)) (sym same) ∙ map-append (λ (a : ActionPart). a.name) done (a.value ∷ []) ∙ ap (λ n. map (λ (a : ActionPart). a.name) done ++ n ∷ []) (part_name d a.value a.was),
      )

  turns_are : (ds : List Draft) (done q : List ActionPart) → All (IsActionDraft s) ds → All (IsAction s) done → in_turn (action_step s end reward) done ds ≡ Ok q → All (IsAction s) q × (map (λ a. a.name) q ≡ map (λ a. a.name) done ++ map (λ d. d.name) ds)
  unfolding in_turn
  turns_are [] done q k h e =
      let same : done ≡ q = cc in (subst (All (IsAction s)) same h, ap (map (λ (a : ActionPart). a.name)) (sym same) ∙ sym (append-nil (map (λ (a : ActionPart). a.name) done)))
  turns_are (d ∷ ds) done q k h e =
      let a = stood (action_step s end reward done d) (λ t. in_turn (action_step s end reward) t ds) q e in
      let one = step_is done d a.value (k 0 d (omega arith)) h a.was in
      let more = turns_are ds a.value q (λ i x l. k (suc i) x (omega arith)) one.0 a.then in
      (more.0, more.1 ∙ ap (λ xs. xs ++ map (λ (d : Draft). d.name) ds) one.1 ∙ append_assoc (map (λ (a : ActionPart). a.name) done) (d.name ∷ []) (map (λ (d : Draft). d.name) ds))

  pub actions_are : (ds : List Draft) (q : List ActionPart) → All (IsActionDraft s) ds → actions s end reward ds ≡ Ok q → All (IsAction s) q × (map (λ a. a.name) q ≡ map (λ d. d.name) ds)
  unfolding actions
  actions_are ds q k h = turns_are ds [] q k (λ i d l. absurd (omega arith)) h

pub finish_model : (s : State) (end : ℕ) (p : Parts) → IsReadingState s → finish s end ≡ Ok p → IsModel p
unfolding finish parts
finish_model s end p k h = go s.init s.discount s.actions k.init k.discount k.actions k.few k.names h
  where
    go : (i : Option (List Factor)) (g : Option ℕ) (ds : List Draft) → IfSome i (AreFactors s.env.scope) → IfSome g (λ g. g ≤ 999000000) → All (IsActionDraft s.env.scope) ds → length ds ≤ 256 → s.names ≡ map (λ d. d.name) ds
        → finish_by s end i g ds ≡ Ok p → IsModel p
    go None g ds ki kg kd few names h = cc
    go (Some i) None ds ki kg kd few names h = cc
    go (Some i) (Some g) [] ki kg kd few names h = cc
    go (Some i) (Some g) (d ∷ ds) ki kg kd few names h =
        let a = stood _ _ _ h in
        let env = s.env in
        let fit = k.env in
        let all = actions_are env.scope end (or_zero env.scope s.reward) fit.env_kept.scope (or_zero_worth env.scope s.reward fit.env_kept.scope k.reward) (d ∷ ds) a.value kd a.was in
        let count : length a.value ≡ length (d ∷ ds) = sym (length-map a.value (λ (a : ActionPart). a.name)) ∙ ap length all.1 ∙ length-map (d ∷ ds) (λ (d : Draft). d.name) in
        let n : length env.variables ≡ env.scope.variables = sym (ap (λ (t : Shape). t.variables) fit.env_kept.shape) in
        subst IsModel (let e : record { variables = env.variables; sights = env.sights; scope = env.scope; discount = g; init = i; actions = a.value } ≡ p = cc (a.then) in e)
        (record {
          some_variable = fit.declared.some_variable;
          few_variables = fit.declared.few_variables;
          some_sight = fit.declared.some_sight;
          few_sights = fit.declared.few_sights;
          some_action = omega arith;
          few_actions = omega arith;
          few_states = fit.declared.few_states;
          few_joint = fit.declared.few_joint;
          discount = kg;
          variables = fit.declared.variables_kept;
          sights = fit.declared.sights_kept;
          different = fit.declared.different;
          actions_different = subst AreDifferent (names ∙ sym all.1) k.different;
          scope = fit.env_kept.shape;
          actions = subst (λ (t : Shape). All (IsAction t) a.value) fit.env_kept.shape all.0;
          init = subst (λ (t : Shape). All (IsFactor t) i) fit.env_kept.shape ki.each;
          apart = ki.apart;
          every = λ j l. ki.every j (omega arith);
        })

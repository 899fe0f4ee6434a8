-- The end of a text: the rows that stand at its length, and the parts of the model.
use Rattle.std.proofs.Common.{◌≡◌, ℕ, not, Bool, true, false, List, [], ◌∷◌, ◌++◌, map, Option, Some, None, Ok, refl, sym, ap, ◌∙◌, subst, arith, inl, inr, append_assoc, append-nil}
use Rattle.std.specs.Prelude.{◌⊎◌, pos, neg_ℤ, IfSome, is_some, unwrap_or}
use Rattle.std.proofs.lemmas.Bool.{false≢true}
use Rattle.sp_syntax.specs.declared.text.Section.{Section}
use Rattle.sp_syntax.specs.declared.text.Section.TheVariants as section_of
use Rattle.sp_dd.specs.Func.{Shape, Func, IsScope}
use Rattle.sp_model.specs.declared.parts.Factor.{Factor}
use Rattle.sp_model.specs.declared.parts.ActionPart.{ActionPart}
use Rattle.sp_model.specs.declared.parts.Parts.{Parts}
use Rattle.sp_model.specs.Kept.{most_reward}
use Rattle.sp_rows.specs.Tables.{is_reward, less}
use Rattle.sp_trees.specs.declared.refusal.Refusal.{Refusal}
use Rattle.sp_trees.specs.declared.refusal.ModelKind.TheVariants as kind
use Rattle.sp_trees.specs.declared.env.Env.{Env}
use Rattle.sp_trees.specs.Refusals.{is_before, refused_if}
use Rattle.sp_trees.specs.Rows.{IsFirstRefusal, Among, IsRefusalAt}
use Rattle.sp_trees.proofs.LeastLemmas.{least_same, least_test}
use Rattle.sp_declarations.specs.Steps.{unless_refused, in_turn}
use Rattle.sp_declarations.specs.Rows.{refusal_of}
use Rattle.sp_declarations.proofs.StepLemmas.{stood}
use Rattle.sp_declarations.proofs.ChainLemmas.{least_then, refused_ok, refused_unless}
use Rattle.sp_checks.specs.declared.state.Draft.{Draft}
use Rattle.sp_checks.specs.declared.state.State.{State}
use Rattle.sp_checks.specs.Finish.{or_zero, reward_of, checked_reward, action_part as part_of, action_step, actions, parts, finish_by, finish}
use Rattle.sp_checks.specs.Kept.{IsReadingState, IsRewardFunction}
use Rattle.sp_checks.specs.Told.{env_with, env_after, first_from, all_from, init_in, discount_in, action_in, common_reward, actions_in}
use Rattle.sp_checks.specs.Standing.{IsInit, IsDiscount, IsActionSection}
use Rattle.sp_checks.specs.RefusalTable.{IsTooMuch}
use Rattle.sp_checks.proofs.TextRows.{EndRow}
use Rattle.sp_checks.proofs.AmongLemmas.{at_later}
use Rattle.sp_checks.proofs.TableRowLemmas.{outside_of, not_outside}
use Rattle.sp_checks.proofs.ActionRowLemmas.{draft_told}
use Rattle.sp_checks.proofs.FrameLemmas.{draft_in, HasRead}

-- ---- the names stay

bare : Env → Env
bare env = record env { dds = [] }

bare_with : (source : List ℕ) (env : Env) (x : Section) → bare (env_with source env x) ≡ bare env
unfolding bare
bare_with source env (section_of.Init keyword t) = refl
bare_with source env (section_of.Dd keyword name t end) = refl
bare_with source env (section_of.Action keyword name items end) = refl
bare_with source env (section_of.Reward keyword t) = refl
bare_with source env (section_of.Discount keyword word) = refl
bare_with source env (section_of.Horizon keyword word) = refl
bare_with source env (section_of.Tolerance keyword word) = refl

bare_after : (source : List ℕ) (env : Env) (xs : List Section) → bare (env_after source env xs) ≡ bare env
bare_after source env [] = refl
bare_after source env (x ∷ xs) = bare_after source (env_with source env x) xs ∙ bare_with source env x

scope_after : (source : List ℕ) (env : Env) (xs : List Section) → (env_after source env xs).scope ≡ env.scope
unfolding bare
scope_after source env xs = ap (λ (e : Env). e.scope) (bare_after source env xs)

-- ---- actions of drafts

-- an action of its tables, with the reward of all
abbrev pub part_told : Shape → Func → Draft → ActionPart
part_told s reward d = record { name = d.name; reward = less reward (or_zero s d.cost); moves = d.moves; sight = d.sights }

parts_told : (source : List ℕ) (reward : Func) (s : Shape) (env : Env) (xs : List Section) → env.scope ≡ s → all_from source (action_in source reward) env xs ≡ map (part_told s reward) (all_from source (draft_in source) env xs)
parts_told source reward s env [] e = refl
parts_told source reward s env (section_of.Init keyword t ∷ xs) e = parts_told source reward s env xs e
parts_told source reward s env (section_of.Dd keyword name t end ∷ xs) e = parts_told source reward s (env_with source env (section_of.Dd keyword name t end)) xs e
parts_told source reward s env (section_of.Action keyword name items end ∷ xs) e =
    (λ i. part_told (e i) reward (draft_told source env name items) ∷ parts_told source reward s env xs e i)
parts_told source reward s env (section_of.Reward keyword t ∷ xs) e = parts_told source reward s env xs e
parts_told source reward s env (section_of.Discount keyword word ∷ xs) e = parts_told source reward s env xs e
parts_told source reward s env (section_of.Horizon keyword word ∷ xs) e = parts_told source reward s env xs e
parts_told source reward s env (section_of.Tolerance keyword word ∷ xs) e = parts_told source reward s env xs e

-- there is a draft exactly where there is an action
no_draft : (source : List ℕ) (env : Env) (xs : List Section) → Among IsActionSection xs → all_from source (draft_in source) env xs ≡ [] → ⊥
no_draft source env [] m e = m
no_draft source env (section_of.Init keyword t ∷ xs) (inl m) e = m
no_draft source env (section_of.Init keyword t ∷ xs) (inr m) e = no_draft source env xs m e
no_draft source env (section_of.Dd keyword name t end ∷ xs) (inl m) e = m
no_draft source env (section_of.Dd keyword name t end ∷ xs) (inr m) e = no_draft source (env_with source env (section_of.Dd keyword name t end)) xs m e
no_draft source env (section_of.Action keyword name items end ∷ xs) m e = cc
no_draft source env (section_of.Reward keyword t ∷ xs) (inl m) e = m
no_draft source env (section_of.Reward keyword t ∷ xs) (inr m) e = no_draft source env xs m e
no_draft source env (section_of.Discount keyword word ∷ xs) (inl m) e = m
no_draft source env (section_of.Discount keyword word ∷ xs) (inr m) e = no_draft source env xs m e
no_draft source env (section_of.Horizon keyword word ∷ xs) (inl m) e = m
no_draft source env (section_of.Horizon keyword word ∷ xs) (inr m) e = no_draft source env xs m e
no_draft source env (section_of.Tolerance keyword word ∷ xs) (inl m) e = m
no_draft source env (section_of.Tolerance keyword word ∷ xs) (inr m) e = no_draft source env xs m e

some_draft : (source : List ℕ) (env : Env) (xs : List Section) (d : Draft) (ds : List Draft) → all_from source (draft_in source) env xs ≡ d ∷ ds → Among IsActionSection xs
some_draft source env [] d ds e = cc
some_draft source env (section_of.Init keyword t ∷ xs) d ds e = inr (some_draft source env xs d ds e)
some_draft source env (section_of.Dd keyword name t end ∷ xs) d ds e = inr (some_draft source (env_with source env (section_of.Dd keyword name t end)) xs d ds e)
some_draft source env (section_of.Action keyword name items end ∷ xs) d ds e = inl tt
some_draft source env (section_of.Reward keyword t ∷ xs) d ds e = inr (some_draft source env xs d ds e)
some_draft source env (section_of.Discount keyword word ∷ xs) d ds e = inr (some_draft source env xs d ds e)
some_draft source env (section_of.Horizon keyword word ∷ xs) d ds e = inr (some_draft source env xs d ds e)
some_draft source env (section_of.Tolerance keyword word ∷ xs) d ds e = inr (some_draft source env xs d ds e)

-- among the values of a function
image_to : {X Y : Type 0} (P : Y → Type 0) (f : X → Y) (xs : List X) → Among (λ x. P (f x)) xs → Among P (map f xs)
image_to P f [] h = absurd h
image_to P f (x ∷ xs) (inl h) = inl h
image_to P f (x ∷ xs) (inr h) = inr (image_to P f xs h)

image_from : {X Y : Type 0} (P : Y → Type 0) (f : X → Y) (xs : List X) → Among P (map f xs) → Among (λ x. P (f x)) xs
image_from P f [] h = absurd h
image_from P f (x ∷ xs) (inl h) = inl h
image_from P f (x ∷ xs) (inr h) = inr (image_from P f xs h)

-- ---- rewards

module _ (s : Shape) (end : ℕ) (reward : Func) (scope : IsScope reward.shape) where
  abbrev TooMuch : Draft → Type 0
  TooMuch d = IsTooMuch (part_told s reward d)

  one_least : (done : List ActionPart) (d : Draft) → IsFirstRefusal (λ r. TooMuch d × IsRefusalAt end kind.RewardRange r) (refusal_of (action_step s end reward done d))
  unfolding action_step part_of checked_reward
  one_least done d =
      let f = reward_of s reward d in
      let o = refused_if (not (is_reward f)) end kind.RewardRange in
      subst (IsFirstRefusal (λ r. TooMuch d × IsRefusalAt end kind.RewardRange r))
      (sym (refused_ok (part_of s end reward d) (λ a. done ++ a ∷ []) ∙ refused_ok (checked_reward s end reward d) (λ r. record { name = d.name; reward = r; moves = d.moves; sight = d.sights }) ∙ refused_ok (unless_refused o) (λ _. f)
      ∙ refused_unless o))
      (least_test (TooMuch d) (not (is_reward f)) end kind.RewardRange (λ q. outside_of (neg_ℤ (pos most_reward)) (pos most_reward) f scope (flip (is_reward f) q)) (λ h. back (is_reward f) refl h))
    where
      flip : (b : Bool) → not b ≡ true → b ≡ false
      flip true q = sym q
      flip false q = refl

      back : (b : Bool) → is_reward (reward_of s reward d) ≡ b → TooMuch d → not b ≡ true
      back false q h = refl
      back true q h = absurd (not_outside (neg_ℤ (pos most_reward)) (pos most_reward) (reward_of s reward d) scope q h)

  rewards_least : (done : List ActionPart) (ds : List Draft) → IsFirstRefusal (λ r. Among TooMuch ds × IsRefusalAt end kind.RewardRange r) (refusal_of (in_turn (action_step s end reward) done ds))
  unfolding in_turn
  rewards_least done [] = λ r h. h.0
  rewards_least done (d ∷ ds) =
      least_same (λ r. (TooMuch d × IsRefusalAt end kind.RewardRange r) ⊎ (Among TooMuch ds × IsRefusalAt end kind.RewardRange r)) (λ r. Among TooMuch (d ∷ ds) × IsRefusalAt end kind.RewardRange r)
      (refusal_of (in_turn (action_step s end reward) done (d ∷ ds))) (λ r c. elim c [ inl a ↦ (inl a.0, a.1) | inr a ↦ (inr a.0, a.1) ])
      (λ r c. elim c.0 [ inl a ↦ inl (a, c.1) | inr a ↦ inr (a, c.1) ])
      (least_then (λ r. TooMuch d × IsRefusalAt end kind.RewardRange r) (λ r. Among TooMuch ds × IsRefusalAt end kind.RewardRange r) (action_step s end reward done d) (λ t. in_turn (action_step s end reward) t ds) (one_least done d)
      (λ t e. rewards_least t ds) (λ r q a b. subst (λ r. is_before q r ≡ false) (sym a.1) (at_later end kind.RewardRange kind.RewardRange q b.1 (omega arith))))

  step_told : (done q : List ActionPart) (d : Draft) → action_step s end reward done d ≡ Ok q → q ≡ done ++ part_told s reward d ∷ []
  unfolding action_step part_of checked_reward
  step_told done q d h =
      let f = reward_of s reward d in
      let a = stood (part_of s end reward d) (λ a. Ok (done ++ a ∷ [])) q h in
      let b = stood (checked_reward s end reward d) (λ r. Ok (record { name = d.name; reward = r; moves = d.moves; sight = d.sights })) a.value a.was in
      let c = stood (unless_refused (refused_if (not (is_reward f)) end kind.RewardRange)) (λ _. Ok f) b.value b.was in
      let z : f ≡ b.value = cc (c.then) in
      let y : record { name = d.name; reward = b.value; moves = d.moves; sight = d.sights } ≡ a.value = cc (b.then) in
      sym (let x : done ++ a.value ∷ [] ≡ q = cc (a.then) in x) ∙ ap (λ a. done ++ a ∷ []) (sym y ∙ ap (λ r. record { name = d.name; reward = r; moves = d.moves; sight = d.sights }) (sym z))

  turns_told : (done q : List ActionPart) (ds : List Draft) → in_turn (action_step s end reward) done ds ≡ Ok q → q ≡ done ++ map (part_told s reward) ds
  unfolding in_turn
  turns_told done q [] h = sym (let x : done ≡ q = cc in x) ∙ sym (append-nil done)
  turns_told done q (d ∷ ds) h =
      let a = stood (action_step s end reward done d) (λ t. in_turn (action_step s end reward) t ds) q h in
      turns_told a.value q ds a.then ∙ ap (λ xs. xs ++ map (part_told s reward) ds) (step_told done a.value d a.was) ∙ append_assoc done (part_told s reward d ∷ []) (map (part_told s reward) ds)

  pub actions_told : (q : List ActionPart) (ds : List Draft) → actions s end reward ds ≡ Ok q → q ≡ map (part_told s reward) ds
  unfolding actions
  actions_told q ds h = turns_told [] q ds h

-- ---- the end of what was read

reward_shape : (s : Shape) (o : Option Func) → IfSome o (IsRewardFunction s) → (or_zero s o).shape ≡ s
reward_shape s None h = refl
reward_shape s (Some f) h = h.fit.shape

module _ (source : List ℕ) (env : Env) (xs : List Section) (s : State) (h : HasRead source env xs s) (k : IsReadingState s) (end : ℕ) where
  abbrev R : Func
  R = or_zero s.env.scope s.reward

  abbrev worth : IsScope R.shape
  worth = subst IsScope (sym (reward_shape s.env.scope s.reward k.reward)) k.env.env_kept.scope

  same_scope : s.env.scope ≡ env.scope
  same_scope = ap (λ (e : Env). e.scope) h.dds.is ∙ scope_after source env xs

  reward_told : R ≡ common_reward source env xs
  reward_told = (λ i. or_zero (same_scope i) (h.reward.told i))

  actions_are : map (part_told s.env.scope R) s.actions ≡ actions_in source env xs
  actions_are = ap (map (part_told s.env.scope R)) h.actions.told ∙ sym (parts_told source R s.env.scope env xs (sym same_scope)) ∙ ap (λ f. all_from source (action_in source f) env xs) reward_told

  abbrev Row : Refusal → Type 0
  Row = EndRow source env xs end

  missing : (¬ Among IsInit xs) ⊎ ((¬ Among IsDiscount xs) ⊎ (¬ Among IsActionSection xs)) → IsFirstRefusal Row (Some (record { at = end; kind = kind.MissingPart }))
  missing m = (
    inl (m, refl),
    λ r c. elim c [ inl a ↦ at_later end kind.MissingPart kind.MissingPart r a.1 (omega arith) | inr a ↦ at_later end kind.RewardRange kind.MissingPart r a.1 (omega arith) ],
  )

  pub end_least : IsFirstRefusal Row (refusal_of (finish s end))
  unfolding finish parts actions
  end_least = go s.init s.discount s.actions refl refl refl
    where
      go : (i : Option (List Factor)) (g : Option ℕ) (ds : List Draft) → s.init ≡ i → s.discount ≡ g → s.actions ≡ ds → IsFirstRefusal Row (refusal_of (finish_by s end i g ds))
      go None g ds ei eg ed = missing (inl (λ m. false≢true (sym (ap is_some ei) ∙ h.init.met.1 m)))
      go (Some i) None ds ei eg ed = missing (inr (inl (λ m. false≢true (sym (ap is_some eg) ∙ h.discount.met.1 m))))
      go (Some i) (Some g) [] ei eg ed = missing (inr (inr (λ m. no_draft source env xs m (sym h.actions.told ∙ ed))))
      go (Some i) (Some g) (d ∷ ds) ei eg ed =
          subst (IsFirstRefusal Row) (sym (refused_ok (actions s.env.scope end R (d ∷ ds)) (λ done. record { variables = s.env.variables; sights = s.env.sights; scope = s.env.scope; discount = g; init = i; actions = done })))
          (least_same (λ r. Among (TooMuch s.env.scope end R worth) (d ∷ ds) × IsRefusalAt end kind.RewardRange r) Row (refusal_of (actions s.env.scope end R (d ∷ ds)))
          (λ r c. inr (subst (Among IsTooMuch) (ap (map (part_told s.env.scope R)) (sym ed) ∙ actions_are) (image_to IsTooMuch (part_told s.env.scope R) (d ∷ ds) c.0), c.1))
          (λ r c. elim c [
            | inl a ↦ absurd (full a.0)
            | inr a ↦ (image_from IsTooMuch (part_told s.env.scope R) (d ∷ ds) (subst (Among IsTooMuch) (sym actions_are ∙ ap (map (part_told s.env.scope R)) ed) a.0), a.1)
          ]) (rewards_least s.env.scope end R worth [] (d ∷ ds)))
        where
          full : (¬ Among IsInit xs) ⊎ ((¬ Among IsDiscount xs) ⊎ (¬ Among IsActionSection xs)) → ⊥
          full (inl m) = m (h.init.met.0 (ap is_some ei))
          full (inr (inl m)) = m (h.discount.met.0 (ap is_some eg))
          full (inr (inr m)) = m (some_draft source env xs d ds (sym h.actions.told ∙ ed))

  -- the parts of the model are those that the sections tell
  pub end_told : (p : Parts) → finish s end ≡ Ok p
      → p ≡ record {
        variables = env.variables;
        sights = env.sights;
        scope = env.scope;
        discount = unwrap_or (first_from source (discount_in source) env xs) 0;
        init = unwrap_or (first_from source (init_in source) env xs) [];
        actions = actions_in source env xs;
      }
  unfolding finish parts bare
  end_told p q = go s.init s.discount s.actions refl refl refl q
    where
      go : (i : Option (List Factor)) (g : Option ℕ) (ds : List Draft) → s.init ≡ i → s.discount ≡ g → s.actions ≡ ds → finish_by s end i g ds ≡ Ok p
          → p ≡ record {
            variables = env.variables;
            sights = env.sights;
            scope = env.scope;
            discount = unwrap_or (first_from source (discount_in source) env xs) 0;
            init = unwrap_or (first_from source (init_in source) env xs) [];
            actions = actions_in source env xs;
          }
      go None g ds ei eg ed q = cc
      go (Some i) None ds ei eg ed q = cc
      go (Some i) (Some g) [] ei eg ed q = cc
      go (Some i) (Some g) (d ∷ ds) ei eg ed q =
          let a = stood (actions s.env.scope end R (d ∷ ds)) (λ done. Ok (record { variables = s.env.variables; sights = s.env.sights; scope = s.env.scope; discount = g; init = i; actions = done })) p q in
          let acts : a.value ≡ actions_in source env xs = actions_told s.env.scope end R worth a.value (d ∷ ds) a.was ∙ ap (map (part_told s.env.scope R)) (sym ed) ∙ actions_are in
          let names : bare s.env ≡ bare env = ap bare h.dds.is ∙ bare_after source env xs in
          let gain : g ≡ unwrap_or (first_from source (discount_in source) env xs) 0 = ap (λ o. unwrap_or o 0) (sym eg ∙ h.discount.told) in
          let first : i ≡ unwrap_or (first_from source (init_in source) env xs) [] = ap (λ o. unwrap_or o []) (sym ei ∙ h.init.told) in
          sym (let z : record { variables = s.env.variables; sights = s.env.sights; scope = s.env.scope; discount = g; init = i; actions = a.value } ≡ p = cc (a.then) in z)
          ∙ (λ n. record { variables = (names n).variables; sights = (names n).sights; scope = (names n).scope; discount = gain n; init = first n; actions = acts n })

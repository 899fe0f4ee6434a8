-- Each generated text means a model.
use Rattle.std.proofs.Common.{◌≡◌, ◌≢◌, ℕ, suc, ◌+◌, ◌<◌, ◌≤◌, ◌==◌, false, List, [], ◌∷◌, ◌++◌, length, Some, None, Ok, refl, sym, ap, ◌∙◌, subst, length-append, arith}
use Rattle.std.specs.Prelude.{pos, codes}
use Rattle.std.specs.List.{list_any}
use Rattle.std.specs.Str.{bytes_eq}
use Rattle.std.specs.Fmt.{decimal}
use Rattle.std.proofs.lemmas.Fmt.{decimal_injective}
use Rattle.std.proofs.lemmas.List.{length-map}
use Rattle.sp_syntax.specs.declared.class.WordClass.TheVariants as the_word
use Rattle.sp_syntax.specs.Grammar.{IsSection, AreDeclarations, AreAll}
use Rattle.sp_spelled.specs.Signs.{space, Spelled, text_of_signs}
use Rattle.sp_spelled.specs.Shapes.{leaf}
use Rattle.sp_spelled.specs.Written.{IsNameWord}
use Rattle.sp_spelled.proofs.Written.{deeper}
use Rattle.sp_dd.specs.Func.{Func}
use Rattle.sp_model.specs.declared.parts.Parts.{Parts}
use Rattle.sp_rows.specs.Tables.{is_reward, less}
use Rattle.sp_trees.specs.declared.env.Env.{Env}
use Rattle.sp_declarations.specs.Steps.{in_turn}
use Rattle.sp_declarations.specs.Declarations.{declarations, variable_limits, sight_limits}
use Rattle.sp_checks.specs.declared.roles.Role.TheVariants as role
use Rattle.sp_checks.specs.declared.items.Listed.{Listed}
use Rattle.sp_checks.specs.declared.state.Draft.{Draft}
use Rattle.sp_checks.specs.declared.state.State.{State}
use Rattle.sp_checks.specs.Roles.{allowed_slots}
use Rattle.sp_checks.specs.Sections.{section, begun}
use Rattle.sp_checks.specs.Finish.{finish, or_zero}
use Rattle.sp_reader.specs.Sources.{Reads}
use Rattle.sp_written.specs.Meanings.{constant_dd}
use Rattle.sp_written.specs.Models.{WritesModel}
use Rattle.sp_written.proofs.Names.{differs}
use Rattle.sp_written.proofs.Lines.{Leads, leads_both, leads_dd, with_dds}
use Rattle.sp_written.proofs.Texts.{draft_for, with_action, writes_model}
use Rattle.sp_written.proofs.Ends.{leads_discount, finish_ok, parts_with, part_of, AreRewards}
use Rattle.sp_written.proofs.Models.{written_models}
use Rattle.sp_generated.specs.Signs.{variable_name, set_name, variables_signs, observations_signs, opening_signs, blind_signs, look_signs, fix_signs, set_signs, rewards_signs, discount_signs, actions_signs, sections_signs}
use Rattle.sp_generated.specs.Generated.{GeneratedModelsAreRead}
use Rattle.sp_generated.proofs.Facts.{eq_false, lacks_with}
use Rattle.sp_generated.proofs.Words.{blind_word, look_word, fix_word, set_word, spells_half, spells_discount}
use Rattle.sp_generated.proofs.Scope.{scope_of, env_of, decls, decls_count, hint_decl}
use Rattle.sp_generated.proofs.Trees.{writes_ticks}
use Rattle.sp_generated.proofs.Declared.{variables_read, sights_read, variables_written, observations_written, declared_read}
use Rattle.sp_generated.proofs.Opening.{opening_factors, leads_opening}
use Rattle.sp_generated.proofs.Rewards.{reward_func, rewarded, leads_rewards}
use Rattle.sp_generated.proofs.Tables.{blind_dd, blind_dds, look_dd, looked, leads_look, fixed, leads_fix, switched, leads_set}
use Rattle.sp_generated.proofs.Printed.{generated_printed}

other_set : (i j : ℕ) → i < 64 → j < 64 → i ≢ j → bytes_eq (set_name i) (set_name j) ≡ false
other_set i j l k h = differs (set_name i) (set_name j) (λ e. h (decimal_injective i j (omega arith) (omega arith) (let same : decimal i ≡ decimal j = cc in same)))

-- none of these is that name
abbrev AreOthers : List ℕ → List (List ℕ) → Type 0
AreOthers w [] = Unit {0}
AreOthers w (v ∷ names) = (bytes_eq w v ≡ false) × AreOthers w names

-- n variables, of which all but the first are off
module _ (n m : ℕ) (same : n ≡ suc m) (some : 8 ≤ n) (few : n ≤ 24) where
  abbrev env : Env
  env = env_of n (blind_dds n few)

  -- ---- costs
  pub record HasCost (d : Draft) : Type 0 where
    pub ticks : ℕ
    pub small : ticks ≤ 1000000000
    pub is : d.cost ≡ Some (constant_dd env (pos ticks)).func

  abbrev HaveCosts : List Draft → Type 0
  HaveCosts [] = Unit {0}
  HaveCosts (d ∷ ds) = HasCost d × HaveCosts ds

  one_more_cost : (ds : List Draft) (d : Draft) → HaveCosts ds → HasCost d → HaveCosts (ds ++ d ∷ [])
  one_more_cost [] d h c = (c, tt)
  one_more_cost (e ∷ ds) d h c = (h.0, one_more_cost ds d h.1 c)

  are_rewards : (ds : List Draft) → HaveCosts ds → AreRewards (scope_of n) (reward_func n few (blind_dds n few) m) ds
  are_rewards [] h = tt
  are_rewards (d ∷ ds) h =
      let c = h.0 in
      (ap (λ o. is_reward (less (reward_func n few (blind_dds n few) m) (or_zero (scope_of n) o))) c.is ∙ rewarded n few (blind_dds n few) m c.ticks same c.small, are_rewards ds h.1)

  -- ---- while the actions are read
  -- so many actions were read, of these names
  record IsReading (s : State) (count : ℕ) (names : List (List ℕ)) : Type 0 where
    pub env_is : s.env ≡ env
    pub init : s.init ≡ Some (opening_factors n few [] m)
    pub reward : s.reward ≡ None
    pub discount : s.discount ≡ None
    pub count_is : length s.actions ≡ count
    pub costs : HaveCosts s.actions
    pub new : (w : List ℕ) → AreOthers w names → list_any (bytes_eq w) s.names ≡ false

  -- the signs lead to the end of a text that means a model
  record Completes (s : State) (us : List Spelled) : Type 0 where
    pub parts : Parts
    pub last : State
    pub leads : Leads s last 5 us
    pub done : (end : ℕ) → finish last end ≡ Ok parts
    pub variables : length parts.variables ≡ n
    pub sights : length parts.sights ≡ 1
    pub actions : length parts.actions ≡ 6

  then_more : (s t : State) (us vs : List Spelled) → Leads s t 5 us → Completes t vs → Completes s (us ++ vs)
  then_more s t us vs leads rest = record {
    parts = rest.parts;
    last = rest.last;
    leads = leads_both s t rest.last 5 us vs leads rest.leads;
    done = rest.done;
    variables = rest.variables;
    sights = rest.sights;
    actions = rest.actions;
  }

  in_depth : (s t : State) (us : List Spelled) (depth : ℕ) → depth ≤ 5 → Leads s t depth us → Leads s t 5 us
  in_depth s t us depth h leads = deeper (AreAll IsSection) (λ source xs. in_turn (section source) s xs ≡ Ok t) us depth 5 h leads

  -- ---- the end
  ends : (s : State) (names : List (List ℕ)) → IsReading s 6 names → Completes s (rewards_signs (variable_name 1) m ++ discount_signs)
  ends s names r = then_more s paid (rewards_signs (variable_name 1) m) discount_signs
      (in_depth s paid (rewards_signs (variable_name 1) m) 4 (omega arith) (leads_rewards n few (blind_dds n few) s r.env_is r.reward m same)) (finished s.actions refl r.count_is r.costs)
    where
      paid : State
      paid = record s { reward = Some (reward_func n few (blind_dds n few) m) }

      over : State
      over = record s { reward = Some (reward_func n few (blind_dds n few) m); discount = Some 950000000 }

      finished : (ds : List Draft) → s.actions ≡ ds → length ds ≡ 6 → HaveCosts ds → Completes paid discount_signs
      finished [] e count costs = absurd (omega arith)
      finished (d ∷ ds) e count costs = record {
        parts = parts_with over (opening_factors n few [] m) 950000000 (d ∷ ds);
        last = over;
        leads = in_depth paid over discount_signs 0 (omega arith) (leads_discount paid (codes "0.95") 950000000 r.discount spells_discount (omega arith));
        done = λ end. finish_ok over (opening_factors n few [] m) 950000000 d ds end r.init refl e
            (subst (λ (v : Env). AreRewards v.scope (reward_func n few (blind_dds n few) m) (d ∷ ds)) (sym r.env_is) (are_rewards (d ∷ ds) costs));
        variables = ap (λ (v : Env). length v.variables) r.env_is ∙ decls_count 1 n;
        sights = ap (λ (v : Env). length v.sights) r.env_is;
        actions = length-map (d ∷ ds) (part_of s.env.scope (reward_func n few (blind_dds n few) m)) ∙ count;
      }

  -- ---- an action
  acts : (s : State) (count : ℕ) (names : List (List ℕ)) (w : List ℕ) (named : IsNameWord w) (l : Listed) (f : Func) (c : ℕ) (us vs : List Spelled) → IsReading s count names → c ≤ 1000000000 → l.cost ≡ Some (constant_dd env (pos c)).func
      → Leads s (with_action s w named l (f ∷ [])) 5 us → ((t : State) → IsReading t (suc count) (w ∷ names) → Completes t vs) → Completes s (us ++ vs)
  acts s count names w named l f c us vs r small cost leads more =
      let long = length-append s.actions (draft_for s w named l (f ∷ []) ∷ []) in
      let before = r.count_is in
      then_more s (with_action s w named l (f ∷ [])) us vs leads
      (more (with_action s w named l (f ∷ [])) (record {
        env_is = r.env_is;
        init = r.init;
        reward = r.reward;
        discount = r.discount;
        count_is = omega arith;
        costs = one_more_cost s.actions (draft_for s w named l (f ∷ [])) r.costs (record { ticks = c; small = small; is = cost });
        new = λ v h. lacks_with s.names w v (r.new v h.1) h.0;
      }))

  room : (s : State) (count : ℕ) (names : List (List ℕ)) → count ≤ 6 → IsReading s count names → (length s.actions == 256) ≡ false
  room s count names h r = let is = r.count_is in eq_false (length s.actions) 256 (λ e. omega arith)

  sets : (s : State) (count k : ℕ) (names : List (List ℕ)) (vs : List Spelled) → count ≤ 6 → k < n → AreOthers (set_name (suc k)) names → IsReading s count names
      → ((t : State) → IsReading t (suc count) (set_name (suc k) ∷ names) → Completes t vs) → Completes s (set_signs (suc k) ++ vs)
  sets s count k names vs h l others r more =
      acts s count names (set_name (suc k)) (set_word (suc k) (omega arith)) (switched n few k (length s.actions)) (blind_dd n few).func 500000000 (set_signs (suc k)) vs r (omega arith) refl
      (leads_set n few k l s r.env_is (r.new (set_name (suc k)) others) (room s count names h r)) more

  -- ---- all actions
  abbrev two_names : List (List ℕ)
  two_names = codes "fix" ∷ codes "look" ∷ []

  all_set : (s : State) → IsReading s 2 two_names → Completes s (set_signs 2 ++ (set_signs 3 ++ (set_signs 4 ++ (set_signs 5 ++ (rewards_signs (variable_name 1) m ++ discount_signs)))))
  all_set s r = sets s 2 1 two_names _ (omega arith) (omega arith) (refl, (refl, tt)) r
      (λ t p. sets t 3 2 (set_name 2 ∷ two_names) _ (omega arith) (omega arith) (other_set 3 2 (omega arith) (omega arith) (λ e. omega arith), (refl, (refl, tt))) p
      (λ u q. sets u 4 3 (set_name 3 ∷ set_name 2 ∷ two_names) _ (omega arith) (omega arith)
      (other_set 4 3 (omega arith) (omega arith) (λ e. omega arith), (other_set 4 2 (omega arith) (omega arith) (λ e. omega arith), (refl, (refl, tt)))) q
      (λ v o. sets v 5 4 (set_name 4 ∷ set_name 3 ∷ set_name 2 ∷ two_names) _ (omega arith) (omega arith)
      (other_set 5 4 (omega arith) (omega arith) (λ e. omega arith), (other_set 5 3 (omega arith) (omega arith) (λ e. omega arith), (other_set 5 2 (omega arith) (omega arith) (λ e. omega arith), (refl, (refl, tt))))) o
      (λ w z. ends w _ z))))

  abbrev after_two : List Spelled
  after_two = set_signs 2 ++ (set_signs 3 ++ (set_signs 4 ++ (set_signs 5 ++ (rewards_signs (variable_name 1) m ++ discount_signs))))

  all_acts : (s : State) → IsReading s 0 [] → Completes s (look_signs (variable_name 1) ++ (fix_signs (variable_name 1) ++ after_two))
  all_acts s r =
      acts s 0 [] (codes "look") look_word (looked n few (length s.actions)) (look_dd n few).func 100000000 (look_signs (variable_name 1)) (fix_signs (variable_name 1) ++ after_two) r (omega arith) refl
      (leads_look n few (omega arith) s r.env_is (r.new (codes "look") tt) (room s 0 [] (omega arith) r))
      (λ t p. acts t 1 (codes "look" ∷ []) (codes "fix") fix_word (fixed n few (length t.actions)) (blind_dd n few).func 1000000000 (fix_signs (variable_name 1)) after_two p (omega arith) refl
      (leads_fix n few (omega arith) t p.env_is (p.new (codes "fix") (refl, tt)) (room t 1 (codes "look" ∷ []) (omega arith) p))
      (λ u q. all_set u q))

  -- ---- from the declarations on
  abbrev begun_state : State
  begun_state = begun (record { variables = decls 1 n; sights = hint_decl ∷ [] })

  abbrev opened : State
  opened = record begun_state { init = Some (opening_factors n few [] m) }

  abbrev with_blind : State
  with_blind = with_dds opened (blind_dds n few)

  blind_read : Leads opened with_blind 1 blind_signs
  blind_read = leads_dd opened [] (codes "blind") (blind_dd n few) (leaf (codes "0.5") space) 1 blind_word refl (writes_ticks n few [] (allowed_slots (scope_of n) role.Dd) (codes "0.5") (pos 500000000) space spells_half)

  whole : Completes begun_state (sections_signs (variable_name 1) m)
  whole = then_more begun_state opened (opening_signs (variable_name 1) m) (actions_signs (variable_name 1) ++ (rewards_signs (variable_name 1) m ++ discount_signs))
      (in_depth begun_state opened (opening_signs (variable_name 1) m) 4 (omega arith) (leads_opening n few [] begun_state refl refl m same))
      (then_more opened with_blind blind_signs (look_signs (variable_name 1) ++ (fix_signs (variable_name 1) ++ after_two)) (in_depth opened with_blind blind_signs 1 (omega arith) blind_read)
      (all_acts with_blind (record { env_is = refl; init = refl; reward = refl; discount = refl; count_is = refl; costs = tt; new = λ w h. refl })))

  -- ---- the text
  text_written : WritesModel whole.parts 5 (variables_signs n ++ (observations_signs ++ sections_signs (variable_name 1) m))
  text_written = writes_model (record { variables = decls 1 n; sights = hint_decl ∷ [] }) whole.last whole.parts (variables_signs n) observations_signs (sections_signs (variable_name 1) m) 5
      (λ source x. declarations source variable_limits [] x.declarations ≡ Ok (variables_read n (omega arith) few)) (λ source x. declarations source sight_limits (variables_read n (omega arith) few).names x.declarations ≡ Ok (sights_read n (omega arith) few))
      (deeper (AreDeclarations the_word.Variables) _ (variables_signs n) 2 5 (omega arith) (variables_written n (omega arith) few))
      (deeper (AreDeclarations the_word.Observations) _ observations_signs 2 5 (omega arith) (observations_written n (omega arith) few))
      (λ source x y sections h k. declared_read n (omega arith) few source x y sections h k) whole.leads whole.done

  text_reads : Reads (text_of_signs (variables_signs n ++ (observations_signs ++ sections_signs (variable_name 1) m))) whole.parts
  text_reads = written_models whole.parts 5 (variables_signs n ++ (observations_signs ++ sections_signs (variable_name 1) m)) (omega arith) text_written

pub generated_models : GeneratedModelsAreRead
generated_models number l =
    let n : ℕ = suc (number + 7) in
    let eight : suc (number + 7) ≡ number + 8 = omega arith in
    let all = whole (suc (number + 7)) (number + 7) refl (omega arith) (omega arith) in
    record {
      model = all.parts;
      reads = subst (λ source. Reads source all.parts) (generated_printed number) (text_reads (suc (number + 7)) (number + 7) refl (omega arith) (omega arith));
      variables = all.variables ∙ eight;
      sights = all.sights;
      actions = all.actions;
    }

-- The canonical text of a model means the model.
use Rattle.std.proofs.Common.{◌≡◌, ℕ, suc, ◌+◌, ◌^◌, ◌≤◌, List, [], ◌∷◌, ◌++◌, length, map, Some, None, Ok, refl, sym, ap, ◌∙◌, subst, arith, append-nil, append_assoc, length-append}
use Rattle.std.specs.Prelude.{pos, All, codes}
use Rattle.sp_syntax.specs.declared.class.WordClass.TheVariants as the_word
use Rattle.sp_syntax.specs.Grammar.{IsSection, AreDeclarations, AreAll}
use Rattle.sp_dd.specs.Func.{IsFunc}
use Rattle.sp_dd.specs.Operations.{everywhere}
use Rattle.sp_model.specs.declared.parts.Factor.{Factor}
use Rattle.sp_model.specs.declared.parts.ActionPart.{ActionPart}
use Rattle.sp_model.specs.declared.parts.Parts.{Parts}
use Rattle.sp_model.specs.Problem.{shape_of}
use Rattle.sp_model.specs.Kept.{IsModel, IsAction, IsFactor}
use Rattle.sp_names.specs.Names.{with_name}
use Rattle.sp_rows.specs.Tables.{is_reward}
use Rattle.sp_show.specs.Decimals.{decimal_of}
use Rattle.sp_trees.specs.declared.env.Dd.{Dd}
use Rattle.sp_declarations.specs.Steps.{in_turn}
use Rattle.sp_declarations.specs.Declarations.{declarations, variable_limits, sight_limits}
use Rattle.sp_checks.specs.declared.roles.Role.TheVariants as role
use Rattle.sp_checks.specs.declared.state.Draft.{Draft}
use Rattle.sp_checks.specs.declared.state.State.{State}
use Rattle.sp_checks.specs.Roles.{allowed_slots}
use Rattle.sp_checks.specs.Sections.{section}
use Rattle.sp_checks.specs.Finish.{finish}
use Rattle.sp_spelled.specs.Signs.{line, Spelled}
use Rattle.sp_spelled.proofs.Numbers.{decimal_spells}
use Rattle.sp_spelled.proofs.Written.{deeper}
use Rattle.sp_written.specs.Meanings.{constant_dd}
use Rattle.sp_written.specs.Models.{WritesModel}
use Rattle.sp_written.proofs.Lawful as lawful
use Rattle.sp_written.proofs.Trees.{writes_number}
use Rattle.sp_written.proofs.Lines.{Leads, leads_both, leads_nowhere}
use Rattle.sp_written.proofs.Texts.{writes_model}
use Rattle.sp_written.proofs.Ends.{leads_reward, leads_discount, finish_ok, part_of, AreRewards}
use Rattle.sp_written.proofs.Models.{written_models}
use Rattle.sp_canonical.specs.ModelSigns.{model_signs, declarations_line, init_signs, action_signs, actions_signs, next_base, lines_total, factor_tables, reward_signs, discount_signs}
use Rattle.sp_read_back.proofs.Fresh.{AreFresh, fresh}
use Rattle.sp_read_back.proofs.Declared.{declared}
use Rattle.sp_read_back.specs.ReadBack.{HasFuncs, AreFuncs, line_end, CanonicalTextIsReadBack}
use Rattle.sp_read_back.proofs.Slots.{scope_is}
use Rattle.sp_read_back.proofs.Functions.{env_with, no_dds}
use Rattle.sp_read_back.proofs.Actions.{dds_all, all_count, at_dds}
use Rattle.sp_read_back.proofs.Blocks.{draft_of, action_dds, action_count, IsReadable, action_read, next_at}
use Rattle.sp_read_back.proofs.Factors.{AreGood, leads_factors}

module _ (p : Parts) (m : IsModel p) where
  -- ---- the actions one behind another
  abbrev AllReadable : List ActionPart → Type 0
  AllReadable [] = Unit {0}
  AllReadable (a ∷ list) = IsReadable p m a × AllReadable list

  end_above : (base : ℕ) (list : List ActionPart) → base ≤ line_end p base list
  end_above base [] = omega arith
  end_above base (a ∷ list) = let more = end_above (next_base p base a) list in omega arith

  record Acted (names : List (List ℕ)) (done : List Draft) (before : List Dd) (list : List ActionPart) : Type 0 where
    pub names_then : List (List ℕ)
    pub dds : List Dd
    pub leads : Leads (at_dds p m names done (Some p.init) None None before) (at_dds p m names_then (done ++ map (draft_of p m) list) (Some p.init) None None dds) 3 (actions_signs p (length before) list)

  acts : (names : List (List ℕ)) (done : List Draft) (before : List Dd) (list : List ActionPart) → AllReadable list → AreFresh names (map (λ (a : ActionPart). a.name) list) → length done + length list ≤ 256 → line_end p (length before) list ≤ 2 ^ 64 → Acted names done before list
  acts names done before [] h fresh room fits = record {
    names_then = names;
    dds = before;
    leads = subst (λ ds. Leads (at_dds p m names done (Some p.init) None None before) (at_dds p m names ds (Some p.init) None None before) 3 []) (sym (append-nil done)) (leads_nowhere (at_dds p m names done (Some p.init) None None before) 3);
  }
  acts names done before (a ∷ list) h fresh room fits =
      let all : List Dd = before ++ action_dds p m a in
      let above = end_above (next_base p (length before) a) list in
      let short : length (before ++ action_dds p m a) ≤ 2 ^ 64 = from (next_at_any a h.0) above in
      let next = next_at p m a h.0 names done (Some p.init) None None before fresh.0 (omega arith) short in
      let long = length-append done (draft_of p m a ∷ []) in
      let rest = acts (with_name names a.name) (done ++ draft_of p m a ∷ []) (before ++ action_dds p m a) list h.1 fresh.1 (omega arith) (subst (λ b. line_end p b list ≤ 2 ^ 64) (sym next) fits) in
      record {
        names_then = rest.names_then;
        dds = rest.dds;
        leads = leads_both (at_dds p m names done (Some p.init) None None before) (at_dds p m (with_name names a.name) (done ++ draft_of p m a ∷ []) (Some p.init) None None (before ++ action_dds p m a)) (at_dds p m rest.names_then (done ++ map (draft_of p m) (a ∷ list)) (Some p.init) None None rest.dds) 3 (action_signs p (length before) a) (actions_signs p (next_base p (length before) a) list)
            (action_read p m a h.0 names done (Some p.init) None None before fresh.0 (omega arith) short)
            (subst (λ (ds : List Draft). Leads (at_dds p m (with_name names a.name) (done ++ draft_of p m a ∷ []) (Some p.init) None None (before ++ action_dds p m a)) (at_dds p m rest.names_then ds (Some p.init) None None rest.dds) 3 (actions_signs p (next_base p (length before) a) list)) (append_assoc done (draft_of p m a ∷ []) (map (draft_of p m) list))
            (subst (λ b. Leads (at_dds p m (with_name names a.name) (done ++ draft_of p m a ∷ []) (Some p.init) None None (before ++ action_dds p m a)) (at_dds p m rest.names_then ((done ++ draft_of p m a ∷ []) ++ map (draft_of p m) list) (Some p.init) None None rest.dds) 3 (actions_signs p b list)) next rest.leads));
      }
    where
      next_at_any : (b : ActionPart) → IsReadable p m b → length (before ++ action_dds p m b) ≡ next_base p (length before) b
      next_at_any b r = action_count p m before b

      from : length (before ++ action_dds p m a) ≡ next_base p (length before) a → next_base p (length before) a ≤ line_end p (next_base p (length before) a) list → length (before ++ action_dds p m a) ≤ 2 ^ 64
      from e l = omega arith

  -- ---- the end
  rewards_are : (list : List ActionPart) → All (IsAction (shape_of p)) list → All HasFuncs list → AreRewards (shape_of p) (everywhere (shape_of p) (pos 0)) (map (draft_of p m) list)
  rewards_are [] h k = tt
  rewards_are (a ∷ list) h k =
      let is = h 0 a (omega arith) in
      let reward = is.reward in (
        ap is_reward (lawful.less_negative (shape_of p) (scope_is p m) a.reward reward.shape (k 0 a (omega arith)).reward) ∙ lawful.sound_reward (shape_of p) (scope_is p m) a.reward reward,
        rewards_are list (λ i d l. h (suc i) d (omega arith)) (λ i d l. k (suc i) d (omega arith)),
      )

  same_actions : (list : List ActionPart) → All (IsAction (shape_of p)) list → All HasFuncs list → map (part_of (shape_of p) (everywhere (shape_of p) (pos 0))) (map (draft_of p m) list) ≡ list
  same_actions [] h k = refl
  same_actions (a ∷ list) h k =
      let is = h 0 a (omega arith) in
      let reward = is.reward in
      (λ i. record { name = a.name; reward = lawful.less_negative (shape_of p) (scope_is p m) a.reward reward.shape (k 0 a (omega arith)).reward i; moves = a.moves; sight = a.sight }
      ∷ same_actions list (λ j d l. h (suc j) d (omega arith)) (λ j d l. k (suc j) d (omega arith)) i)

  module _ (funcs : AreFuncs p) (fits : line_end p (lines_total (factor_tables p.init)) p.actions ≤ 2 ^ 64) where
    all_good : (fs : List Factor) → All (IsFactor (shape_of p)) fs → All (λ (f : Factor). IsFunc f.func) fs → AreGood p m fs
    all_good [] h k = tt
    all_good (f ∷ fs) h k = ((h 0 f (omega arith), k 0 f (omega arith)), all_good fs (λ i d l. h (suc i) d (omega arith)) (λ i d l. k (suc i) d (omega arith)))

    all_readable : (list : List ActionPart) → All (IsAction (shape_of p)) list → All HasFuncs list → AllReadable list
    all_readable [] h k = tt
    all_readable (a ∷ list) h k = (
      record { is = h 0 a (omega arith); moves = (k 0 a (omega arith)).moves; sights = (k 0 a (omega arith)).sights },
      all_readable list (λ i d l. h (suc i) d (omega arith)) (λ i d l. k (suc i) d (omega arith)),
    )

    abbrev first_dds : List Dd
    first_dds = dds_all p m (factor_tables p.init)

    acted : Acted [] [] first_dds p.actions
    acted =
        let few = m.few_actions in
        acts [] [] first_dds p.actions (all_readable p.actions m.actions funcs.actions)
        (fresh [] (map (λ (a : ActionPart). a.name) p.actions) (λ i l. refl) m.actions_different) (omega arith)
        (subst (λ b. line_end p b p.actions ≤ 2 ^ 64) (sym (all_count p m (factor_tables p.init))) fits)

    abbrev begun_state : State
    begun_state = at_dds p m [] [] None None None []

    abbrev acted_state : State
    acted_state = at_dds p m acted.names_then (map (draft_of p m) p.actions) (Some p.init) None None acted.dds

    abbrev paid_state : State
    paid_state = at_dds p m acted.names_then (map (draft_of p m) p.actions) (Some p.init) (Some (everywhere (shape_of p) (pos 0))) None acted.dds

    abbrev last_state : State
    last_state = at_dds p m acted.names_then (map (draft_of p m) p.actions) (Some p.init) (Some (everywhere (shape_of p) (pos 0))) (Some p.discount) acted.dds

    in_depth : (s t : State) (us : List Spelled) (depth : ℕ) → depth ≤ 5 → Leads s t depth us → Leads s t 5 us
    in_depth s t us depth h leads = deeper (AreAll IsSection) (λ source xs. in_turn (section source) s xs ≡ Ok t) us depth 5 h leads

    sections_read : Leads begun_state last_state 5 (init_signs p p.init ++ (actions_signs p (lines_total (factor_tables p.init)) p.actions ++ (reward_signs ++ discount_signs p.discount)))
    sections_read =
        let above = end_above (lines_total (factor_tables p.init)) p.actions in
        let low = m.discount in
        leads_both begun_state (at_dds p m [] [] (Some p.init) None None first_dds) last_state 5 _ _
        (leads_factors p m p.init (all_good p.init m.init funcs.init) m.apart m.every m.some_variable (omega arith))
        (leads_both (at_dds p m [] [] (Some p.init) None None first_dds) acted_state last_state 5 _ _
        (in_depth _ _ _ 3 (omega arith) (subst (λ b. Leads (at_dds p m [] [] (Some p.init) None None first_dds) acted_state 3 (actions_signs p b p.actions)) (all_count p m (factor_tables p.init)) acted.leads))
        (leads_both acted_state paid_state last_state 5 reward_signs (discount_signs p.discount)
        (in_depth acted_state paid_state reward_signs 1 (omega arith)
        (leads_reward acted_state (constant_dd (no_dds p m) (pos 0)) _ 1 refl (writes_number (env_with p m acted.dds) (allowed_slots (shape_of p) role.Reward) (decimal_of (pos 0)) (pos 0) line (decimal_spells (pos 0) (omega arith)))))
        (in_depth paid_state last_state (discount_signs p.discount) 0 (omega arith) (leads_discount paid_state (decimal_of (pos p.discount)) p.discount refl (decimal_spells (pos p.discount) (omega arith)) m.discount))))

    whole : (end : ℕ) → finish last_state end ≡ Ok p
    whole end = go p.actions refl
      where
        go : (list : List ActionPart) → p.actions ≡ list → finish last_state end ≡ Ok p
        go [] e = let some = m.some_action in let none : length p.actions ≡ 0 = ap (λ (l : List ActionPart). length l) e in absurd (omega arith)
        go (a ∷ list) e =
            let is : All (IsAction (shape_of p)) (a ∷ list) = subst (λ (l : List ActionPart). All (IsAction (shape_of p)) l) e m.actions in
            let rewards : All HasFuncs (a ∷ list) = subst (λ (l : List ActionPart). All HasFuncs l) e funcs.actions in
            finish_ok last_state p.init p.discount (draft_of p m a) (map (draft_of p m) list) end refl refl (ap (map (draft_of p m)) e) (rewards_are (a ∷ list) is rewards)
            ∙ (λ i. Ok (record { variables = p.variables; sights = p.sights; scope = sym m.scope i; discount = p.discount; init = p.init; actions = (same_actions (a ∷ list) is rewards ∙ sym e) i }))

    text_written : WritesModel p 5 (model_signs p)
    unfolding model_signs
    text_written =
        let d = declared p m in
        writes_model (record { variables = p.variables; sights = p.sights }) last_state p (declarations_line (codes "variables") p.variables) (declarations_line (codes "observations") p.sights) _ 5
        (λ source x. declarations source variable_limits [] x.declarations ≡ Ok d.variables) (λ source y. declarations source sight_limits d.variables.names y.declarations ≡ Ok d.sights)
        (deeper (AreDeclarations the_word.Variables) _ (declarations_line (codes "variables") p.variables) 2 5 (omega arith) d.first)
        (deeper (AreDeclarations the_word.Observations) _ (declarations_line (codes "observations") p.sights) 2 5 (omega arith) d.second)
        (λ source x y sections h k. d.both source x y sections h k) sections_read whole

pub read_back : CanonicalTextIsReadBack
read_back p m funcs fits = written_models p 5 (model_signs p) (omega arith) (text_written p m funcs fits)

-- An action of a canonical text, and all of them.
use Rattle.std.proofs.Common.{◌≡◌, ℕ, suc, ◌+◌, ◌^◌, ◌<◌, ◌≤◌, Bool, true, false, cond, List, [], ◌∷◌, ◌++◌, length, map, get_or, Option, Some, Ok, refl, sym, ap, ◌∙◌, subst, arith, append-nil, append_assoc, length-append}
use Rattle.std.specs.Prelude.{All, codes, not}
use Rattle.std.specs.List.{list_any}
use Rattle.std.specs.Str.{bytes_eq}
use Rattle.sp_syntax.specs.Grammar.{IsSection, AreAll}
use Rattle.sp_dd.specs.Func.{Func, IsFunc}
use Rattle.sp_model.specs.declared.parts.Decl.{Decl}
use Rattle.sp_model.specs.declared.parts.Factor.{Factor}
use Rattle.sp_model.specs.declared.parts.ActionPart.{ActionPart}
use Rattle.sp_model.specs.declared.parts.Parts.{Parts}
use Rattle.sp_model.specs.Problem.{no_decl, no_func, shape_of}
use Rattle.sp_model.specs.Kept.{IsModel, IsAction, IsTransitionTable, IsSight}
use Rattle.sp_names.specs.Names.{with_name}
use Rattle.sp_trees.specs.declared.refusal.ModelKind.TheVariants as kind
use Rattle.sp_trees.specs.declared.env.Dd.{Dd}
use Rattle.sp_trees.specs.declared.env.Env.{Env}
use Rattle.sp_trees.specs.Refusals.{refused_if}
use Rattle.sp_declarations.specs.Steps.{unless_refused, in_turn}
use Rattle.sp_checks.specs.declared.roles.Role.TheVariants as role
use Rattle.sp_checks.specs.declared.items.Listed.{Listed}
use Rattle.sp_checks.specs.declared.state.Draft.{Draft}
use Rattle.sp_checks.specs.declared.state.State.{State}
use Rattle.sp_checks.specs.Actions.{nothing_listed, moves_of, sights_of, name_refusal_by}
use Rattle.sp_checks.specs.Sections.{section}
use Rattle.sp_spelled.specs.Signs.{line}
use Rattle.sp_spelled.specs.Shapes.{spaced_word, last_word}
use Rattle.sp_spelled.proofs.Written.{deeper}
use Rattle.sp_written.proofs.Names.{named}
use Rattle.sp_written.proofs.Lines.{Leads, leads_both}
use Rattle.sp_written.proofs.Items.{writes_observe, writes_cost}
use Rattle.sp_written.proofs.Blocks.{Line, move_signs, sight_signs, move_table, sight_table, Lists, lists_one, lists_both, lists_moves, observes_sights, moves_are}
use Rattle.sp_written.proofs.Texts.{leads_action}
use Rattle.sp_canonical.specs.Tables.{named_tables, moving_tables, is_identity, negative}
use Rattle.sp_canonical.specs.ModelSigns.{function_lines, function_signs, functions_lines, tables_of, line_behind, named_lines, block_signs, moving_of, seen_of, action_signs, next_base, observed_signs}
use Rattle.sp_read_back.proofs.Fresh.{not_equal}
use Rattle.sp_read_back.proofs.Slots.{n, slots_count}
use Rattle.sp_read_back.proofs.Functions.{state_of, all_dds, env_with, dds_for, dd_for, leads_lines, means_it, count_for}
use Rattle.sp_read_back.proofs.Roles.{cost_mentions, cost_shown}
use Rattle.sp_read_back.proofs.Actions.{dds_all, all_count, AreShown, leads_all, move_lines, sight_lines, move_signs_are, sight_signs_are, move_count, sight_count, none_list, AreMovesOf, AreSightsOf, next_moves, next_sights, move_shown, sight_shown, is_line, moves_lines, sights_lines, moves_told, sights_told}

module _ (p : Parts) (m : IsModel p) where
  shown_moves : (i : ℕ) (ds : List Decl) (fs : List Func) → AreMovesOf p m i ds fs → AreShown p m (tables_of (moving_tables (shape_of p) i ds fs))
  shown_moves i [] fs h = tt
  shown_moves i (d ∷ ds) [] h = tt
  shown_moves i (d ∷ ds) (f ∷ fs) h = go (is_identity (shape_of p) i f) (shown_moves (suc i) ds fs (next_moves p m i d ds f fs h))
    where
      is : IsTransitionTable (shape_of p) i f
      is = subst (λ j. IsTransitionTable (shape_of p) j f) (let e : i + 0 ≡ i = omega arith in e) (h.move 0 (omega arith))

      go : (b : Bool) → AreShown p m (tables_of (moving_tables (shape_of p) (suc i) ds fs)) → AreShown p m (tables_of (cond b (moving_tables (shape_of p) (suc i) ds fs) (record { name = d.name; table = f } ∷ moving_tables (shape_of p) (suc i) ds fs)))
      go true rest = rest
      go false rest = (move_shown p m i f is (h.func 0 (omega arith)), rest)

  shown_sights : (j : ℕ) (ds : List Decl) (fs : List Func) → AreSightsOf p m j ds fs → AreShown p m (tables_of (named_tables ds fs))
  shown_sights j [] fs h = tt
  shown_sights j (d ∷ ds) [] h = tt
  shown_sights j (d ∷ ds) (f ∷ fs) h =
      let is : IsSight (shape_of p) j f = subst (λ k. IsSight (shape_of p) k f) (let e : j + 0 ≡ j = omega arith in e) (h.sight 0 (omega arith)) in
      (sight_shown p m j f is (h.func 0 (omega arith)), shown_sights (suc j) ds fs (next_sights p m j d ds f fs h))

  -- what is read of an action
  abbrev pub draft_of : ActionPart → Draft
  draft_of a = record { name = a.name; cost = Some (negative a.reward); moves = a.moves; sights = a.sight }

  abbrev pub action_dds : ActionPart → List Dd
  action_dds a = dds_all p m (tables_of (moving_of p a)) ++ (dds_all p m (tables_of (seen_of p a)) ++ dds_for p m (negative a.reward))

  pub action_count : (before : List Dd) (a : ActionPart) → length (before ++ action_dds a) ≡ next_base p (length before) a
  action_count before a =
      let one = length-append before (action_dds a) in
      let two = length-append (dds_all p m (tables_of (moving_of p a))) (dds_all p m (tables_of (seen_of p a)) ++ dds_for p m (negative a.reward)) in
      let three = length-append (dds_all p m (tables_of (seen_of p a))) (dds_for p m (negative a.reward)) in
      let moves = all_count p m (tables_of (moving_of p a)) in
      let sights = all_count p m (tables_of (seen_of p a)) in
      let cost = count_for p m (negative a.reward) in omega arith

  pub record IsReadable (a : ActionPart) : Type 0 where
    pub is : IsAction (shape_of p) a
    pub moves : All IsFunc a.moves
    pub sights : All IsFunc a.sight

  module _ (a : ActionPart) (h : IsReadable a) where
    moves_of_all : AreMovesOf p m 0 p.variables a.moves
    moves_of_all =
        let is = h.is in
        let count = is.move_count in
        record {
          count = sym count;
          within = omega arith;
          decl = λ k l. (let e : k ≡ 0 + k = omega arith in ap (λ j. get_or p.variables j no_decl) e);
          move = λ k l. subst (λ j. IsTransitionTable (shape_of p) j (get_or a.moves k no_func)) (let e : k ≡ 0 + k = omega arith in e) (is.moves k l);
          func = λ k l. h.moves k no_func (omega arith);
        }

    sight_number : length a.sight ≡ length p.sights
    sight_number = let is = h.is in let count = is.sight_count in let slots = slots_count p m in omega arith

    sights_of_all : AreSightsOf p m 0 p.sights a.sight
    sights_of_all =
        let is = h.is in
        let count = sight_number in
        record {
          count = sym count;
          within = omega arith;
          decl = λ k l. (let e : k ≡ 0 + k = omega arith in ap (λ j. get_or p.sights j no_decl) e);
          sight = λ k l. subst (λ j. IsSight (shape_of p) j (get_or a.sight k no_func)) (let e : k ≡ 0 + k = omega arith in e) (is.sights k (omega arith));
          func = λ k l. h.sights k no_func (omega arith);
        }

    module _ (names : List (List ℕ)) (actions : List Draft) (init : Option (List Factor)) (reward : Option Func) (discount : Option ℕ) (before : List Dd)
        (new : list_any (bytes_eq a.name) names ≡ false) (room : length actions < 256) (fits : length (before ++ action_dds a) ≤ 2 ^ 64) where
      abbrev at : List Dd → State
      at ds = state_of p m names actions init reward discount (all_dds p m ds)

      abbrev base : ℕ
      base = length before

      abbrev seen_base : ℕ
      seen_base = line_behind base (moving_of p a)

      abbrev cost_base : ℕ
      cost_base = line_behind seen_base (seen_of p a)

      abbrev moved : List Dd
      moved = dds_all p m (tables_of (moving_of p a))

      abbrev seen : List Dd
      seen = dds_all p m (tables_of (seen_of p a))

      abbrev paid : List Dd
      paid = dds_for p m (negative a.reward)

      abbrev all : List Dd
      all = before ++ action_dds a

      total : length all ≡ base + (length moved + (length seen + length paid))
      total =
          let one = length-append before (action_dds a) in
          let two = length-append moved (seen ++ paid) in
          let three = length-append seen paid in omega arith

      seen_at : length (before ++ moved) ≡ seen_base
      seen_at = length-append before moved ∙ ap (λ k. base + k) (all_count p m (tables_of (moving_of p a)))

      cost_at : length ((before ++ moved) ++ seen) ≡ cost_base
      cost_at = length-append (before ++ moved) seen ∙ (λ i. seen_at i + all_count p m (tables_of (seen_of p a)) i)

      tables_read : Leads (at before) (at all) 3 (functions_lines p base (tables_of (moving_of p a)) ++ (functions_lines p seen_base (tables_of (seen_of p a)) ++ function_lines p cost_base (negative a.reward)))
      tables_read =
          let count = total in
          let moves = all_count p m (tables_of (moving_of p a)) in
          let sights = all_count p m (tables_of (seen_of p a)) in
          let one = count_for p m (negative a.reward) in
          let is = h.is in
          let end : ((before ++ moved) ++ seen) ++ paid ≡ all = append_assoc (before ++ moved) seen paid ∙ append_assoc before moved (seen ++ paid) in
          let low = seen_at in
          let high = cost_at in
          leads_both (at before) (at (before ++ moved)) (at all) 3 _ _
          (leads_all p m names actions init reward discount before (tables_of (moving_of p a)) (shown_moves 0 p.variables a.moves moves_of_all) (omega arith))
          (leads_both (at (before ++ moved)) (at ((before ++ moved) ++ seen)) (at all) 3 _ _
          (subst (λ b. Leads (at (before ++ moved)) (at ((before ++ moved) ++ seen)) 3 (functions_lines p b (tables_of (seen_of p a)))) low
          (leads_all p m names actions init reward discount (before ++ moved) (tables_of (seen_of p a)) (shown_sights 0 p.sights a.sight sights_of_all) (omega arith)))
          (subst (λ ds. Leads (at ((before ++ moved) ++ seen)) (at ds) 3 (function_lines p cost_base (negative a.reward))) end
          (subst (λ b. Leads (at ((before ++ moved) ++ seen)) (at (((before ++ moved) ++ seen) ++ paid)) 3 (function_lines p b (negative a.reward))) high
          (leads_lines p m names actions init reward discount ((before ++ moved) ++ seen) (negative a.reward) (cost_shown p m a.reward is.reward) (omega arith)))))

      -- ---- the block
      abbrev env : Env
      env = env_with p m all

      abbrev first : Listed
      first = nothing_listed env (length actions)

      abbrev move_list : List (Option Line)
      move_list = move_lines p m base 0 p.variables a.moves

      abbrev sight_list : List Line
      sight_list = sight_lines p m seen_base p.sights a.sight

      abbrev with_moves : Listed
      with_moves = record first { moves = map move_table move_list }

      abbrev with_sights : Listed
      with_sights = record with_moves { has_observe = true; sights = map sight_table sight_list }

      abbrev last : Listed
      last = record with_sights { cost = Some (dd_for p m (negative a.reward)).func }

      moves_listed : Lists env first with_moves 1 (move_signs move_list)
      moves_listed = lists_moves env first [] 1 move_list (none_list p m move_list (n p m) (move_count p m base 0 p.variables a.moves moves_of_all.count))
          (moves_lines p m (length actions) all fits base 0 before (seen ++ paid) p.variables a.moves moves_of_all refl refl)

      sights_listed : Lists env with_moves with_sights 1 (last_word (codes "observe") ∷ (sight_signs sight_list ++ last_word (codes "endobserve") ∷ []))
      sights_listed = lists_one env with_moves with_sights 1 _
          (writes_observe env with_moves with_sights (sight_signs sight_list) line line 1 tt tt refl
          (observes_sights env (record with_moves { has_observe = true }) [] 1 sight_list (none_list p m sight_list (length p.sights) (sight_count p m seen_base p.sights a.sight sights_of_all.count))
          (sights_lines p m (length actions) all fits seen_base 0 (before ++ moved) paid p.sights a.sight sights_of_all seen_at (sym (append_assoc before moved (seen ++ paid))))))

      cost_listed : Lists env with_sights last 1 (spaced_word (codes "cost") ∷ function_signs cost_base line (negative a.reward))
      cost_listed =
          let is = h.is in
          let end : all ≡ ((before ++ moved) ++ seen) ++ (paid ++ []) = sym (append_assoc before moved (seen ++ paid)) ∙ sym (append_assoc (before ++ moved) seen paid) ∙ ap (λ l. ((before ++ moved) ++ seen) ++ l) (sym (append-nil paid)) in
          lists_one env with_sights last 1 _
          (writes_cost env with_sights (dd_for p m (negative a.reward)) (function_signs cost_base line (negative a.reward)) 1 refl
          (is_line p m (length actions) all fits role.Reward ((before ++ moved) ++ seen) [] cost_base (negative a.reward) (cost_shown p m a.reward is.reward) (cost_mentions p m a.reward is.reward) cost_at end))

      signs_are : spaced_word (codes "action") ∷ last_word a.name ∷ ((move_signs move_list ++ ((last_word (codes "observe") ∷ (sight_signs sight_list ++ last_word (codes "endobserve") ∷ [])) ++ (spaced_word (codes "cost") ∷ function_signs cost_base line (negative a.reward)))) ++ last_word (codes "endaction") ∷ [])
          ≡ block_signs a.name base (moving_of p a) (seen_of p a) (negative a.reward)
      signs_are =
          (λ i. spaced_word (codes "action") ∷ last_word a.name ∷ ((move_signs_are p m base 0 p.variables a.moves i ++ ((last_word (codes "observe") ∷ (sight_signs_are p m seen_base p.sights a.sight i ++ last_word (codes "endobserve") ∷ [])) ++ (spaced_word (codes "cost") ∷ function_signs cost_base line (negative a.reward)))) ++ last_word (codes "endaction") ∷ []))
          ∙ (λ i. spaced_word (codes "action") ∷ last_word a.name ∷ (append_assoc (named_lines base (moving_of p a)) (observed_signs seen_base (seen_of p a) ++ (spaced_word (codes "cost") ∷ function_signs cost_base line (negative a.reward))) (last_word (codes "endaction") ∷ []) i))
          ∙ (λ i. spaced_word (codes "action") ∷ last_word a.name ∷ (named_lines base (moving_of p a) ++ append_assoc (observed_signs seen_base (seen_of p a)) (spaced_word (codes "cost") ∷ function_signs cost_base line (negative a.reward)) (last_word (codes "endaction") ∷ []) i))

      abbrev after : State
      after = state_of p m (with_name names a.name) (actions ++ draft_of a ∷ []) init reward discount (all_dds p m all)

      block_read : Leads (at all) after 1 (block_signs a.name base (moving_of p a) (seen_of p a) (negative a.reward))
      unfolding sights_of
      block_read =
          let is = h.is in
          let moves : moves_of (shape_of p) (map move_table move_list) ≡ a.moves = moves_are (shape_of p) (map move_table move_list) a.moves (moves_told p m base 0 p.variables a.moves moves_of_all) in
          let cost = means_it p m (negative a.reward) (cost_shown p m a.reward is.reward) in
          subst (λ us. Leads (at all) after 1 us) signs_are
          (subst (λ (d : Draft). Leads (at all) (state_of p m (with_name names a.name) (actions ++ d ∷ []) init reward discount (all_dds p m all)) 1 (spaced_word (codes "action") ∷ last_word a.name ∷ ((move_signs move_list ++ ((last_word (codes "observe") ∷ (sight_signs sight_list ++ last_word (codes "endobserve") ∷ [])) ++ (spaced_word (codes "cost") ∷ function_signs cost_base line (negative a.reward)))) ++ last_word (codes "endaction") ∷ [])))
          (λ i. record { name = a.name; cost = Some (cost i); moves = moves i; sights = a.sight })
          (leads_action (at all) a.name (named a.name is.name) last a.sight
          (λ word source said. ap (λ v. unless_refused (name_refusal_by (not (list_any (bytes_eq v) names)) (length actions) word.start)) said
          ∙ ap (λ b. unless_refused (name_refusal_by (not b) (length actions) word.start)) new ∙ ap (λ b. unless_refused (refused_if b word.start (kind.TooMany 256))) (not_equal (length actions) 256 (λ e. omega arith)))
          (λ place. sights_read place) _ 1
          (lists_both env first with_moves last 1 (move_signs move_list) _ moves_listed (lists_both env with_moves with_sights last 1 _ _ sights_listed cost_listed))))
        where
          sights_read : (place : ℕ) → sights_of place (map sight_table sight_list) ≡ Ok a.sight
          sights_read place = sights_told p m seen_base 0 place [] p.sights a.sight sights_of_all

      -- the lines of its functions, and the action
      pub action_read : Leads (at before) after 3 (action_signs p base a)
      action_read =
          let signs : (functions_lines p base (tables_of (moving_of p a)) ++ (functions_lines p seen_base (tables_of (seen_of p a)) ++ function_lines p cost_base (negative a.reward))) ++ block_signs a.name base (moving_of p a) (seen_of p a) (negative a.reward) ≡ action_signs p base a =
          append_assoc (functions_lines p base (tables_of (moving_of p a))) (functions_lines p seen_base (tables_of (seen_of p a)) ++ function_lines p cost_base (negative a.reward)) (block_signs a.name base (moving_of p a) (seen_of p a) (negative a.reward))
          ∙ ap (λ l. functions_lines p base (tables_of (moving_of p a)) ++ l) (append_assoc (functions_lines p seen_base (tables_of (seen_of p a))) (function_lines p cost_base (negative a.reward)) (block_signs a.name base (moving_of p a) (seen_of p a) (negative a.reward))) in
          subst (λ us. Leads (at before) after 3 us) signs
          (leads_both (at before) (at all) after 3 _ _ tables_read (deeper (AreAll IsSection) (λ source xs. in_turn (section source) (at all) xs ≡ Ok after) _ 1 3 (omega arith) block_read))

      pub next_at : length all ≡ next_base p base a
      next_at =
          let count = total in
          let moves = all_count p m (tables_of (moving_of p a)) in
          let sights = all_count p m (tables_of (seen_of p a)) in
          let one = count_for p m (negative a.reward) in omega arith

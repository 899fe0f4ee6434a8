-- What looking, fixing and setting are.
use Rattle.std.proofs.Common.{◌≡◌, ℕ, suc, ◌+◌, ◌*◌, ◌<◌, ◌≤◌, ◌==◌, false, List, [], ◌∷◌, ◌++◌, length, Some, None, Ok, refl, arith}
use Rattle.std.specs.Prelude.{ℤ, pos, codes, slice_set}
use Rattle.std.specs.List.{list_any}
use Rattle.std.specs.Str.{bytes_eq}
use Rattle.sp_syntax.specs.Grammar.{IsItem, IsTree, AreAll}
use Rattle.sp_spelled.specs.Signs.{tight, space, line, Spelled}
use Rattle.sp_spelled.specs.Shapes.{leaf, group, primed_group, spaced_word}
use Rattle.sp_spelled.specs.Words.{SpellsTicks}
use Rattle.sp_spelled.specs.Written.{IsNameWord}
use Rattle.sp_spelled.proofs.Written.{deeper}
use Rattle.sp_dd.specs.Func.{Func}
use Rattle.sp_rows.specs.declared.tables.Table.TheVariants as table
use Rattle.sp_trees.specs.declared.env.Dd.{Dd}
use Rattle.sp_trees.specs.declared.env.Env.{Env}
use Rattle.sp_trees.specs.declared.slots.Slots.{Slots}
use Rattle.sp_trees.proofs.MentionLemmas.{none_among}
use Rattle.sp_checks.specs.declared.roles.Role.TheVariants as role
use Rattle.sp_checks.specs.declared.items.Listed.{Listed}
use Rattle.sp_checks.specs.declared.state.State.{State}
use Rattle.sp_checks.specs.Roles.{allowed_slots}
use Rattle.sp_checks.specs.Accepted.{table_refusal}
use Rattle.sp_checks.specs.Actions.{item, nothing_listed}
use Rattle.sp_declarations.specs.Steps.{in_turn}
use Rattle.sp_written.specs.Meanings.{Means, WritesTree, constant_dd}
use Rattle.sp_written.proofs.Trees.{writes_reference}
use Rattle.sp_written.proofs.Lines.{Leads}
use Rattle.sp_written.proofs.Texts.{with_action}
use Rattle.sp_generated.specs.Signs.{variable_name, set_name, two_leaves, two_branches, told_signs, observe_signs, cost_signs, action_signs, blindly_signs, look_signs, fix_signs, set_signs}
use Rattle.sp_generated.proofs.Words.{look_word, fix_word, blind_word, set_word, spells_zero, spells_one, spells_half, spells_tenth, spells_nine_tenths, spells_right, spells_wrong}
use Rattle.sp_generated.proofs.Scope.{scope_of, env_of, decls}
use Rattle.sp_generated.proofs.Choices.{choice, node_of, node_holds, constant_holds, choice_whole, constant_whole, node_whole}
use Rattle.sp_generated.proofs.Roles.{move_allows, move_allows_first, sight_allows, sight_allows_first}
use Rattle.sp_generated.proofs.Trees.{writes_unprimed, writes_next, writes_hint, writes_ticks}
use Rattle.sp_written.proofs.Blocks.{Lists, lists_both}
use Rattle.sp_generated.proofs.Actions.{IsShare, share, choice_shares, sound_move, sound_sight, lists_variable, lists_observe, lists_cost, with_sight, with_cost, leads_listed}

module _ (n : ℕ) (few : n ≤ 24) where
  -- the one dd: half everywhere
  abbrev pub blind_dd : Dd
  blind_dd = constant_dd (env_of n []) (pos 500000000)

  abbrev pub blind_dds : List (List ℕ × Dd)
  blind_dds = (codes "blind", blind_dd) ∷ []

  abbrev env : Env
  env = env_of n blind_dds

  abbrev nothing : ℕ → Listed
  nothing action = nothing_listed env action

  two_ticks : (allowed_slots : Slots) (a b : List ℕ) (y z : ℕ) → SpellsTicks a (pos y) → SpellsTicks b (pos z) → WritesTree env allowed_slots (constant_dd env (pos y)) 1 (leaf a tight) × WritesTree env allowed_slots (constant_dd env (pos z)) 1 (leaf b tight)
  two_ticks allowed_slots a b y z h k = (writes_ticks n few blind_dds allowed_slots a (pos y) tight h, writes_ticks n few blind_dds allowed_slots b (pos z) tight k)

  -- ---- observing nothing, at a cost
  abbrev pub blindly : Listed → ℤ → Listed
  blindly l z = with_cost n few blind_dds (with_sight n few blind_dds l blind_dd.func) z

  lists_blindly : (l : Listed) (w : List ℕ) (z : ℤ) → l.has_observe ≡ false → l.sights ≡ None ∷ [] → l.cost ≡ None → SpellsTicks w z → Lists env l (blindly l z) 1 (blindly_signs w)
  lists_blindly l w z new none free h =
      lists_both env l (with_sight n few blind_dds l blind_dd.func) (blindly l z) 1 (observe_signs (leaf (codes "blind") space)) (cost_signs w)
      (lists_observe n few blind_dds l 1 (leaf (codes "blind") space) blind_dd new none
      (sound_sight n few blind_dds l.action blind_dd refl (constant_holds n few blind_dds IsShare (pos 500000000) (share 500000000 (omega arith))) (constant_whole n few blind_dds (2 * n) (omega arith) (pos 500000000) refl))
      (writes_reference env (allowed_slots (scope_of n) (role.Table (table.Sight 0))) (codes "blind") blind_dd space blind_word refl (none_among (allowed_slots (scope_of n) (role.Table (table.Sight 0))))))
      (lists_cost n few blind_dds (with_sight n few blind_dds l blind_dd.func) w z free h)

  deep : (l m : Listed) (us : List Spelled) (depth : ℕ) → depth ≤ 5 → Lists env l m depth us → Lists env l m 5 us
  deep l m us depth h part = deeper (AreAll IsItem) (λ source xs. in_turn (item env source) l xs ≡ Ok m) us depth 5 h part

  -- ---- looking
  abbrev told : ℕ → ℕ → Dd
  told a b = choice n few blind_dds (2 * n) (pos a) (pos b)

  abbrev pub look_dd : Dd
  look_dd = node_of n few blind_dds 1 (told 850000000 150000000) (told 150000000 850000000)

  abbrev pub looked : ℕ → Listed
  looked action = with_cost n few blind_dds (with_sight n few blind_dds (nothing action) look_dd.func) (pos 100000000)

  module _ (some : 1 ≤ n) where
    look_sound : (action at : ℕ) → table_refusal (length (decls 1 n)) action (table.Sight 0) at look_dd.func ≡ None
    look_sound action at = sound_sight n few blind_dds action look_dd refl
        (node_holds n few blind_dds IsShare 1 (told 850000000 150000000) (told 150000000 850000000) (omega arith)
        (choice_shares n few blind_dds (2 * n) 850000000 150000000 (omega arith) (omega arith) (omega arith)) (choice_shares n few blind_dds (2 * n) 150000000 850000000 (omega arith) (omega arith) (omega arith)))
        (node_whole n few blind_dds (2 * n) (omega arith) 1 (told 850000000 150000000) (told 150000000 850000000) (omega arith) (λ e. omega arith)
        (choice_whole n few blind_dds (2 * n) (omega arith) (pos 850000000) (pos 150000000) refl) (choice_whole n few blind_dds (2 * n) (omega arith) (pos 150000000) (pos 850000000) refl)) at

    look_written : WritesTree env (allowed_slots (scope_of n) (role.Table (table.Sight 0))) look_dd 5
        (primed_group (variable_name 1) (two_branches (told_signs (codes "0.85") (codes "0.15")) (told_signs (codes "0.15") (codes "0.85"))) space)
    look_written =
        let own : Slots = allowed_slots (scope_of n) (role.Table (table.Sight 0)) in
        let right = two_ticks (allowed_slots (scope_of n) (role.Table (table.Sight 0))) (codes "0.85") (codes "0.15") 850000000 150000000 spells_right spells_wrong in
        let wrong = two_ticks (allowed_slots (scope_of n) (role.Table (table.Sight 0))) (codes "0.15") (codes "0.85") 150000000 850000000 spells_wrong spells_right in
        writes_next n few blind_dds (allowed_slots (scope_of n) (role.Table (table.Sight 0))) 0 3 (told_signs (codes "0.85") (codes "0.15")) (told_signs (codes "0.15") (codes "0.85")) (told 850000000 150000000) (told 150000000 850000000) space (omega arith)
        (writes_hint n few blind_dds (allowed_slots (scope_of n) (role.Table (table.Sight 0))) 1 (leaf (codes "0.85") tight) (leaf (codes "0.15") tight) (constant_dd env (pos 850000000)) (constant_dd env (pos 150000000)) tight right.0 right.1 (sight_allows n))
        (writes_hint n few blind_dds (allowed_slots (scope_of n) (role.Table (table.Sight 0))) 1 (leaf (codes "0.15") tight) (leaf (codes "0.85") tight) (constant_dd env (pos 150000000)) (constant_dd env (pos 850000000)) tight wrong.0 wrong.1 (sight_allows n))
        (sight_allows_first n (omega arith))

    pub leads_look : (s : State) → s.env ≡ env → list_any (bytes_eq (codes "look")) s.names ≡ false → (length s.actions == 256) ≡ false
        → Leads s (with_action s (codes "look") look_word (looked (length s.actions)) (look_dd.func ∷ [])) 5 (look_signs (variable_name 1))
    leads_look s same new room = leads_listed n few blind_dds s (codes "look") look_word (looked (length s.actions)) look_dd.func _ 5 same new room refl
        (lists_both env (nothing (length s.actions)) (with_sight n few blind_dds (nothing (length s.actions)) look_dd.func) (looked (length s.actions)) 5 _ (cost_signs (codes "0.1"))
        (lists_observe n few blind_dds (nothing (length s.actions)) 5 _ look_dd refl refl (look_sound (length s.actions)) look_written)
        (deep (with_sight n few blind_dds (nothing (length s.actions)) look_dd.func) (looked (length s.actions)) (cost_signs (codes "0.1")) 1 (omega arith)
        (lists_cost n few blind_dds (with_sight n few blind_dds (nothing (length s.actions)) look_dd.func) (codes "0.1") (pos 100000000) refl spells_tenth)))

  -- ---- an action that changes one variable
  abbrev with_move : Listed → ℕ → Func → Listed
  with_move l k f = record l { moves = slice_set l.moves k (Some f) }

  abbrev pub moved : ℕ → ℕ → Func → ℤ → Listed
  moved action k f z = blindly (with_move (nothing action) k f) z

  leads_moved : (s : State) (w : List ℕ) (named : IsNameWord w) (k : ℕ) (d : Dd) (us : List Spelled) (c : List ℕ) (z : ℤ) → s.env ≡ env → list_any (bytes_eq w) s.names ≡ false → (length s.actions == 256) ≡ false → k < n
      → ((at : ℕ) → table_refusal (length (decls 1 n)) (length s.actions) (table.Move k) at d.func ≡ None) → WritesTree env (allowed_slots (scope_of n) (role.Table (table.Move k))) d 5 us → SpellsTicks c z
      → Leads s (with_action s w named (moved (length s.actions) k d.func z) (blind_dd.func ∷ [])) 5 (action_signs w ((spaced_word (variable_name (suc k)) ∷ us) ++ blindly_signs c))
  leads_moved s w named k d us c z same new room l sound part cost = leads_listed n few blind_dds s w named (moved (length s.actions) k d.func z) blind_dd.func _ 5 same new room refl
      (lists_both env (nothing (length s.actions)) (with_move (nothing (length s.actions)) k d.func) (moved (length s.actions) k d.func z) 5 (spaced_word (variable_name (suc k)) ∷ us) (blindly_signs c)
      (lists_variable n few blind_dds (nothing (length s.actions)) k 5 us d l refl sound part)
      (deep (with_move (nothing (length s.actions)) k d.func) (moved (length s.actions) k d.func z) (blindly_signs c) 1 (omega arith)
      (lists_blindly (with_move (nothing (length s.actions)) k d.func) c z refl refl refl cost)))

  -- ---- fixing
  abbrev pub fix_dd : Dd
  fix_dd = node_of n few blind_dds 0 (choice n few blind_dds 1 (pos 100000000) (pos 900000000)) (choice n few blind_dds 1 (pos 0) (pos 1000000000))

  abbrev pub fixed : ℕ → Listed
  fixed action = moved action 0 fix_dd.func (pos 1000000000)

  module _ (some : 1 ≤ n) where
    fix_written : WritesTree env (allowed_slots (scope_of n) (role.Table (table.Move 0))) fix_dd 5
        (group (variable_name 1) (two_branches (primed_group (variable_name 1) (two_leaves (codes "0.1") (codes "0.9")) tight) (primed_group (variable_name 1) (two_leaves (codes "0.0") (codes "1.0")) tight)) line)
    fix_written =
        let off = two_ticks (allowed_slots (scope_of n) (role.Table (table.Move 0))) (codes "0.1") (codes "0.9") 100000000 900000000 spells_tenth spells_nine_tenths in
        let on = two_ticks (allowed_slots (scope_of n) (role.Table (table.Move 0))) (codes "0.0") (codes "1.0") 0 1000000000 spells_zero spells_one in
        writes_unprimed n few blind_dds (allowed_slots (scope_of n) (role.Table (table.Move 0))) 0 3 (primed_group (variable_name 1) (two_leaves (codes "0.1") (codes "0.9")) tight) (primed_group (variable_name 1) (two_leaves (codes "0.0") (codes "1.0")) tight)
        (choice n few blind_dds 1 (pos 100000000) (pos 900000000)) (choice n few blind_dds 1 (pos 0) (pos 1000000000)) line (omega arith)
        (writes_next n few blind_dds (allowed_slots (scope_of n) (role.Table (table.Move 0))) 0 1 (leaf (codes "0.1") tight) (leaf (codes "0.9") tight) (constant_dd env (pos 100000000)) (constant_dd env (pos 900000000)) tight (omega arith) off.0 off.1 (move_allows n 0 (omega arith)))
        (writes_next n few blind_dds (allowed_slots (scope_of n) (role.Table (table.Move 0))) 0 1 (leaf (codes "0.0") tight) (leaf (codes "1.0") tight) (constant_dd env (pos 0)) (constant_dd env (pos 1000000000)) tight (omega arith) on.0 on.1 (move_allows n 0 (omega arith)))
        (move_allows_first n 0 (omega arith))

    fix_sound : (action at : ℕ) → table_refusal (length (decls 1 n)) action (table.Move 0) at fix_dd.func ≡ None
    fix_sound action at = sound_move n few blind_dds action 0 fix_dd (omega arith) refl
        (node_holds n few blind_dds IsShare 0 (choice n few blind_dds 1 (pos 100000000) (pos 900000000)) (choice n few blind_dds 1 (pos 0) (pos 1000000000)) (omega arith)
        (choice_shares n few blind_dds 1 100000000 900000000 (omega arith) (omega arith) (omega arith)) (choice_shares n few blind_dds 1 0 1000000000 (omega arith) (omega arith) (omega arith)))
        (node_whole n few blind_dds 1 (omega arith) 0 (choice n few blind_dds 1 (pos 100000000) (pos 900000000)) (choice n few blind_dds 1 (pos 0) (pos 1000000000)) (omega arith) (λ e. omega arith)
        (choice_whole n few blind_dds 1 (omega arith) (pos 100000000) (pos 900000000) refl) (choice_whole n few blind_dds 1 (omega arith) (pos 0) (pos 1000000000) refl)) at

    pub leads_fix : (s : State) → s.env ≡ env → list_any (bytes_eq (codes "fix")) s.names ≡ false → (length s.actions == 256) ≡ false
        → Leads s (with_action s (codes "fix") fix_word (fixed (length s.actions)) (blind_dd.func ∷ [])) 5 (fix_signs (variable_name 1))
    leads_fix s same new room = leads_moved s (codes "fix") fix_word 0 fix_dd _ (codes "1.0") (pos 1000000000) same new room (omega arith) (fix_sound (length s.actions)) fix_written spells_one

  -- ---- setting
  abbrev pub set_dd : ℕ → Dd
  set_dd k = choice n few blind_dds (2 * k + 1) (pos 0) (pos 1000000000)

  abbrev pub switched : ℕ → ℕ → Listed
  switched k action = moved action k (set_dd k).func (pos 500000000)

  module _ (k : ℕ) (l : k < n) where
    set_written : WritesTree env (allowed_slots (scope_of n) (role.Table (table.Move k))) (set_dd k) 3 (primed_group (variable_name (suc k)) (two_leaves (codes "0.0") (codes "1.0")) line)
    set_written =
        let on = two_ticks (allowed_slots (scope_of n) (role.Table (table.Move k))) (codes "0.0") (codes "1.0") 0 1000000000 spells_zero spells_one in
        writes_next n few blind_dds (allowed_slots (scope_of n) (role.Table (table.Move k))) k 1 (leaf (codes "0.0") tight) (leaf (codes "1.0") tight) (constant_dd env (pos 0)) (constant_dd env (pos 1000000000)) line l on.0 on.1 (move_allows n k l)

    set_sound : (action at : ℕ) → table_refusal (length (decls 1 n)) action (table.Move k) at (set_dd k).func ≡ None
    set_sound action at = sound_move n few blind_dds action k (set_dd k) l refl (choice_shares n few blind_dds (2 * k + 1) 0 1000000000 (omega arith) (omega arith) (omega arith))
        (choice_whole n few blind_dds (2 * k + 1) (omega arith) (pos 0) (pos 1000000000) refl) at

    pub leads_set : (s : State) → s.env ≡ env → list_any (bytes_eq (set_name (suc k))) s.names ≡ false → (length s.actions == 256) ≡ false
        → Leads s (with_action s (set_name (suc k)) (set_word (suc k) (omega arith)) (switched k (length s.actions)) (blind_dd.func ∷ [])) 5 (set_signs (suc k))
    leads_set s same new room = leads_moved s (set_name (suc k)) (set_word (suc k) (omega arith)) k (set_dd k) _ (codes "0.5") (pos 500000000) same new room l (set_sound (length s.actions))
        (deeper IsTree (Means env (allowed_slots (scope_of n) (role.Table (table.Move k))) (set_dd k)) _ 3 5 (omega arith) set_written) spells_half

-- The actions of a generated text.
use Rattle.std.proofs.Common.{◌≡◌, ℕ, suc, ◌+◌, ◌*◌, ◌<◌, ◌≤◌, ◌==◌, true, false, List, [], ◌∷◌, length, replicate, Option, Some, None, Ok, sym, ap, ◌∙◌, subst, arith}
use Rattle.std.specs.Prelude.{ℤ, pos, ◌≤ℤ◌, codes, is_some, not, slice_index_or, slice_set}
use Rattle.std.specs.List.{list_any}
use Rattle.std.specs.Str.{bytes_eq}
use Rattle.std.proofs.lemmas.Int.{ints}
use Rattle.std.proofs.lemmas.List.{get_or-replicate}
use Rattle.sp_syntax.specs.Grammar.{IsItem, IsObserved, AreAll}
use Rattle.sp_spelled.specs.Signs.{space, line, Spelled}
use Rattle.sp_spelled.specs.Shapes.{spaced_word}
use Rattle.sp_spelled.specs.Words.{SpellsTicks}
use Rattle.sp_spelled.specs.Written.{Written, IsNameWord}
use Rattle.sp_spelled.proofs.Written.{written_alone}
use Rattle.sp_dd.specs.Floors.{ticks}
use Rattle.sp_dd.specs.Points.{IsPoint}
use Rattle.sp_dd.specs.Func.{Shape, Func, IsScope, Everywhere, value_of}
use Rattle.sp_dd.specs.Operations.{summed_out}
use Rattle.sp_rows.specs.declared.tables.Table.TheVariants as table
use Rattle.sp_rows.specs.Tables.{slot_of}
use Rattle.sp_trees.specs.declared.refusal.ModelKind.TheVariants as kind
use Rattle.sp_trees.specs.declared.env.Dd.{Dd}
use Rattle.sp_trees.specs.declared.env.Env.{Env}
use Rattle.sp_trees.specs.Refusals.{refused_if}
use Rattle.sp_declarations.specs.Steps.{unless_refused, in_turn}
use Rattle.sp_checks.specs.declared.roles.Role.TheVariants as role
use Rattle.sp_checks.specs.declared.items.Listed.{Listed}
use Rattle.sp_checks.specs.declared.state.State.{State}
use Rattle.sp_checks.specs.Roles.{allowed_slots}
use Rattle.sp_checks.specs.Accepted.{table_refusal}
use Rattle.sp_checks.specs.Actions.{item, observe_entry, nothing_listed, sights_of, sight_step, name_refusal_by}
use Rattle.sp_written.specs.Meanings.{WritesTree, constant_dd}
use Rattle.sp_written.proofs.Tests.{sound_table}
use Rattle.sp_written.proofs.Lines.{Leads, in_turn_alone}
use Rattle.sp_written.proofs.Blocks.{Lists, lists_one}
use Rattle.sp_written.proofs.Items.{writes_variable, writes_observed, writes_observe, writes_cost}
use Rattle.sp_written.proofs.Texts.{with_action, leads_action}
use Rattle.sp_generated.specs.Signs.{variable_name, observe_signs, cost_signs, action_signs}
use Rattle.sp_generated.proofs.Words.{variable_word, hint_word}
use Rattle.sp_generated.proofs.Scope.{scope_of, env_of, decls, decls_count, is_scope, variable_place, hint_place}
use Rattle.sp_generated.proofs.Choices.{choice, node_holds, constant_holds, IsWhole, sum_is_one}
use Rattle.sp_generated.proofs.Trees.{writes_ticks}

-- a value of a table
abbrev pub IsShare : ℤ → Type 0
IsShare v = (pos 0 ≤ℤ v) × (v ≤ℤ pos ticks)

pub share : (z : ℕ) → z ≤ 1000000000 → IsShare (pos z)
share z l = ((omega (arith, ints)), (omega (arith, ints)))

sights_one : (at : ℕ) (f : Func) (ts : List (Option Func)) → ts ≡ Some f ∷ [] → sights_of at ts ≡ Ok (f ∷ [])
unfolding sights_of in_turn
sights_one at f ts e = ap (λ l. in_turn (sight_step at) [] l) e

module _ (n : ℕ) (few : n ≤ 24) (dds : List (List ℕ × Dd)) where
  -- ---- tables
  pub choice_shares : (slot a b : ℕ) → slot < 2 * n + 1 → a ≤ 1000000000 → b ≤ 1000000000 → Everywhere (choice n few dds slot (pos a) (pos b)).func IsShare
  choice_shares slot a b l h k = node_holds n few dds IsShare slot (constant_dd (env_of n dds) (pos a)) (constant_dd (env_of n dds) (pos b)) l (constant_holds n few dds IsShare (pos a) (share a h)) (constant_holds n few dds IsShare (pos b) (share b k))

  pub sound_move : (action k : ℕ) (d : Dd) → k < n → d.func.shape ≡ scope_of n → ((x : List ℕ) → IsPoint (scope_of n).sizes x → IsShare (value_of d.func x)) → IsWhole n few dds (2 * k + 1) d.func
      → (at : ℕ) → table_refusal (length (decls 1 n)) action (table.Move k) at d.func ≡ None
  sound_move action k d l shape shares whole at = sound_table (length (decls 1 n)) action (table.Move k) at d.func (subst (λ (s : Shape). IsScope s) (sym shape) (is_scope n few))
      (λ x p. shares x (subst (λ (s : Shape). IsPoint s.sizes x) shape p)) (sum_is_one n few dds (2 * k + 1) (omega arith) d.func shape whole)

  pub sound_sight : (action : ℕ) (d : Dd) → d.func.shape ≡ scope_of n → ((x : List ℕ) → IsPoint (scope_of n).sizes x → IsShare (value_of d.func x)) → IsWhole n few dds (2 * n) d.func
      → (at : ℕ) → table_refusal (length (decls 1 n)) action (table.Sight 0) at d.func ≡ None
  sound_sight action d shape shares whole at =
      let slot : 2 * n ≡ 2 * length (decls 1 n) + 0 = (let c = decls_count 1 n in omega arith) in
      let same : 2 * n ≡ slot_of d.func.shape.variables (table.Sight 0) = slot ∙ ap (λ (s : Shape). 2 * s.variables + 0) (sym shape) in
      sound_table (length (decls 1 n)) action (table.Sight 0) at d.func (subst (λ (s : Shape). IsScope s) (sym shape) (is_scope n few))
      (λ x p. shares x (subst (λ (s : Shape). IsPoint s.sizes x) shape p))
      (subst (λ k. Everywhere (summed_out d.func k) (λ v. v ≡ pos ticks)) same (sum_is_one n few dds (2 * n) (omega arith) d.func shape whole))

  -- ---- items
  pub lists_variable : (l : Listed) (k depth : ℕ) (us : List Spelled) (d : Dd) → k < n → l.moves ≡ replicate (length (decls 1 n)) None → ((at : ℕ) → table_refusal (length (decls 1 n)) l.action (table.Move k) at d.func ≡ None)
      → WritesTree (env_of n dds) (allowed_slots (scope_of n) (role.Table (table.Move k))) d depth us → Lists (env_of n dds) l (record l { moves = slice_set l.moves k (Some d.func) }) depth (spaced_word (variable_name (suc k)) ∷ us)
  lists_variable l k depth us d h none sound part =
      lists_one (env_of n dds) l (record l { moves = slice_set l.moves k (Some d.func) }) depth (spaced_word (variable_name (suc k)) ∷ us)
      (writes_variable (env_of n dds) l (variable_name (suc k)) (variable_word (suc k) (omega arith)) d us depth k (variable_place n few dds k h)
      (ap (λ ts. is_some (slice_index_or ts k None)) none ∙ (let c = decls_count 1 n in ap is_some (get_or-replicate (length (decls 1 n)) k None None (omega arith)))) sound part)

  abbrev pub with_sight : Listed → Func → Listed
  with_sight l f = record l { has_observe = true; sights = slice_set l.sights 0 (Some f) }

  pub lists_observe : (l : Listed) (depth : ℕ) (us : List Spelled) (d : Dd) → l.has_observe ≡ false → l.sights ≡ None ∷ [] → ((at : ℕ) → table_refusal (length (decls 1 n)) l.action (table.Sight 0) at d.func ≡ None)
      → WritesTree (env_of n dds) (allowed_slots (scope_of n) (role.Table (table.Sight 0))) d depth us → Lists (env_of n dds) l (with_sight l d.func) depth (observe_signs us)
  lists_observe l depth us d new none sound part =
      lists_one (env_of n dds) l (with_sight l d.func) depth (observe_signs us)
      (writes_observe (env_of n dds) l (with_sight l d.func) (spaced_word (codes "hint") ∷ us) space line depth tt tt new
      (written_alone IsObserved (λ source x. observe_entry (env_of n dds) source (record l { has_observe = true }) x ≡ Ok (with_sight l d.func))
      (λ source xs. in_turn (observe_entry (env_of n dds) source) (record l { has_observe = true }) xs ≡ Ok (with_sight l d.func)) (spaced_word (codes "hint") ∷ us) depth
      (writes_observed (env_of n dds) (record l { has_observe = true }) (codes "hint") hint_word d us depth 0 (hint_place n few dds) (ap (λ ts. is_some (slice_index_or ts 0 None)) none) sound part)
      (λ source x h. in_turn_alone (observe_entry (env_of n dds) source) (record l { has_observe = true }) (with_sight l d.func) x h)))

  abbrev pub with_cost : Listed → ℤ → Listed
  with_cost l z = record l { cost = Some (constant_dd (env_of n dds) z).func }

  pub lists_cost : (l : Listed) (w : List ℕ) (z : ℤ) → l.cost ≡ None → SpellsTicks w z → Lists (env_of n dds) l (with_cost l z) 1 (cost_signs w)
  lists_cost l w z new h =
      lists_one (env_of n dds) l (with_cost l z) 1 (cost_signs w) (writes_cost (env_of n dds) l (constant_dd (env_of n dds) z) _ 1 new (writes_ticks n few dds (allowed_slots (scope_of n) role.Reward) w z line h))

  -- ---- the action
  pub leads_listed : (s : State) (w : List ℕ) (named : IsNameWord w) (l : Listed) (f : Func) (us : List Spelled) (depth : ℕ) → s.env ≡ env_of n dds → list_any (bytes_eq w) s.names ≡ false → (length s.actions == 256) ≡ false → l.sights ≡ Some f ∷ []
      → Lists (env_of n dds) (nothing_listed (env_of n dds) (length s.actions)) l depth us → Leads s (with_action s w named l (f ∷ [])) depth (action_signs w us)
  leads_listed s w named l f us depth env new room one part = leads_action s w named l (f ∷ [])
      (λ at source said. ap (λ v. unless_refused (name_refusal_by (not (list_any (bytes_eq v) s.names)) (length s.actions) at.start)) said
      ∙ ap (λ b. unless_refused (name_refusal_by (not b) (length s.actions) at.start)) new ∙ ap (λ b. unless_refused (refused_if b at.start (kind.TooMany 256))) room)
      (λ at. sights_one at f l.sights one) us depth
      (subst (λ (e : Env). Written (AreAll IsItem) (λ source xs. in_turn (item e source) (nothing_listed e (length s.actions)) xs ≡ Ok l) depth us) (sym env) part)

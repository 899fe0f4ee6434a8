-- Items of an action as they are spelled.
use Rattle.std.proofs.Common.{◌≡◌, ℕ, true, false, List, [], ◌∷◌, ◌++◌, Option, Some, None, ap, ◌∙◌}
use Rattle.std.specs.Prelude.{Ok, is_some, codes, slice_set}
use Rattle.sp_dd.specs.Func.{Func}
use Rattle.sp_lex.specs.declared.lexeme.Span.{Span}
use Rattle.sp_syntax.specs.declared.text.Tree.{Tree}
use Rattle.sp_syntax.specs.declared.text.Observed.{Observed}
use Rattle.sp_syntax.specs.Grammar.{IsItem, IsObserved, AreAll}
use Rattle.sp_spelled.specs.Signs.{word, Gap, IsWhite, Spelled}
use Rattle.sp_spelled.specs.Written.{Written}
use Rattle.sp_spelled.specs.Shapes.{sign, spaced_word}
use Rattle.sp_spelled.specs.Written.{IsNameWord}
use Rattle.sp_spelled.proofs.Sections.{written_variable, written_observed, written_observe, written_cost}
use Rattle.sp_rows.specs.declared.tables.Table.{Table}
use Rattle.sp_rows.specs.declared.tables.Table.TheVariants as table
use Rattle.sp_trees.specs.declared.refusal.ModelKind.TheVariants as kind
use Rattle.sp_trees.specs.declared.env.Dd.{Dd}
use Rattle.sp_trees.specs.declared.env.Env.{Env}
use Rattle.sp_trees.specs.declared.judged.Judged.{Judged}
use Rattle.sp_trees.specs.declared.nodes.Place.{Place}
use Rattle.sp_trees.specs.declared.nodes.Place.TheVariants.{Variable, Sight}
use Rattle.sp_trees.specs.Refusals.{refused_if}
use Rattle.sp_trees.specs.Words.{text}
use Rattle.sp_trees.specs.Nodes.{place_of}
use Rattle.sp_written.specs.Meanings.{Means, WritesTree}
use Rattle.sp_declarations.specs.Steps.{◌>>=◌, unless_refused, in_turn}
use Rattle.sp_checks.specs.declared.roles.Role.{Role}
use Rattle.sp_checks.specs.declared.roles.Role.TheVariants as role
use Rattle.sp_checks.specs.declared.accepted.Accepted.{Accepted}
use Rattle.sp_checks.specs.declared.items.Listed.{Listed}
use Rattle.sp_checks.specs.Roles.{start_of, allowed_slots}
use Rattle.sp_checks.specs.Accepted.{accepted, accepted_by, table_of, table_refusal, checked_table}
use Rattle.sp_checks.specs.Actions.{is_listed, place_of_name, named_by, unlisted_by, variable, variable_at, observe_entry, observed_at, observed_in_turn, begun_observe, observe, cost, item}

module _ (env : Env) where
  pub accepted_ok : (source : List ℕ) (r : Role) (t : Tree) (d : Dd) → Means env (allowed_slots env.scope r) d source t → accepted env source r t ≡ Ok (record { mentions = d.mentions; func = d.func })
  unfolding accepted
  accepted_ok source r t d means = ap (λ (j : Judged). accepted_by j.mentions j.outcome) means

  -- a table whose values aren't refused
  abbrev pub IsSound : ℕ → Table → Func → Type 0
  IsSound action t f = (at : ℕ) → table_refusal env.scope.variables action t at f ≡ None

  pub table_ok : (source : List ℕ) (action : ℕ) (t : Table) (tree : Tree) (d : Dd) → Means env (allowed_slots env.scope (role.Table t)) d source tree → IsSound action t d.func → table_of env source action t tree ≡ Ok d.func
  unfolding table_of
  table_ok source action t tree d means sound =
      ap (λ o. o >>= λ (a : Accepted). (checked_table env.scope.variables action t (start_of tree) a.func >>= λ _. Ok a.func)) (accepted_ok source (role.Table t) tree d means)
      ∙ ap (λ r. unless_refused r >>= λ _. Ok d.func) (sound (start_of tree))

  named_ok : (source : List ℕ) (l : Listed) (at : Span) (w : List ℕ) (p : Place) → text source at ≡ w → place_of env w ≡ Some p → is_listed l p ≡ false → place_of_name env source l at ≡ Ok p
  unfolding place_of_name
  named_ok source l at w p said place new = ap (λ v. named_by l at.start (place_of env v)) said ∙ ap (named_by l at.start) place ∙ ap (unlisted_by at.start p) new

  module _ (l : Listed) (w : List ℕ) (h : IsNameWord w) (d : Dd) (us : List Spelled) (depth : ℕ) where
    variable_read : (source : List ℕ) (i : ℕ) (n : Span) (t : Tree) → place_of env w ≡ Some (Variable i) → is_listed l (Variable i) ≡ false → IsSound l.action (table.Move i) d.func
        → text source n ≡ w → Means env (allowed_slots env.scope (role.Table (table.Move i))) d source t → variable env source l n t ≡ Ok (record l { moves = slice_set l.moves i (Some d.func) })
    unfolding variable
    variable_read source i n t place new sound said means =
        ap (λ o. o >>= λ p. variable_at env source l n t p) (named_ok source l n w (Variable i) said place new)
        ∙ ap (λ o. o >>= λ f. Ok (record l { moves = slice_set l.moves i (Some f) })) (table_ok source l.action (table.Move i) t d means sound)

    -- the line of a variable
    pub writes_variable : (i : ℕ) → place_of env w ≡ Some (Variable i) → is_listed l (Variable i) ≡ false → IsSound l.action (table.Move i) d.func → WritesTree env (allowed_slots env.scope (role.Table (table.Move i))) d depth us
        → Written IsItem (λ source x. item env source l x ≡ Ok (record l { moves = slice_set l.moves i (Some d.func) })) depth (spaced_word w ∷ us)
    writes_variable i place new sound part = written_variable us depth (Means env (allowed_slots env.scope (role.Table (table.Move i))) d) part w h _ (λ source n t said means. variable_read source i n t place new sound said means)

    observed_read : (source : List ℕ) (j : ℕ) (n : Span) (t : Tree) → place_of env w ≡ Some (Sight j) → is_listed l (Sight j) ≡ false → IsSound l.action (table.Sight j) d.func
        → text source n ≡ w → Means env (allowed_slots env.scope (role.Table (table.Sight j))) d source t → observe_entry env source l (record { name = n; tree = t }) ≡ Ok (record l { sights = slice_set l.sights j (Some d.func) })
    unfolding observe_entry
    observed_read source j n t place new sound said means =
        ap (λ o. o >>= λ p. observed_at env source l (record { name = n; tree = t }) p) (named_ok source l n w (Sight j) said place new)
        ∙ ap (λ o. o >>= λ f. Ok (record l { sights = slice_set l.sights j (Some f) })) (table_ok source l.action (table.Sight j) t d means sound)

    pub writes_observed : (j : ℕ) → place_of env w ≡ Some (Sight j) → is_listed l (Sight j) ≡ false → IsSound l.action (table.Sight j) d.func → WritesTree env (allowed_slots env.scope (role.Table (table.Sight j))) d depth us
        → Written IsObserved (λ source x. observe_entry env source l x ≡ Ok (record l { sights = slice_set l.sights j (Some d.func) })) depth (spaced_word w ∷ us)
    writes_observed j place new sound part = written_observed us depth (Means env (allowed_slots env.scope (role.Table (table.Sight j))) d) part w h _ (λ source n t said means. observed_read source j n t place new sound said means)

  -- the list of observe
  pub writes_observe : (l m : Listed) (us : List Spelled) (g h : Gap) (depth : ℕ) → IsWhite g → IsWhite h → l.has_observe ≡ false → Written (AreAll IsObserved) (λ source xs. in_turn (observe_entry env source) (record l { has_observe = true }) xs ≡ Ok m) depth us
      → Written IsItem (λ source x. item env source l x ≡ Ok m) depth (sign (word (codes "observe")) g ∷ (us ++ sign (word (codes "endobserve")) h ∷ []))
  unfolding observe begun_observe
  writes_observe l m us g h depth wg wh new part = written_observe us g h depth _ _ wg wh part (λ source k list e read. observe_read source k list new read)
    where
      observe_read : (source : List ℕ) (k : Span) (list : List Observed) → l.has_observe ≡ false → in_turn (observe_entry env source) (record l { has_observe = true }) list ≡ Ok m → observe env source l k list ≡ Ok m
      observe_read source k list new read =
          ap (λ o. o >>= λ n. observed_in_turn env source n list) (ap (λ b. unless_refused (refused_if b k.start kind.RepeatedName) >>= λ _. Ok (record l { has_observe = true })) new) ∙ read

  -- the cost
  pub writes_cost : (l : Listed) (d : Dd) (us : List Spelled) (depth : ℕ) → l.cost ≡ None → WritesTree env (allowed_slots env.scope role.Reward) d depth us
      → Written IsItem (λ source x. item env source l x ≡ Ok (record l { cost = Some d.func })) depth (spaced_word (codes "cost") ∷ us)
  unfolding cost
  writes_cost l d us depth new part = written_cost us depth (Means env (allowed_slots env.scope role.Reward) d) part _ (λ source k t means. cost_read source k t new means)
    where
      cost_read : (source : List ℕ) (k : Span) (t : Tree) → l.cost ≡ None → Means env (allowed_slots env.scope role.Reward) d source t → cost env source l k t ≡ Ok (record l { cost = Some d.func })
      cost_read source k t new means =
          ap (λ (o : Option Func). unless_refused (refused_if (is_some o) k.start kind.RepeatedName) >>= λ _. (accepted env source role.Reward t >>= λ a. Ok (record l { cost = Some a.func }))) new
          ∙ ap (λ o. o >>= λ (a : Accepted). Ok (record l { cost = Some a.func })) (accepted_ok source role.Reward t d means)

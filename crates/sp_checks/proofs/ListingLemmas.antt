-- What the items of an action keep.
use Rattle.std.proofs.Common.{◌≡◌, ◌≢◌, ℕ, ◌<◌, ◌==◌, Bool, true, false, List, Ok, refl, sym, subst, ◌∙◌, arith, length, ◌⊎◌, inl, inr}
use Rattle.std.specs.Prelude.{Option, Some, None, IfSome, slice_index_or, slice_set}
use Rattle.std.proofs.lemmas.Bool.Decides.{eqb_tells}
use Rattle.std.proofs.lemmas.List.{get_or-set_other, get_or-set_same, get_or-replicate}
use Rattle.std.proofs.Math.ListN.{length-set, length-replicate}
use Rattle.sp_dd.specs.Func.{Func}
use Rattle.sp_lex.specs.declared.lexeme.Span.{Span}
use Rattle.sp_syntax.specs.declared.text.Tree.{Tree}
use Rattle.sp_syntax.specs.declared.text.Observed.{Observed}
use Rattle.sp_syntax.specs.declared.text.Item.{Item}
use Rattle.sp_syntax.specs.declared.text.Item.TheVariants as item_of
use Rattle.sp_model.specs.Kept.{IsTransitionTable, IsSight}
use Rattle.sp_trees.specs.declared.env.Env.{Env}
use Rattle.sp_trees.specs.declared.nodes.Place.{Place}
use Rattle.sp_trees.specs.declared.nodes.Place.TheVariants.{Variable, Sight}
use Rattle.sp_trees.specs.Words.{text}
use Rattle.std.proofs.lemmas.List.Quantifiers.{position-Some}
use Rattle.std.specs.Str.{bytes_eq}
use Rattle.sp_model.specs.Problem.{no_decl}
use Rattle.sp_trees.specs.Nodes.{IsPlace, place_by, place_of, number_of_decl}
use Rattle.sp_trees.specs.declared.refusal.ModelKind.TheVariants as kind
use Rattle.sp_trees.specs.Refusals.{refused_if}
use Rattle.sp_declarations.specs.Steps.{◌>>=◌, unless_refused}
use Rattle.sp_checks.specs.declared.roles.Role.TheVariants as role
use Rattle.sp_checks.specs.declared.items.Listed.{Listed}
use Rattle.sp_checks.specs.Accepted.{accepted}
use Rattle.sp_checks.specs.Actions.{is_listed, unlisted_by, named_by, place_of_name, variable_at, variable, observed_at, observe_entry, begun_observe, observe, checked_cost, cost, item, nothing_listed, items}
use Rattle.sp_checks.specs.Kept.{IsFitEnv, IsListing}
use Rattle.sp_declarations.proofs.StepLemmas.{stood, turns_keep}
use Rattle.sp_checks.proofs.TableLemmas.{table_move, table_sight, worth_kept}

-- a list of tables with one more
pub put_keeps : (P : ℕ → Func → Type 0) (ts : List (Option Func)) (i : ℕ) (f : Func) → ((k : ℕ) (d : Option Func) → k < length ts → IfSome (slice_index_or ts k d) (P k)) → i < length ts → P i f
    → (k : ℕ) (d : Option Func) → k < length (slice_set ts i (Some f)) → IfSome (slice_index_or (slice_set ts i (Some f)) k d) (P k)
put_keeps P ts i f h l p k d m = go (eqb_tells k i)
  where
    go : ((k == i) ≡ true) × (k ≡ i) ⊎ ((k == i) ≡ false) × (k ≢ i) → IfSome (slice_index_or (slice_set ts i (Some f)) k d) (P k)
    go (inl e) = subst (λ (n : ℕ). IfSome (slice_index_or (slice_set ts i (Some f)) n d) (P n)) (sym e.1) (rw (get_or-set_same ts i (Some f) d l) p)
    go (inr e) = rw (get_or-set_other ts i k (Some f) d e.1) (h k d (subst (λ (n : ℕ). k < n) (length-set ts i (Some f)) m))

place_within : (env : Env) (name : List ℕ) → IfSome (place_of env name) (IsPlace env)
place_within env name = go (number_of_decl env.variables name) (number_of_decl env.sights name) refl refl
  where
    go : (a b : Option ℕ) → number_of_decl env.variables name ≡ a → number_of_decl env.sights name ≡ b → IfSome (place_by a b) (IsPlace env)
    go (Some i) b e f = (position-Some (λ d. bytes_eq d.name name) env.variables i no_decl e).0
    go None (Some j) e f = (position-Some (λ d. bytes_eq d.name name) env.sights j no_decl f).0
    go None None e f = tt

module _ (env : Env) (source : List ℕ) (fit : IsFitEnv env) where
  named_place : (l : Listed) (word : Span) (p : Place) → place_of_name env source l word ≡ Ok p → IsPlace env p
  unfolding place_of_name
  named_place l word p h = go (place_of env (text source word)) (place_within env (text source word)) h
    where
      go : (o : Option Place) → IfSome o (IsPlace env) → named_by l word.start o ≡ Ok p → IsPlace env p
      go None w h = cc
      go (Some q) w h = last (is_listed l q) h
        where
          last : (b : Bool) → unlisted_by word.start q b ≡ Ok p → IsPlace env p
          last true h = cc
          last false h = subst (IsPlace env) (let e : q ≡ p = cc in e) w

  variable_keeps : (l m : Listed) (word : Span) (t : Tree) → IsListing env l → variable env source l word t ≡ Ok m → IsListing env m
  unfolding variable
  variable_keeps l m word t k h = let a = stood _ _ _ h in go a.value (named_place l word a.value a.was) a.then
    where
      go : (p : Place) → IsPlace env p → variable_at env source l word t p ≡ Ok m → IsListing env m
      go (Variable i) w h =
          let b = stood _ _ _ h in
          subst (IsListing env) (let e : record l { moves = slice_set l.moves i (Some b.value) } ≡ m = cc (b.then) in e)
          (record {
            moves_count = length-set l.moves i (Some b.value) ∙ k.moves_count;
            sights_count = k.sights_count;
            moves = put_keeps (IsTransitionTable env.scope) l.moves i b.value k.moves (subst (λ (n : ℕ). i < n) (sym k.moves_count) w) (table_move env source l.action t b.value fit i w b.was);
            sights = k.sights;
            cost = k.cost;
          })
      go (Sight j) w h = cc

  pub observed_keeps : (l m : Listed) (o : Observed) → IsListing env l → observe_entry env source l o ≡ Ok m → IsListing env m
  unfolding observe_entry
  observed_keeps l m o k h = let a = stood _ _ _ h in go a.value (named_place l o.name a.value a.was) a.then
    where
      go : (p : Place) → IsPlace env p → observed_at env source l o p ≡ Ok m → IsListing env m
      go (Variable i) w h = cc
      go (Sight j) w h =
          let b = stood _ _ _ h in
          subst (IsListing env) (let e : record l { sights = slice_set l.sights j (Some b.value) } ≡ m = cc (b.then) in e)
          (record {
            moves_count = k.moves_count;
            sights_count = length-set l.sights j (Some b.value) ∙ k.sights_count;
            moves = k.moves;
            sights = put_keeps (IsSight env.scope) l.sights j b.value k.sights (subst (λ (n : ℕ). j < n) (sym k.sights_count) w) (table_sight env source l.action o.tree b.value fit j w b.was);
            cost = k.cost;
          })

  observe_keeps : (l m : Listed) (keyword : Span) (list : List Observed) → IsListing env l → observe env source l keyword list ≡ Ok m → IsListing env m
  unfolding observe begun_observe
  observe_keeps l m keyword list k h =
      let a = stood _ _ _ h in
      let b = stood (unless_refused (refused_if l.has_observe keyword.start kind.RepeatedName)) (λ u. Ok (record l { has_observe = true })) a.value a.was in
      turns_keep (observe_entry env source) (IsListing env) (λ o. Unit {0}) (λ l o m k q h. observed_keeps l m o k h) list a.value m (λ i d l. tt)
      (subst (IsListing env) (let e : record l { has_observe = true } ≡ a.value = cc (b.then) in e)
      (record { moves_count = k.moves_count; sights_count = k.sights_count; moves = k.moves; sights = k.sights; cost = k.cost })) a.then

  cost_keeps : (l m : Listed) (keyword : Span) (t : Tree) → IsListing env l → cost env source l keyword t ≡ Ok m → IsListing env m
  unfolding cost
  cost_keeps l m keyword t k h =
      let a = stood (checked_cost l keyword.start) (λ u. accepted env source role.Reward t >>= λ a. Ok (record l { cost = Some a.func })) m h in
      let b = stood (accepted env source role.Reward t) (λ a. Ok (record l { cost = Some a.func })) m a.then in
      subst (IsListing env) (let e : record l { cost = Some b.value.func } ≡ m = cc (b.then) in e)
      (record { moves_count = k.moves_count; sights_count = k.sights_count; moves = k.moves; sights = k.sights; cost = worth_kept env source t b.value fit.env_kept b.was })

  pub item_keeps : (l : Listed) (x : Item) (m : Listed) → IsListing env l → item env source l x ≡ Ok m → IsListing env m
  item_keeps l (item_of.Variable name t) m k h = variable_keeps l m name t k h
  item_keeps l (item_of.Observe keyword list end) m k h = observe_keeps l m keyword list k h
  item_keeps l (item_of.Cost keyword t) m k h = cost_keeps l m keyword t k h

  pub nothing_kept : (action : ℕ) → IsListing env (nothing_listed env action)
  nothing_kept action = record {
    moves_count = length-replicate _ _;
    sights_count = length-replicate _ _;
    moves = λ k d l. rw (get_or-replicate (length env.variables) k None d (let e = length-replicate {A = Option Func} (length env.variables) None in omega arith)) tt;
    sights = λ k d l. rw (get_or-replicate (length env.sights) k None d (let e = length-replicate {A = Option Func} (length env.sights) None in omega arith)) tt;
    cost = tt;
  }

  pub items_kept : (action : ℕ) (list : List Item) (m : Listed) → items env source action list ≡ Ok m → IsListing env m
  unfolding items
  items_kept action list m h = turns_keep (item env source) (IsListing env) (λ x. Unit {0}) (λ l x m k q h. item_keeps l x m k h) list (nothing_listed env action) m (λ i d l. tt) (nothing_kept action) h

-- the word observe keeps all
pub begun_kept : (env : Env) (l m : Listed) (at : ℕ) → IsListing env l → begun_observe l at ≡ Ok m → IsListing env m
unfolding begun_observe
begun_kept env l m at k h =
    let b = stood (unless_refused (refused_if l.has_observe at kind.RepeatedName)) (λ u. Ok (record l { has_observe = true })) m h in
    subst (IsListing env) (let e : record l { has_observe = true } ≡ m = cc (b.then) in e) (record { moves_count = k.moves_count; sights_count = k.sights_count; moves = k.moves; sights = k.sights; cost = k.cost })

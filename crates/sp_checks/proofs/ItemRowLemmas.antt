-- The rows of the items of an action.
use Rattle.std.proofs.Common.{◌≡◌, ℕ, ◌<◌, ◌≤◌, ◌==◌, Bool, true, false, List, [], ◌∷◌, ◌++◌, map, length, Option, Some, None, Ok, refl, sym, ap, ◌∙◌, subst, arith, inl, inr, append_assoc, append-nil}
use Rattle.std.specs.Prelude.{◌⊎◌, Result, is_some, slice_index_or, slice_set, replicate, if◌then◌else◌}
use Rattle.std.proofs.lemmas.Bool.{false≢true}
use Rattle.std.proofs.lemmas.List.Sums.{fold-append}
use Rattle.std.proofs.lemmas.List.{map-append}
use Rattle.std.proofs.Math.ListN.{length-set, length-replicate}
use Rattle.sp_lex.specs.declared.lexeme.Span.{Span}
use Rattle.sp_syntax.specs.declared.text.Tree.{Tree}
use Rattle.sp_syntax.specs.declared.text.Observed.{Observed}
use Rattle.sp_syntax.specs.declared.text.Item.{Item}
use Rattle.sp_syntax.specs.declared.text.Item.TheVariants as item_of
use Rattle.sp_dd.specs.Func.{Func}
use Rattle.sp_rows.specs.declared.tables.Table.{Table}
use Rattle.sp_rows.specs.declared.tables.Table.TheVariants as table
use Rattle.sp_trees.specs.declared.refusal.Refusal.{Refusal}
use Rattle.sp_trees.specs.declared.refusal.ModelKind.{ModelKind}
use Rattle.sp_trees.specs.declared.refusal.ModelKind.TheVariants as kind
use Rattle.sp_trees.specs.declared.env.Env.{Env}
use Rattle.sp_trees.specs.declared.nodes.Place.{Place}
use Rattle.sp_trees.specs.declared.nodes.Place.TheVariants.{Variable, Sight}
use Rattle.sp_trees.specs.Refusals.{is_before, rank, refused_if}
use Rattle.sp_trees.specs.Words.{text}
use Rattle.sp_trees.specs.Nodes.{place_of}
use Rattle.sp_trees.specs.Good.{IsEnv}
use Rattle.sp_trees.specs.Rows.{IsFirstRefusal, Among, IsRefusalAt}
use Rattle.sp_trees.specs.Told.{func_of, HasMade}
use Rattle.sp_trees.proofs.LeastLemmas.{least_same, least_only, least_test}
use Rattle.sp_syntax.specs.Spans.{AreRising, tree_spans, observed_spans, item_spans, all_spans}
use Rattle.sp_declarations.specs.Steps.{◌>>=◌, unless_refused, in_turn}
use Rattle.sp_declarations.specs.Rows.{PartRow, HasPlace, refusal_of}
use Rattle.sp_declarations.proofs.StepLemmas.{stood, nothing_refused, not_if}
use Rattle.sp_declarations.proofs.ChainLemmas.{rising_split, place_above, later, least_then, refused_ok, refused_unless, part_place, turns_least, turns_fit}
use Rattle.sp_checks.specs.declared.roles.Role.TheVariants as role
use Rattle.sp_checks.specs.declared.items.Listed.{Listed}
use Rattle.sp_checks.specs.Roles.{allowed_slots}
use Rattle.sp_checks.specs.Accepted.{accepted, table_of}
use Rattle.sp_checks.specs.Actions.{is_listed, unlisted_by, unlisted_place, named_by, place_of_name, variable_at, variable, observed_at, observe_entry, begun_observe, observe, checked_cost, cost, item, nothing_listed, items}
use Rattle.sp_checks.specs.Told.{or_else, first_of, is_variable, is_sight, move_in, pair_in, sight_in, cost_in}
use Rattle.sp_checks.specs.Standing.{IsSame, words_in, words_of, observed_in, observed_words, IsObserve, IsCost}
use Rattle.sp_checks.proofs.TextRows.{RoleRow, TableRow, ListedRow, VariableRow, ObservedRow, ItemRow}
use Rattle.sp_checks.proofs.PlaceLemmas.{row_place}
use Rattle.sp_checks.proofs.AmongLemmas.{at_place, at_later, among_map, IsMet, met_same, met_new, once_then}
use Rattle.sp_checks.proofs.PlaceNames.{some_same, some_none, none_of, place_named, same_place, no_table, none_at, or_else_none, or_else_assoc, first_more, put_met, others_met, put_given}
use Rattle.sp_checks.proofs.RoleRowLemmas.{role_least, role_told}
use Rattle.sp_checks.proofs.TableRowLemmas.{table_least, table_told}
use Rattle.sp_checks.proofs.RowPlaceLemmas.{table_place, observed_place, item_place}

module _ (env : Env) (source : List ℕ) (e : IsEnv env) (made : HasMade env) (action : ℕ) where
  abbrev At : Place → Span → Type 0
  At p w = place_of env (text source w) ≡ Some p

  -- what was listed by some words, and by those of observe alone
  pub record HasTables (words pairs : List Span) (l : Listed) : Type 0 where
    pub number : l.action ≡ action
    pub moves_count : length l.moves ≡ length env.variables
    pub sights_count : length l.sights ≡ length env.sights
    pub moves : (i : ℕ) → IsMet (At (Variable i)) (is_some (slice_index_or l.moves i None)) words
    pub sights : (j : ℕ) → IsMet (At (Sight j)) (is_some (slice_index_or l.sights j None)) words
    pub seen : (j : ℕ) → IsMet (At (Sight j)) (is_some (slice_index_or l.sights j None)) pairs

  -- the functions that were listed
  pub record HasFuncs (moves sights : ℕ → Option Func) (l : Listed) : Type 0 where
    pub move : (i : ℕ) → slice_index_or l.moves i None ≡ moves i
    pub sight : (j : ℕ) → slice_index_or l.sights j None ≡ sights j

  -- ---- a word

  listed : (words pairs : List Span) (l : Listed) (p : Place) → HasTables words pairs l → IsMet (At p) (is_listed l p) words
  listed words pairs l (Variable i) h = h.moves i
  listed words pairs l (Sight j) h = h.sights j

  unlisted_is : (at : ℕ) (p : Place) (b : Bool) → refused_if b at kind.RepeatedName ≡ refusal_of (unlisted_by at p b)
  unlisted_is at p true = refl
  unlisted_is at p false = refl

  named_least : (words pairs : List Span) (l : Listed) (w : Span) → HasTables words pairs l → IsFirstRefusal (ListedRow env source words w) (refusal_of (place_of_name env source l w))
  unfolding place_of_name
  named_least words pairs l w h = go (place_of env (text source w)) refl
    where
      go : (o : Option Place) → place_of env (text source w) ≡ o → IsFirstRefusal (ListedRow env source words w) (refusal_of (named_by l w.start o))
      go None q = (
        inl (q, refl),
        λ r c. elim c [ inl p ↦ at_later w.start kind.UnknownName kind.UnknownName r p.1 (omega arith) | inr p ↦ at_later w.start kind.RepeatedName kind.UnknownName r p.1 (omega arith) ],
      )
      go (Some p) q =
          least_same (λ r. Among (IsSame source w) words × IsRefusalAt w.start kind.RepeatedName r) (ListedRow env source words w) (refusal_of (unlisted_place l w.start p)) (λ r c. inr c)
          (λ r c. elim c [ inl n ↦ absurd (some_none p (place_of env (text source w)) q n.0) | inr m ↦ m ])
          (subst (IsFirstRefusal (λ r. Among (IsSame source w) words × IsRefusalAt w.start kind.RepeatedName r)) (unlisted_is w.start p (is_listed l p))
          (least_test (Among (IsSame source w) words) (is_listed l p) w.start kind.RepeatedName
          (λ t. among_map (At p) (IsSame source w) words (λ v a. same_place env (text source v) (text source w) p a q) ((listed words pairs l p h).0 t))
          (λ m. (listed words pairs l p h).1 (among_map (IsSame source w) (At p) words (λ v s. ap (place_of env) s ∙ q) m))))

  named_ok : (l : Listed) (w : Span) (p : Place) → place_of_name env source l w ≡ Ok p → At p w × (is_listed l p ≡ false)
  unfolding place_of_name
  named_ok l w p h = go (place_of env (text source w)) refl h
    where
      go : (o : Option Place) → place_of env (text source w) ≡ o → named_by l w.start o ≡ Ok p → At p w × (is_listed l p ≡ false)
      go None q k = cc
      go (Some n) q k = last (is_listed l n) refl k
        where
          last : (b : Bool) → is_listed l n ≡ b → unlisted_by w.start n b ≡ Ok p → At p w × (is_listed l p ≡ false)
          last true s k = cc
          last false s k = subst (λ p. At p w × (is_listed l p ≡ false)) (let z : n ≡ p = cc in z) (q, s)

  listing_least : (words pairs : List Span) (l : Listed) (w : Span) (S : Refusal → Type 0) (then_at : Place → Result Listed Refusal) → HasTables words pairs l
      → ((p : Place) → At p w → IsFirstRefusal S (refusal_of (then_at p))) → ((q : Refusal) → S q → IsRefusalAt w.start kind.BadScope q ⊎ (w.start < q.at))
      → IsFirstRefusal (λ r. ListedRow env source words w r ⊎ S r) (refusal_of (place_of_name env source l w >>= then_at))
  listing_least words pairs l w S then_at h right order =
      least_then (ListedRow env source words w) S (place_of_name env source l w) then_at (named_least words pairs l w h) (λ p q. right p (named_ok l w p q).0)
      (λ r q a b. elim a [ inl p ↦ behind kind.UnknownName r q p.1 (omega arith) (order q b) | inr p ↦ behind kind.RepeatedName r q p.1 (omega arith) (order q b) ])
    where
      behind : (k : ModelKind) (r q : Refusal) → IsRefusalAt w.start k r → rank k ≤ 4 → IsRefusalAt w.start kind.BadScope q ⊎ (w.start < q.at) → is_before q r ≡ false
      behind k r q a l (inl b) = subst (λ r. is_before q r ≡ false) (sym a) (at_later w.start kind.BadScope k q b l)
      behind k r q a l (inr b) = let m = at_place w.start k r a in later q r (omega arith)

  -- ---- a word and its tree

  module _ (wrong right : ℕ → Place) (table_for : ℕ → Table) (same : (a b : ℕ) → right a ≡ right b → a ≡ b) (apart : (a b : ℕ) → right a ≡ wrong b → ⊥) (w : Span) (t : Tree) where
    abbrev Scoped : Refusal → Type 0
    Scoped r =
        ((k : ℕ) × (place_of env (text source w) ≡ Some (wrong k)) × IsRefusalAt w.start kind.BadScope r) ⊎ ((k : ℕ) × (place_of env (text source w) ≡ Some (right k)) × TableRow env source action (table_for k) t r)

    right_least : (k : ℕ) → At (right k) w → IsFirstRefusal Scoped (refusal_of (table_of env source action (table_for k) t))
    right_least k h =
        least_same (TableRow env source action (table_for k) t) Scoped (refusal_of (table_of env source action (table_for k) t)) (λ r c. inr (k, h, c))
        (λ r c. elim c [
          | inl p ↦ absurd (apart k p.0 (some_same (right k) (wrong p.0) (place_of env (text source w)) h p.1))
          | inr p ↦ subst (λ i. TableRow env source action (table_for i) t r) (same p.0 k (some_same (right p.0) (right k) (place_of env (text source w)) p.1 h)) p.2
        ]) (table_least env source action (table_for k) t e made)

    wrong_least : (k : ℕ) → At (wrong k) w → IsFirstRefusal Scoped (Some (record { at = w.start; kind = kind.BadScope }))
    wrong_least k h =
        least_only Scoped (record { at = w.start; kind = kind.BadScope }) (inl (k, h, refl))
        (λ r c. elim c [ inl p ↦ p.2 | inr p ↦ absurd (apart p.0 k (some_same (right p.0) (wrong k) (place_of env (text source w)) p.1 h)) ])

    scoped_order : (low high : ℕ) → w.start < low → AreRising low (tree_spans t) high → (q : Refusal) → Scoped q → IsRefusalAt w.start kind.BadScope q ⊎ (w.start < q.at)
    scoped_order low high l rise q (inl p) = inl p.2
    scoped_order low high l rise q (inr p) = inr (let m = place_above (tree_spans t) low high q.at rise (table_place env source action (table_for p.0) t q p.2) in omega arith)

  same_variable : (a b : ℕ) → Variable a ≡ Variable b → a ≡ b
  same_variable a b h = cc

  same_sight : (a b : ℕ) → Sight a ≡ Sight b → a ≡ b
  same_sight a b h = cc

  variable_apart : (a b : ℕ) → Variable a ≡ Sight b → ⊥
  variable_apart a b h = cc

  sight_apart : (a b : ℕ) → Sight a ≡ Variable b → ⊥
  sight_apart a b h = cc

  -- one word names one variable
  one_place : (w : Span) (p q : Place) → At p w → At q w → p ≡ q
  one_place w p q h k = some_same p q (place_of env (text source w)) h k

  table_same : (l : Listed) (k : Table) (t : Tree) → l.action ≡ action → refusal_of (table_of env source l.action k t) ≡ refusal_of (table_of env source action k t)
  table_same l k t h = ap (λ n. refusal_of (table_of env source n k t)) h

  -- ---- NAME tree

  variable_least : (words pairs : List Span) (l : Listed) (w : Span) (t : Tree) (low high : ℕ) → HasTables words pairs l → AreRising low (w ∷ tree_spans t) high → IsFirstRefusal (VariableRow env source action words w t) (refusal_of (variable env source l w t))
  unfolding variable
  variable_least words pairs l w t low high h (a, b, rise) =
      listing_least words pairs l w S (λ p. variable_at env source l w t p) h go (scoped_order Sight Variable table.Move same_variable variable_apart w t w.end high b rise)
    where
      S : Refusal → Type 0
      S = Scoped Sight Variable table.Move same_variable variable_apart w t

      go : (p : Place) → At p w → IsFirstRefusal S (refusal_of (variable_at env source l w t p))
      go (Variable i) q =
          subst (IsFirstRefusal S) (sym (refused_ok (table_of env source l.action (table.Move i) t) (λ f. record l { moves = slice_set l.moves i (Some f) }) ∙ table_same l (table.Move i) t h.number))
          (right_least Sight Variable table.Move same_variable variable_apart w t i q)
      go (Sight j) q = wrong_least Sight Variable table.Move same_variable variable_apart w t j q

  pub variable_next : (words pairs : List Span) (moves sights : ℕ → Option Func) (l m : Listed) (w : Span) (t : Tree) → HasTables words pairs l → HasFuncs moves sights l → variable env source l w t ≡ Ok m
      → HasTables (words ++ w ∷ []) pairs m × HasFuncs (λ i. or_else (moves i) (move_in source env i (item_of.Variable w t))) sights m × (m.has_observe ≡ l.has_observe) × (m.cost ≡ l.cost)
  unfolding variable
  variable_next words pairs moves sights l m w t h g q =
      let a = stood (place_of_name env source l w) (λ p. variable_at env source l w t p) m q in let n = named_ok l w a.value a.was in go a.value n.0 n.1 a.then
    where
      go : (p : Place) → At p w → is_listed l p ≡ false → variable_at env source l w t p ≡ Ok m
          → HasTables (words ++ w ∷ []) pairs m × HasFuncs (λ i. or_else (moves i) (move_in source env i (item_of.Variable w t))) sights m × (m.has_observe ≡ l.has_observe) × (m.cost ≡ l.cost)
      go (Sight j) at new k = cc
      go (Variable i) at new k =
          let b = stood (table_of env source l.action (table.Move i) t) (λ f. Ok (record l { moves = slice_set l.moves i (Some f) })) m k in
          let inside : i < length env.variables = (place_named env (text source w) (Variable i) at).0 in
          let here : i < length l.moves = subst (λ (n : ℕ). i < n) (sym h.moves_count) inside in
          let told : b.value ≡ func_of env source t = table_told env source l.action (table.Move i) t b.value e made b.was in
          subst (λ (m : Listed). HasTables (words ++ w ∷ []) pairs m × HasFuncs (λ i. or_else (moves i) (move_in source env i (item_of.Variable w t))) sights m × (m.has_observe ≡ l.has_observe) × (m.cost ≡ l.cost))
          (let z : record l { moves = slice_set l.moves i (Some b.value) } ≡ m = cc (b.then) in z) (
            record {
              number = h.number;
              moves_count = length-set l.moves i (Some b.value) ∙ h.moves_count;
              sights_count = h.sights_count;
              moves = put_met (λ k w. At (Variable k) w) l.moves words w i b.value here at (λ k z. same_variable k i (one_place w (Variable k) (Variable i) z at)) h.moves;
              sights = others_met (λ k w. At (Sight k) w) l.sights words w (λ k z. variable_apart i k (one_place w (Variable i) (Sight k) at z)) h.sights;
              seen = h.seen;
            },
            record {
              move = put_given l.moves moves (λ k. move_in source env k (item_of.Variable w t)) i b.value here new g.move
                  (λ k. (λ n. if is_variable k (at n) then Some (func_of env source t) else None) ∙ ap (λ f. if i == k then Some f else None) (sym told));
              sight = g.sight;
            },
            refl,
            refl,
          )

  -- ---- observe

  observed_least : (words : List Span) (before : List Observed) (pairs : List Span) (l : Listed) (o : Observed) (low high : ℕ) → HasTables (words ++ map (λ o. o.name) before) pairs l → AreRising low (observed_spans o) high
      → IsFirstRefusal (ObservedRow env source action words before o) (refusal_of (observe_entry env source l o))
  unfolding observe_entry
  observed_least words before pairs l o low high h (a, b, rise) =
      listing_least (words ++ map (λ o. o.name) before) pairs l o.name S (λ p. observed_at env source l o p) h go (scoped_order Variable Sight table.Sight same_sight sight_apart o.name o.tree o.name.end high b rise)
    where
      S : Refusal → Type 0
      S = Scoped Variable Sight table.Sight same_sight sight_apart o.name o.tree

      go : (p : Place) → At p o.name → IsFirstRefusal S (refusal_of (observed_at env source l o p))
      go (Variable i) q = wrong_least Variable Sight table.Sight same_sight sight_apart o.name o.tree i q
      go (Sight j) q =
          subst (IsFirstRefusal S) (sym (refused_ok (table_of env source l.action (table.Sight j) o.tree) (λ f. record l { sights = slice_set l.sights j (Some f) }) ∙ table_same l (table.Sight j) o.tree h.number))
          (right_least Variable Sight table.Sight same_sight sight_apart o.name o.tree j q)

  observed_next : (words pairs : List Span) (moves sights : ℕ → Option Func) (l m : Listed) (o : Observed) → HasTables words pairs l → HasFuncs moves sights l → observe_entry env source l o ≡ Ok m
      → HasTables (words ++ o.name ∷ []) (pairs ++ o.name ∷ []) m × HasFuncs moves (λ j. or_else (sights j) (pair_in source env j o)) m × (m.has_observe ≡ l.has_observe) × (m.cost ≡ l.cost)
  unfolding observe_entry
  observed_next words pairs moves sights l m o h g q =
      let a = stood (place_of_name env source l o.name) (λ p. observed_at env source l o p) m q in let n = named_ok l o.name a.value a.was in go a.value n.0 n.1 a.then
    where
      w : Span
      w = o.name

      go : (p : Place) → At p w → is_listed l p ≡ false → observed_at env source l o p ≡ Ok m
          → HasTables (words ++ w ∷ []) (pairs ++ w ∷ []) m × HasFuncs moves (λ j. or_else (sights j) (pair_in source env j o)) m × (m.has_observe ≡ l.has_observe) × (m.cost ≡ l.cost)
      go (Variable i) at new k = cc
      go (Sight j) at new k =
          let b = stood (table_of env source l.action (table.Sight j) o.tree) (λ f. Ok (record l { sights = slice_set l.sights j (Some f) })) m k in
          let inside : j < length env.sights = (place_named env (text source w) (Sight j) at).0 in
          let here : j < length l.sights = subst (λ (n : ℕ). j < n) (sym h.sights_count) inside in
          let told : b.value ≡ func_of env source o.tree = table_told env source l.action (table.Sight j) o.tree b.value e made b.was in
          let only : (k : ℕ) → At (Sight k) w → k ≡ j = λ k z. same_sight k j (one_place w (Sight k) (Sight j) z at) in
          subst (λ (m : Listed). HasTables (words ++ w ∷ []) (pairs ++ w ∷ []) m × HasFuncs moves (λ j. or_else (sights j) (pair_in source env j o)) m × (m.has_observe ≡ l.has_observe) × (m.cost ≡ l.cost))
          (let z : record l { sights = slice_set l.sights j (Some b.value) } ≡ m = cc (b.then) in z) (
            record {
              number = h.number;
              moves_count = h.moves_count;
              sights_count = length-set l.sights j (Some b.value) ∙ h.sights_count;
              moves = others_met (λ k w. At (Variable k) w) l.moves words w (λ k z. variable_apart k j (one_place w (Variable k) (Sight j) z at)) h.moves;
              sights = put_met (λ k w. At (Sight k) w) l.sights words w j b.value here at only h.sights;
              seen = put_met (λ k w. At (Sight k) w) l.sights pairs w j b.value here at only h.seen;
            },
            record {
              move = g.move;
              sight = put_given l.sights sights (λ k. pair_in source env k o) j b.value here new g.sight
                  (λ k. (λ n. if is_sight k (at n) then Some (func_of env source o.tree) else None) ∙ ap (λ f. if j == k then Some f else None) (sym told));
            },
            refl,
            refl,
          )

  module _ (words pairs : List Span) (moves sights : ℕ → Option Func) (worth : Option Func) where
    -- what was read of the pairs of observe
    record HasPairs (before : List Observed) (l : Listed) : Type 0 where
      tables : HasTables (words ++ map (λ o. o.name) before) (pairs ++ map (λ o. o.name) before) l
      funcs : HasFuncs moves (λ j. or_else (sights j) (first_of (pair_in source env j) before)) l
      begun : l.has_observe ≡ true
      cost : l.cost ≡ worth

    pair_right : (before : List Observed) (l : Listed) (o : Observed) (low high : ℕ) → HasPairs before l → AreRising low (observed_spans o) high → IsFirstRefusal (ObservedRow env source action words before o) (refusal_of (observe_entry env source l o))
    pair_right before l o low high h rise = observed_least words before (pairs ++ map (λ o. o.name) before) l o low high h.tables rise

    pair_next : (before : List Observed) (l m : Listed) (o : Observed) → HasPairs before l → observe_entry env source l o ≡ Ok m → HasPairs (before ++ o ∷ []) m
    pair_next before l m o h q =
        let n = observed_next (words ++ names) (pairs ++ names) moves (λ j. or_else (sights j) (first_of (pair_in source env j) before)) l m o h.tables h.funcs q in record {
          tables =
              subst (λ ws. HasTables ws (pairs ++ map (λ o. o.name) (before ++ o ∷ [])) m) (more words) (subst (λ ps. HasTables ((words ++ names) ++ o.name ∷ []) ps m) (more pairs) n.0);
          funcs = record {
            move = n.1.move;
            sight = λ j. n.1.sight j ∙ or_else_assoc (sights j) (first_of (pair_in source env j) before) (pair_in source env j o) ∙ ap (or_else (sights j)) (sym (first_more (pair_in source env j) before o));
          };
          begun = n.2 ∙ h.begun;
          cost = n.3 ∙ h.cost;
        }
      where
        names : List Span
        names = map (λ o. o.name) before

        more : (ws : List Span) → (ws ++ names) ++ o.name ∷ [] ≡ ws ++ map (λ o. o.name) (before ++ o ∷ [])
        more ws = append_assoc ws names (o.name ∷ []) ∙ ap (λ ys. ws ++ ys) (sym (map-append (λ (o : Observed). o.name) before (o ∷ [])))

    pair_place : (before : List Observed) (o : Observed) (r : Refusal) → ObservedRow env source action words before o r → HasPlace (observed_spans o) r.at
    pair_place before o r h = observed_place env source action words before o r h

    begun_pairs : (l m : Listed) (at : ℕ) → HasTables words pairs l → HasFuncs moves sights l → l.cost ≡ worth → begun_observe l at ≡ Ok m → HasPairs [] m
    unfolding begun_observe
    begun_pairs l m at h g c q =
        let b = stood (unless_refused (refused_if l.has_observe at kind.RepeatedName)) (λ u. Ok (record l { has_observe = true })) m q in
        subst (HasPairs []) (let z : record l { has_observe = true } ≡ m = cc (b.then) in z) (record {
          tables =
              subst (λ ws. HasTables ws (pairs ++ []) (record l { has_observe = true })) (sym (append-nil words))
              (subst (λ ps. HasTables words ps (record l { has_observe = true })) (sym (append-nil pairs))
              (record { number = h.number; moves_count = h.moves_count; sights_count = h.sights_count; moves = h.moves; sights = h.sights; seen = h.seen }));
          funcs = record { move = g.move; sight = λ j. g.sight j ∙ sym (or_else_none (sights j)) };
          begun = refl;
          cost = c;
        })

    pairs_least : (l : Listed) (keyword : Span) (list : List Observed) (low high : ℕ) → HasTables words pairs l → HasFuncs moves sights l → l.cost ≡ worth → (P : Type 0) → (l.has_observe ≡ true → P) → (P → l.has_observe ≡ true)
        → keyword.start < low → AreRising low (all_spans observed_spans list) high
        → IsFirstRefusal (λ r. (P × IsRefusalAt keyword.start kind.RepeatedName r) ⊎ PartRow (ObservedRow env source action words) [] list r) (refusal_of (observe env source l keyword list))
    unfolding observe begun_observe
    pairs_least l keyword list low high h g c P to back first rise =
        let o = refused_if l.has_observe keyword.start kind.RepeatedName in
        let R : Refusal → Type 0 = λ r. P × IsRefusalAt keyword.start kind.RepeatedName r in
        least_then R (PartRow (ObservedRow env source action words) [] list) (begun_observe l keyword.start) (λ m. in_turn (observe_entry env source) m list)
        (subst (IsFirstRefusal R) (sym (refused_ok (unless_refused o) (λ u. record l { has_observe = true }) ∙ refused_unless o)) (least_test P l.has_observe keyword.start kind.RepeatedName to back))
        (λ m q. turns_least (observe_entry env source) (ObservedRow env source action words) observed_spans HasPairs pair_right pair_next pair_place [] m list low high (begun_pairs l m keyword.start h g c q) rise)
        (λ r q a b.
        let m = at_place keyword.start kind.RepeatedName r a.1 in
        let n = place_above (all_spans observed_spans list) low high q.at rise (part_place (ObservedRow env source action words) observed_spans pair_place [] list q b) in
        later q r (omega arith))

    pairs_fit : (l m : Listed) (keyword : Span) (list : List Observed) → HasTables words pairs l → HasFuncs moves sights l → l.cost ≡ worth → observe env source l keyword list ≡ Ok m → HasPairs list m
    unfolding observe
    pairs_fit l m keyword list h g c q =
        let a = stood (begun_observe l keyword.start) (λ m. in_turn (observe_entry env source) m list) m q in
        turns_fit (observe_entry env source) (ObservedRow env source action words) observed_spans HasPairs pair_right pair_next pair_place [] a.value m list (begun_pairs l a.value keyword.start h g c a.was) a.then

  -- ---- items

  pub record HasItems (before : List Item) (l : Listed) : Type 0 where
    pub tables : HasTables (words_of before) (observed_words before) l
    pub funcs : HasFuncs (λ i. first_of (move_in source env i) before) (λ j. first_of (sight_in source env j) before) l
    pub observe : IsMet IsObserve l.has_observe before
    pub cost : IsMet IsCost (is_some l.cost) before
    pub worth : l.cost ≡ first_of (cost_in source env) before

  words_more : (before : List Item) (x : Item) → words_of before ++ words_in x ≡ words_of (before ++ x ∷ [])
  words_more before x = sym (fold-append (λ ws i. ws ++ words_in i) [] before (x ∷ []))

  pairs_more : (before : List Item) (x : Item) → observed_words before ++ observed_in x ≡ observed_words (before ++ x ∷ [])
  pairs_more before x = sym (fold-append (λ ws i. ws ++ observed_in i) [] before (x ∷ []))

  tables_more : (before : List Item) (x : Item) (l : Listed) → HasTables (words_of before ++ words_in x) (observed_words before ++ observed_in x) l → HasTables (words_of (before ++ x ∷ [])) (observed_words (before ++ x ∷ [])) l
  tables_more before x l h = subst (λ ws. HasTables ws (observed_words (before ++ x ∷ [])) l) (words_more before x) (subst (λ ps. HasTables (words_of before ++ words_in x) ps l) (pairs_more before x) h)

  -- an item that gives nothing of a kind
  nothing_more : {Y : Type 0} (give : Item → Option Y) (before : List Item) (x : Item) (o : Option Y) → give x ≡ None → o ≡ first_of give before → o ≡ first_of give (before ++ x ∷ [])
  nothing_more give before x o none h = h ∙ sym (or_else_none (first_of give before)) ∙ ap (or_else (first_of give before)) (sym none) ∙ sym (first_more give before x)

  cost_least : (before : List Item) (l : Listed) (keyword : Span) (t : Tree) (low high : ℕ) → HasItems before l → AreRising low (keyword ∷ tree_spans t) high
      → IsFirstRefusal (ItemRow env source action before (item_of.Cost keyword t)) (refusal_of (cost env source l keyword t))
  unfolding cost
  cost_least before l keyword t low high h (a, b, rise) =
      once_then (Among IsCost before) (is_some l.cost) keyword.start keyword.end high (tree_spans t) (RoleRow env source role.Reward t) (accepted env source role.Reward t) _ h.cost.0 h.cost.1 b rise
      (λ r k. row_place env source (allowed_slots env.scope role.Reward) t r k) (role_least env source role.Reward t e) (λ a. refl)

  item_right : (before : List Item) (l : Listed) (x : Item) (low high : ℕ) → HasItems before l → AreRising low (item_spans x) high → IsFirstRefusal (ItemRow env source action before x) (refusal_of (item env source l x))
  item_right before l (item_of.Variable name t) low high h rise = variable_least (words_of before) (observed_words before) l name t low high h.tables rise
  item_right before l (item_of.Observe keyword list end) low high h (a, b, rise) =
      let cut = rising_split (all_spans observed_spans list) (end ∷ []) keyword.end high rise in
      pairs_least (words_of before) (observed_words before) (λ i. first_of (move_in source env i) before) (λ j. first_of (sight_in source env j) before) l.cost l keyword list keyword.end cut.0 h.tables h.funcs refl (Among IsObserve before)
      h.observe.0 h.observe.1 b cut.1
  item_right before l (item_of.Cost keyword t) low high h rise = cost_least before l keyword t low high h rise

  variable_more : (before : List Item) (l m : Listed) (name : Span) (t : Tree) → HasItems before l → variable env source l name t ≡ Ok m → HasItems (before ++ item_of.Variable name t ∷ []) m
  variable_more before l m name t h q =
      let x = item_of.Variable name t in
      let n = variable_next (words_of before) (observed_words before) (λ i. first_of (move_in source env i) before) (λ j. first_of (sight_in source env j) before) l m name t h.tables h.funcs q in record {
        tables = tables_more before x m (subst (λ ps. HasTables (words_of before ++ name ∷ []) ps m) (sym (append-nil (observed_words before))) n.0);
        funcs = record {
          move = λ i. n.1.move i ∙ sym (first_more (move_in source env i) before x);
          sight = λ j. nothing_more (sight_in source env j) before x (slice_index_or m.sights j None) refl (n.1.sight j);
        };
        observe = subst (λ b. IsMet IsObserve b (before ++ x ∷ [])) (sym n.2) (met_same IsObserve l.has_observe before x (λ p. p) h.observe);
        cost = subst (λ o. IsMet IsCost (is_some o) (before ++ x ∷ [])) (sym n.3) (met_same IsCost (is_some l.cost) before x (λ p. p) h.cost);
        worth = n.3 ∙ nothing_more (cost_in source env) before x l.cost refl h.worth;
      }

  observe_more : (before : List Item) (l m : Listed) (keyword end : Span) (list : List Observed) → HasItems before l → observe env source l keyword list ≡ Ok m → HasItems (before ++ item_of.Observe keyword list end ∷ []) m
  observe_more before l m keyword end list h q =
      let x = item_of.Observe keyword list end in
      let n = pairs_fit (words_of before) (observed_words before) (λ i. first_of (move_in source env i) before) (λ j. first_of (sight_in source env j) before) l.cost l m keyword list h.tables h.funcs refl q in record {
        tables = tables_more before x m n.tables;
        funcs = record {
          move = λ i. nothing_more (move_in source env i) before x (slice_index_or m.moves i None) refl (n.funcs.move i);
          sight = λ j. n.funcs.sight j ∙ sym (first_more (sight_in source env j) before x);
        };
        observe = met_new IsObserve m.has_observe before x n.begun tt;
        cost = subst (λ o. IsMet IsCost (is_some o) (before ++ x ∷ [])) (sym n.cost) (met_same IsCost (is_some l.cost) before x (λ p. p) h.cost);
        worth = n.cost ∙ nothing_more (cost_in source env) before x l.cost refl h.worth;
      }

  cost_more : (before : List Item) (l m : Listed) (keyword : Span) (t : Tree) → HasItems before l → cost env source l keyword t ≡ Ok m → HasItems (before ++ item_of.Cost keyword t ∷ []) m
  unfolding cost
  cost_more before l m keyword t h q =
      let x = item_of.Cost keyword t in
      let a = stood (checked_cost l keyword.start) (λ u. accepted env source role.Reward t >>= λ a. Ok (record l { cost = Some a.func })) m q in
      let b = stood (accepted env source role.Reward t) (λ a. Ok (record l { cost = Some a.func })) m a.then in
      let new : is_some l.cost ≡ false = not_if (is_some l.cost) keyword.start kind.RepeatedName (nothing_refused (refused_if (is_some l.cost) keyword.start kind.RepeatedName) a.value a.was) in
      let told : b.value.func ≡ func_of env source t = (role_told env source role.Reward t b.value e made b.was).func in
      let k = h.tables in
      subst (HasItems (before ++ x ∷ [])) (let z : record l { cost = Some b.value.func } ≡ m = cc (b.then) in z) (record {
        tables =
            tables_more before x (record l { cost = Some b.value.func })
            (subst (λ ws. HasTables ws (observed_words before ++ []) (record l { cost = Some b.value.func })) (sym (append-nil (words_of before)))
            (subst (λ ps. HasTables (words_of before) ps (record l { cost = Some b.value.func })) (sym (append-nil (observed_words before)))
            (record { number = k.number; moves_count = k.moves_count; sights_count = k.sights_count; moves = k.moves; sights = k.sights; seen = k.seen })));
        funcs = record {
          move = λ i. nothing_more (move_in source env i) before x (slice_index_or l.moves i None) refl (h.funcs.move i);
          sight = λ j. nothing_more (sight_in source env j) before x (slice_index_or l.sights j None) refl (h.funcs.sight j);
        };
        observe = met_same IsObserve l.has_observe before x (λ p. p) h.observe;
        cost = met_new IsCost true before x refl tt;
        worth = ap (λ f. Some f) told ∙ ap (λ o. or_else o (Some (func_of env source t))) (sym (none_of l.cost new) ∙ h.worth) ∙ sym (first_more (cost_in source env) before x);
      })

  item_next : (before : List Item) (l m : Listed) (x : Item) → HasItems before l → item env source l x ≡ Ok m → HasItems (before ++ x ∷ []) m
  item_next before l m (item_of.Variable name t) h q = variable_more before l m name t h q
  item_next before l m (item_of.Observe keyword list end) h q = observe_more before l m keyword end list h q
  item_next before l m (item_of.Cost keyword t) h q = cost_more before l m keyword t h q

  nothing_met : (P : ℕ → Span → Type 0) (n k : ℕ) → IsMet (P k) (is_some (slice_index_or (replicate n no_table) k None)) []
  nothing_met P n k = (λ q. absurd (false≢true (sym (ap is_some (none_at n k)) ∙ q)), λ m. absurd m)

  nothing_items : HasItems [] (nothing_listed env action)
  nothing_items = record {
    tables = record {
      number = refl;
      moves_count = length-replicate _ _;
      sights_count = length-replicate _ _;
      moves = λ i. nothing_met (λ k w. At (Variable k) w) (length env.variables) i;
      sights = λ j. nothing_met (λ k w. At (Sight k) w) (length env.sights) j;
      seen = λ j. nothing_met (λ k w. At (Sight k) w) (length env.sights) j;
    };
    funcs = record { move = λ i. none_at (length env.variables) i; sight = λ j. none_at (length env.sights) j };
    observe = (λ q. absurd (false≢true q), λ m. absurd m);
    cost = (λ q. absurd (false≢true q), λ m. absurd m);
    worth = refl;
  }

  place_in : (before : List Item) (x : Item) (r : Refusal) → ItemRow env source action before x r → HasPlace (item_spans x) r.at
  place_in before x r h = item_place env source action before x r h

  pub items_least : (list : List Item) (low high : ℕ) → AreRising low (all_spans item_spans list) high → IsFirstRefusal (PartRow (ItemRow env source action) [] list) (refusal_of (items env source action list))
  unfolding items
  items_least list low high rise = turns_least (item env source) (ItemRow env source action) item_spans HasItems item_right item_next place_in [] (nothing_listed env action) list low high nothing_items rise

  pub items_fit : (list : List Item) (l : Listed) → items env source action list ≡ Ok l → HasItems list l
  unfolding items
  items_fit list l q = turns_fit (item env source) (ItemRow env source action) item_spans HasItems item_right item_next place_in [] (nothing_listed env action) l list nothing_items q

  pub items_place : (list : List Item) (r : Refusal) → PartRow (ItemRow env source action) [] list r → HasPlace (all_spans item_spans list) r.at
  items_place list r h = part_place (ItemRow env source action) item_spans place_in [] list r h

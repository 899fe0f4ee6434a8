-- The rows of an action, and what is told of it where there are none.
use Rattle.std.proofs.Common.{◌≡◌, ℕ, zero, suc, ◌<◌, ◌≤◌, ◌==◌, not, Bool, true, false, ◌||◌, List, [], ◌∷◌, ◌++◌, map, length, Option, Some, None, Ok, refl, sym, ap, ◌∙◌, subst, arith, inl, inr}
use Rattle.std.specs.Prelude.{◌⊎◌, is_some, slice_index_or, if◌then◌else◌}
use Rattle.std.specs.List.{list_any, range_with_len}
use Rattle.std.specs.Str.{bytes_eq}
use Rattle.std.proofs.lemmas.Bool.{false≢true}
use Rattle.std.proofs.lemmas.Bool.Decides.{Decides-eqb}
use Rattle.std.proofs.lemmas.Slice.Eq.{bytes_eq-Decides}
use Rattle.sp_lex.specs.declared.lexeme.Span.{Span}
use Rattle.sp_syntax.specs.declared.text.Item.{Item}
use Rattle.sp_syntax.specs.declared.text.Section.{Section}
use Rattle.sp_syntax.specs.declared.text.Section.TheVariants as section_of
use Rattle.sp_dd.specs.Func.{Func}
use Rattle.sp_names.specs.Names.{with_name}
use Rattle.sp_trees.specs.declared.refusal.Refusal.{Refusal}
use Rattle.sp_trees.specs.declared.refusal.ModelKind.TheVariants as kind
use Rattle.sp_trees.specs.declared.env.Env.{Env}
use Rattle.sp_trees.specs.Refusals.{refused_if}
use Rattle.sp_trees.specs.Words.{text}
use Rattle.sp_trees.specs.Good.{IsEnv}
use Rattle.sp_trees.specs.Rows.{IsFirstRefusal, Among, IsRefusalAt}
use Rattle.sp_trees.specs.Told.{HasMade}
use Rattle.sp_trees.proofs.LeastLemmas.{least_only, least_test}
use Rattle.sp_syntax.specs.Spans.{AreRising, item_spans, section_spans, all_spans}
use Rattle.sp_declarations.specs.Steps.{in_turn}
use Rattle.sp_declarations.specs.Declarations.{refusal_at}
use Rattle.sp_declarations.specs.Rows.{PartRow, refusal_of}
use Rattle.sp_declarations.proofs.StepLemmas.{stood, nothing_refused}
use Rattle.sp_declarations.proofs.NameLemmas.{with_new}
use Rattle.sp_declarations.proofs.ChainLemmas.{has_left, has_right, rising_split, place_below, place_above, later, least_then, least_else, refused_ok, refused_unless}
use Rattle.sp_checks.specs.declared.items.Listed.{Listed}
use Rattle.sp_checks.specs.declared.state.Draft.{Draft}
use Rattle.sp_checks.specs.declared.state.State.{State}
use Rattle.sp_checks.specs.Told.{first_of, cost_in, move_of, sight_of}
use Rattle.sp_checks.specs.Finish.{or_zero}
use Rattle.sp_checks.proofs.StateLemmas.{sights_are}
use Rattle.sp_model.specs.Problem.{no_func}
use Rattle.std.proofs.lemmas.List.{length-map}
use Rattle.std.proofs.lemmas.List.FromFn.{fill_by_all}
use Rattle.sp_checks.specs.Actions.{or_identity, items, moves_of, sight_step, sights_of, name_refusal_by, checked_name, draft_of, draft, action}
use Rattle.sp_checks.specs.Standing.{IsActionNamed, action_count}
use Rattle.sp_checks.specs.RefusalTable.{IsUnobserved}
use Rattle.sp_checks.proofs.TextRows.{ItemRow, ActionRow}
use Rattle.sp_checks.proofs.AmongLemmas.{at_place, at_later, among_more, among_last, among_split, IsMet}
use Rattle.sp_checks.proofs.PlaceNames.{some_none}
use Rattle.sp_checks.proofs.ItemRowLemmas.{HasItems, items_least, items_fit, items_place}

-- ---- a list of tables, where all are to be there

abbrev IsThere : List (Option Func) → ℕ → Type 0
IsThere ts j = is_some (slice_index_or ts j None) ≡ true

-- all are there, or one isn't and the list is refused
abbrev Refuses : ℕ → List (Option Func) → Option Refusal → Type 0
Refuses at ts o = ((o ≡ None) × ((j : ℕ) → j < length ts → IsThere ts j)) ⊎ ((o ≡ Some (record { at = at; kind = kind.MissingPart })) × ((j : ℕ) × (j < length ts) × (is_some (slice_index_or ts j None) ≡ false)))

sights_refuse : (at : ℕ) (done : List Func) (ts : List (Option Func)) → Refuses at ts (refusal_of (in_turn (sight_step at) done ts))
unfolding in_turn
sights_refuse at done [] = inl (refl, λ j l. absurd (omega arith))
sights_refuse at done (None ∷ ts) = inr (refl, (0, omega arith, refl))
sights_refuse at done (Some f ∷ ts) = go (refusal_of (in_turn (sight_step at) (done ++ f ∷ []) ts)) (sights_refuse at (done ++ f ∷ []) ts)
  where
    there : ((j : ℕ) → j < length ts → IsThere ts j) → (j : ℕ) → j < length (Some f ∷ ts) → IsThere (Some f ∷ ts) j
    there h zero l = refl
    there h (suc j) l = h j (omega arith)

    go : (o : Option Refusal) → Refuses at ts o → Refuses at (Some f ∷ ts) o
    go o (inl h) = inl (h.0, there h.1)
    go o (inr h) = inr (h.0, (suc h.1.0, (let l = h.1.1 in omega arith), h.1.2))

-- ---- names

any_more : (p : List ℕ → Bool) (xs : List (List ℕ)) (x : List ℕ) → list_any p (xs ++ x ∷ []) ≡ (list_any p xs || p x)
any_more p [] x = go (p x)
  where
    go : (b : Bool) → (b || false) ≡ b
    go true = refl
    go false = refl
any_more p (y ∷ xs) x = go (p y) (any_more p xs x)
  where
    go : (b : Bool) → list_any p (xs ++ x ∷ []) ≡ (list_any p xs || p x) → (b || list_any p (xs ++ x ∷ [])) ≡ ((b || list_any p xs) || p x)
    go true h = refl
    go false h = h

-- the names of the actions before
abbrev pub AreNames : List ℕ → List (List ℕ) → List Section → Type 0
AreNames source names before = (w : Span) → IsMet (IsActionNamed source w) (list_any (bytes_eq (text source w)) names) before

swapped : {X : Type 0} (b : Bool) (x y : X) → (if not b then x else y) ≡ (if b then y else x)
swapped true x y = refl
swapped false x y = refl

name_least : (source : List ℕ) (names : List (List ℕ)) (count : ℕ) (before : List Section) (w : Span) → AreNames source names before → count ≡ action_count before
    → IsFirstRefusal (λ r. (Among (IsActionNamed source w) before × IsRefusalAt w.start kind.RepeatedName r) ⊎ ((action_count before ≡ 256) × IsRefusalAt w.start (kind.TooMany 256) r)) (refusal_of (checked_name source names count w))
name_least source names count before w h c =
    let b = list_any (bytes_eq (text source w)) names in
    let full = refused_if (count == 256) w.start (kind.TooMany 256) in
    let R : Refusal → Type 0 = λ r. (Among (IsActionNamed source w) before × IsRefusalAt w.start kind.RepeatedName r) ⊎ ((action_count before ≡ 256) × IsRefusalAt w.start (kind.TooMany 256) r) in
    subst (IsFirstRefusal R) (sym (refused_unless (name_refusal_by (not b) count w.start) ∙ swapped b full (refusal_at w.start kind.RepeatedName)))
    (least_else (Among (IsActionNamed source w) before) (λ r. (action_count before ≡ 256) × IsRefusalAt w.start (kind.TooMany 256) r) b w.start kind.RepeatedName full (h w).0 (h w).1
    (λ q. least_test (action_count before ≡ 256) (count == 256) w.start (kind.TooMany 256) (λ q. let m = (Decides-eqb count 256).0 q in omega arith) (λ q. (Decides-eqb count 256).1 (omega arith)))
    (λ q k. at_later w.start (kind.TooMany 256) kind.RepeatedName q k.1 (omega arith)))

-- a name that passed is new
pub is_new : (source : List ℕ) (names : List (List ℕ)) (count : ℕ) (w : Span) (u : Unit {0}) → checked_name source names count w ≡ Ok u → list_any (bytes_eq (text source w)) names ≡ false
is_new source names count w u h = go (list_any (bytes_eq (text source w)) names) refl (nothing_refused (name_refusal_by (not (list_any (bytes_eq (text source w)) names)) count w.start) u h)
  where
    go : (b : Bool) → list_any (bytes_eq (text source w)) names ≡ b → name_refusal_by (not b) count w.start ≡ None → list_any (bytes_eq (text source w)) names ≡ false
    go true e k = absurd (some_none (record { at = w.start; kind = kind.RepeatedName }) (refusal_at w.start kind.RepeatedName) refl k)
    go false e k = e

pub names_more : (source : List ℕ) (names : List (List ℕ)) (before : List Section) (keyword name end : Span) (items : List Item) → AreNames source names before → list_any (bytes_eq (text source name)) names ≡ false
    → AreNames source (with_name names (text source name)) (before ++ section_of.Action keyword name items end ∷ [])
names_more source names before keyword name end items h new w =
    subst (λ b. IsMet (IsActionNamed source w) b (before ++ x ∷ [])) (sym (ap (list_any test) (with_new names (text source name) new) ∙ any_more test names (text source name)))
    (to (list_any test names) (h w), from (list_any test names) (h w))
  where
    x : Section
    x = section_of.Action keyword name items end

    test : List ℕ → Bool
    test = bytes_eq (text source w)

    to : (b : Bool) → IsMet (IsActionNamed source w) b before → (b || test (text source name)) ≡ true → Among (IsActionNamed source w) (before ++ x ∷ [])
    to true k q = among_more (IsActionNamed source w) before x (k.0 refl)
    to false k q = among_last (IsActionNamed source w) before x (sym ((bytes_eq-Decides (text source w) (text source name)).0 q))

    from : (b : Bool) → IsMet (IsActionNamed source w) b before → Among (IsActionNamed source w) (before ++ x ∷ []) → (b || test (text source name)) ≡ true
    from true k m = refl
    from false k m = elim (among_split (IsActionNamed source w) before x m) [ inl a ↦ absurd (false≢true (k.1 a)) | inr p ↦ (bytes_eq-Decides (text source w) (text source name)).1 (sym p) ]

-- what is told of an action
abbrev pub draft_told : List ℕ → Env → Span → List Item → Draft
draft_told source env name items = record {
  name = text source name;
  cost = first_of (cost_in source env) items;
  moves = map (move_of source env items) (range_with_len 0 (length env.variables));
  sights = map (sight_of source env items) (range_with_len 0 (length env.sights));
}

-- ---- an action

module _ (env : Env) (source : List ℕ) (e : IsEnv env) (made : HasMade env) where
  draft_least : (action : ℕ) (word end : Span) (list : List Item) (low high : ℕ) → AreRising low (all_spans item_spans list ++ end ∷ []) high
      → IsFirstRefusal (λ r. PartRow (ItemRow env source action) [] list r ⊎ (IsUnobserved env source list × IsRefusalAt end.start kind.MissingPart r)) (refusal_of (draft env source action word list end))
  unfolding draft draft_of sights_of
  draft_least action word end list low high rise =
      let cut = rising_split (all_spans item_spans list) (end ∷ []) low high rise in
      least_then (PartRow (ItemRow env source action) [] list) Missing (items env source action list) (λ l. draft_of env source word end.start l)
      (items_least env source e made action list low cut.0 cut.1)
      (λ l q. subst (IsFirstRefusal Missing) (sym (refused_ok (sights_of end.start l.sights) (λ sights. record { name = text source word; cost = l.cost; moves = moves_of env.scope l.moves; sights = sights })))
      (missing l (items_fit env source e made action list l q) (refusal_of (in_turn (sight_step end.start) [] l.sights)) (sights_refuse end.start [] l.sights)))
      (λ r q a b.
      let first = place_below (all_spans item_spans list) low cut.0 r.at cut.1 (items_place env source e made action list r a) in
      let second = place_above (end ∷ []) cut.0 high q.at cut.2 (inl (sym (at_place end.start kind.MissingPart q b.1))) in
      later q r (omega arith))
    where
      Missing : Refusal → Type 0
      Missing r = IsUnobserved env source list × IsRefusalAt end.start kind.MissingPart r

      missing : (l : Listed) → HasItems env source e made action list l → (o : Option Refusal) → Refuses end.start l.sights o → IsFirstRefusal Missing o
      missing l h o (inl k) =
          subst (IsFirstRefusal Missing) (sym k.0) (λ r m.
          let c = h.tables.sights_count in let small = m.0.1 in m.0.2 ((h.tables.seen m.0.0).0 (k.1 m.0.0 (omega arith))))
      missing l h o (inr k) =
          let c = h.tables.sights_count in let small = k.1.1 in
          subst (IsFirstRefusal Missing) (sym k.0)
          (least_only Missing (record { at = end.start; kind = kind.MissingPart }) ((k.1.0, omega arith, λ m. false≢true (sym k.1.2 ∙ (h.tables.seen k.1.0).1 m)), refl) (λ r m. m.1))

  pub action_least : (before : List Section) (s : State) (keyword name end : Span) (list : List Item) (low high : ℕ) → s.env ≡ env → AreNames source s.names before → length s.actions ≡ action_count before
      → AreRising low (section_spans (section_of.Action keyword name list end)) high → IsFirstRefusal (ActionRow env source before name list end) (refusal_of (action source s name list end))
  unfolding action
  action_least before s keyword name end list low high same names count (a, b, (c, d, rise)) =
      let N : Refusal → Type 0 = λ r. (Among (IsActionNamed source name) before × IsRefusalAt name.start kind.RepeatedName r) ⊎ ((action_count before ≡ 256) × IsRefusalAt name.start (kind.TooMany 256) r) in
      let M : Refusal → Type 0 = λ r. PartRow (ItemRow env source (action_count before)) [] list r ⊎ (IsUnobserved env source list × IsRefusalAt end.start kind.MissingPart r) in
      least_then N M (checked_name source s.names (length s.actions) name) _ (name_least source s.names (length s.actions) before name names count)
      (λ u q. subst (IsFirstRefusal M) (sym (refused_ok (draft s.env source (length s.actions) name list end) (λ d. record s { names = with_name s.names (text source name); actions = s.actions ++ d ∷ [] })
      ∙ (λ i. refusal_of (draft (same i) source (count i) name list end))))
      (draft_least (action_count before) name end list name.end high rise))
      (λ r q x y. later q r (behind r q x y))
    where
      behind : (r q : Refusal) → (Among (IsActionNamed source name) before × IsRefusalAt name.start kind.RepeatedName r) ⊎ ((action_count before ≡ 256) × IsRefusalAt name.start (kind.TooMany 256) r)
          → PartRow (ItemRow env source (action_count before)) [] list q ⊎ (IsUnobserved env source list × IsRefusalAt end.start kind.MissingPart q) → r.at < q.at
      behind r q x y = let m = first x in let n = second y in omega arith
        where
          first : (Among (IsActionNamed source name) before × IsRefusalAt name.start kind.RepeatedName r) ⊎ ((action_count before ≡ 256) × IsRefusalAt name.start (kind.TooMany 256) r) → r.at ≡ name.start
          first (inl k) = at_place name.start kind.RepeatedName r k.1
          first (inr k) = at_place name.start (kind.TooMany 256) r k.1

          second : PartRow (ItemRow env source (action_count before)) [] list q ⊎ (IsUnobserved env source list × IsRefusalAt end.start kind.MissingPart q) → name.end ≤ q.at
          second (inl k) = place_above (all_spans item_spans list ++ end ∷ []) name.end high q.at rise (has_left (all_spans item_spans list) (end ∷ []) q.at (items_place env source e made (action_count before) list q k))
          second (inr k) = place_above (all_spans item_spans list ++ end ∷ []) name.end high q.at rise (has_right (all_spans item_spans list) (end ∷ []) q.at (inl (sym (at_place end.start kind.MissingPart q k.1))))

  -- ---- what is told of an action

  map_same : {X : Type 0} (f g : ℕ → X) (ks : List ℕ) → ((k : ℕ) → f k ≡ g k) → map f ks ≡ map g ks
  map_same f g [] h = refl
  map_same f g (k ∷ ks) h = (λ i. h k i ∷ map_same f g ks h i)

  some_get : (fs : List Func) (k : ℕ) → k < length fs → slice_index_or (map (λ f. Some f) fs) k None ≡ Some (slice_index_or fs k no_func)
  some_get [] k l = absurd (omega arith)
  some_get (f ∷ fs) zero l = refl
  some_get (f ∷ fs) (suc k) l = some_get fs k (omega arith)

  pub draft_is : (action : ℕ) (word end : Span) (list : List Item) (d : Draft) → draft env source action word list end ≡ Ok d → d ≡ draft_told source env word list
  unfolding draft draft_of
  draft_is action word end list d q =
      let a = stood (items env source action list) (λ l. draft_of env source word end.start l) d q in
      let l = a.value in
      let b = stood (sights_of end.start l.sights) (λ sights. Ok (record { name = text source word; cost = l.cost; moves = moves_of env.scope l.moves; sights = sights })) d a.then in
      let fit = items_fit env source e made action list l a.was in
      let all : map Some b.value ≡ l.sights = sights_are end.start l.sights b.value b.was in
      let count : length b.value ≡ length env.sights = sym (length-map b.value Some) ∙ ap length all ∙ fit.tables.sights_count in
      let moves : moves_of env.scope l.moves ≡ map (move_of source env list) (range_with_len 0 (length env.variables)) =
      map_same (λ i. or_identity env.scope i (slice_index_or l.moves i None)) (move_of source env list) (range_with_len 0 (length l.moves)) (λ i. ap (or_identity env.scope i) (fit.funcs.move i))
      ∙ ap (λ n. map (move_of source env list) (range_with_len 0 n)) fit.tables.moves_count in
      let sights : b.value ≡ map (sight_of source env list) (range_with_len 0 (length env.sights)) =
      fill_by_all (sight_of source env list) b.value (length env.sights) no_func count
      (λ k small. ap (or_zero env.scope) (sym (some_get b.value k (omega arith)) ∙ ap (λ ts. slice_index_or ts k None) all ∙ fit.funcs.sight k)) in
      sym (let z : record { name = text source word; cost = l.cost; moves = moves_of env.scope l.moves; sights = b.value } ≡ d = cc (b.then) in z)
      ∙ (λ i. record { name = text source word; cost = fit.worth i; moves = moves i; sights = sights i })

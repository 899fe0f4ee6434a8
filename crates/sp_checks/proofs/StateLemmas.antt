-- What each section keeps.
use Rattle.std.proofs.Common.{◌≡◌, ℕ, zero, suc, ◌+◌, ◌*◌, ◌<◌, ◌≤◌, ◌==◌, Bool, true, false, not, List, [], ◌∷◌, ◌++◌, Ok, Err, refl, sym, ap, ap₂, subst, ◌∙◌, arith, length, map, append-nil, append_assoc, length-append}
use Rattle.std.specs.Prelude.{Result, Option, Some, None, IfSome, slice_index_or, if◌then◌else◌, int_le, ◌&&◌, ℤ, pos, unsigned_abs}
use Rattle.std.specs.List.{list_any}
use Rattle.std.specs.Str.{bytes_eq}
use Rattle.std.proofs.lemmas.Int.{ints}
use Rattle.std.proofs.lemmas.Bool.Decides.{nat_tests}
use Rattle.std.proofs.lemmas.List.{map-append, length-map}
use Rattle.std.proofs.lemmas.List.FromFn.{length-map-range_with_len, get_or-map-range_with_len}
use Rattle.sp_dd.specs.Func.{Shape, Func, IsScope}
use Rattle.sp_lex.specs.declared.lexeme.Span.{Span}
use Rattle.sp_syntax.specs.declared.text.Tree.{Tree}
use Rattle.sp_syntax.specs.declared.text.Item.{Item}
use Rattle.sp_syntax.specs.declared.text.Section.{Section}
use Rattle.sp_syntax.specs.declared.text.Section.TheVariants as section_of
use Rattle.sp_model.specs.Words.{IsModelName}
use Rattle.sp_model.specs.Kept.{IsTransitionTable, IsSight, AreDifferent}
use Rattle.sp_model.specs.Problem.{no_func, sizes_of}
use Rattle.sp_model.proofs.SlotPoints.{length-doubled}
use Rattle.sp_model.proofs.Counts.{length-sizes_of}
use Rattle.sp_names.specs.Names.{with_name}
use Rattle.sp_rows.proofs.LawLemmas.{identity_move}
use Rattle.sp_lex.specs.declared.decimal.NumError.{NumError}
use Rattle.sp_lex.specs.Decimal.{ticks_of}
use Rattle.sp_trees.specs.declared.refusal.Refusal.{Refusal}
use Rattle.sp_trees.specs.declared.refusal.ModelKind.TheVariants as kind
use Rattle.sp_trees.specs.declared.env.Env.{Env}
use Rattle.sp_trees.specs.Refusals.{refused_if}
use Rattle.sp_trees.specs.Good.{IsGood}
use Rattle.sp_trees.specs.Words.{text}
use Rattle.sp_declarations.specs.Steps.{◌>>=◌, in_turn}
use Rattle.sp_declarations.specs.Declarations.{refusal_at}
use Rattle.sp_checks.specs.declared.roles.Role.TheVariants as role
use Rattle.sp_checks.specs.declared.state.Draft.{Draft}
use Rattle.sp_checks.specs.declared.state.State.{State}
use Rattle.sp_checks.specs.Accepted.{accepted}
use Rattle.sp_checks.specs.Actions.{items, or_identity, moves_of, sight_step, sights_of, name_refusal_by, checked_name, draft_of, draft, action}
use Rattle.sp_checks.specs.Sections.{checked_dd, checked_reward, checked_discount, dd, reward, within_range, discount_by, discount_of, discount, section}
use Rattle.sp_checks.specs.Source.{HasName}
use Rattle.sp_checks.specs.Kept.{IsFitEnv, IsActionDraft, IsReadingState}
use Rattle.sp_declarations.proofs.StepLemmas.{stood, nothing_refused, all_more}
use Rattle.sp_declarations.proofs.NameLemmas.{different_more, with_new}
use Rattle.sp_checks.proofs.TableLemmas.{accepted_kept, worth_kept}
use Rattle.sp_checks.proofs.ListingLemmas.{items_kept}
use Rattle.sp_checks.specs.Initial.{init, checked_init, factors, share_of, factor_trees}
use Rattle.sp_checks.proofs.FactorLemmas.{factors_kept}

-- ---- the tables of an action
or_identity_move : (s : Shape) (i : ℕ) (t : Option Func) → IsScope s → i < s.variables → IfSome t (IsTransitionTable s i) → IsTransitionTable s i (or_identity s i t)
or_identity_move s i None scope h k = identity_move s i scope h
or_identity_move s i (Some f) scope h k = k

-- the tables of the observation variables are all listed
sights_from : (at : ℕ) (ts : List (Option Func)) (done fs : List Func) → in_turn (sight_step at) done ts ≡ Ok fs → map Some fs ≡ map Some done ++ ts
unfolding in_turn
sights_from at [] done fs h = let e : done ≡ fs = cc in ap (map Some) (sym e) ∙ sym (append-nil (map Some done))
sights_from at (None ∷ ts) done fs h = cc
sights_from at (Some f ∷ ts) done fs h =
    sights_from at ts (done ++ f ∷ []) fs h ∙ ap (λ xs. xs ++ ts) (map-append Some done (f ∷ [])) ∙ append_assoc (map Some done) (Some f ∷ []) ts

pub sights_are : (at : ℕ) (ts : List (Option Func)) (fs : List Func) → sights_of at ts ≡ Ok fs → map Some fs ≡ ts
unfolding sights_of
sights_are at ts fs h = sights_from at ts [] fs h

some_at : (P : Func → Type 0) (fs : List Func) (j : ℕ) → j < length fs → IfSome (slice_index_or (map Some fs) j None) P → P (slice_index_or fs j no_func)
some_at P [] j l h = absurd (omega arith)
some_at P (f ∷ fs) zero l h = h
some_at P (f ∷ fs) (suc j) l h = some_at P fs j (omega arith) h

pub draft_kept : (env : Env) (source : List ℕ) (number : ℕ) (word : Span) (list : List Item) (end : Span) (d : Draft) → IsFitEnv env → IsModelName (text source word) → draft env source number word list end ≡ Ok d → IsActionDraft env.scope d
unfolding draft draft_of
draft_kept env source number word list end d fit name h =
    let a = stood _ _ _ h in
    let b = stood _ _ _ a.then in
    let l = a.value in
    let k = items_kept env source fit number list l a.was in
    let all : map Some b.value ≡ l.sights = sights_are end.start l.sights b.value b.was in
    let shape : env.scope.variables ≡ length env.variables = ap (λ (s : Shape). s.variables) fit.env_kept.shape in
    let long : length env.scope.sizes ≡ 2 * length env.variables + length env.sights =
    ap (λ (s : Shape). length s.sizes) fit.env_kept.shape ∙ length-doubled (sizes_of env.variables) (sizes_of env.sights) ∙ ap₂ (λ a b. 2 * a + b) (length-sizes_of env.variables) (length-sizes_of env.sights) in
    let count : length b.value ≡ length env.sights = sym (length-map b.value Some) ∙ ap length all ∙ k.sights_count in
    let counted : length l.moves ≡ env.scope.variables = k.moves_count ∙ sym shape in
    subst (IsActionDraft env.scope) (let e : record { name = text source word; cost = l.cost; moves = moves_of env.scope l.moves; sights = b.value } ≡ d = cc (b.then) in e)
    (record {
      name = name;
      cost = k.cost;
      moves_count = length-map-range_with_len _ 0 (length l.moves) ∙ counted;
      moves = λ i h. let here : i < length l.moves = omega arith in
          subst (IsTransitionTable env.scope i) (sym (get_or-map-range_with_len (λ i. or_identity env.scope i (slice_index_or l.moves i None)) 0 (length l.moves) i i no_func here (omega arith)))
          (or_identity_move env.scope i (slice_index_or l.moves i None) fit.env_kept.scope h (k.moves i None here));
      sights_count = omega arith;
      sights = λ j h. some_at (IsSight env.scope j) b.value j h
          (subst (λ (ts : List (Option Func)). IfSome (slice_index_or ts j None) (IsSight env.scope j)) (sym all) (k.sights j None (let c = k.sights_count in omega arith)));
    })

draft_name : (env : Env) (source : List ℕ) (number : ℕ) (word : Span) (list : List Item) (end : Span) (d : Draft) → draft env source number word list end ≡ Ok d → d.name ≡ text source word
unfolding draft draft_of
draft_name env source number word list end d h =
    let a = stood (items env source number list) (λ l. draft_of env source word end.start l) d h in
    let b = stood (sights_of end.start a.value.sights) (λ sights. Ok (record { name = text source word; cost = a.value.cost; moves = moves_of env.scope a.value.moves; sights = sights })) d a.then in
    ap (λ (d : Draft). d.name) (let e : d ≡ record { name = text source word; cost = a.value.cost; moves = moves_of env.scope a.value.moves; sights = b.value } = cc (b.then) in e)

-- ---- sections
abbrev range_by : Bool → ℕ → ℤ → Result ℕ Refusal
range_by b at v = if b then Ok (unsigned_abs v) else Err (record { at = at; kind = kind.DiscountRange })

within_small : (at : ℕ) (v : ℤ) (g : ℕ) → within_range at v ≡ Ok g → g ≤ 999000000
within_small at v g h = go (int_le (pos 0) v) (int_le v (pos 999000000)) refl refl h
  where
    small : int_le (pos 0) v ≡ true → int_le v (pos 999000000) ≡ true → unsigned_abs v ≤ 999000000
    small a b = grind (arith, ints)

    go : (x y : Bool) → int_le (pos 0) v ≡ x → int_le v (pos 999000000) ≡ y → range_by (x && y) at v ≡ Ok g → g ≤ 999000000
    go true true a b h = subst (λ (n : ℕ). n ≤ 999000000) (let e : unsigned_abs v ≡ g = cc in e) (small a b)
    go true false a b h = cc
    go false y a b h = cc

discount_small : (source : List ℕ) (word : Span) (g : ℕ) → discount_of source word ≡ Ok g → g ≤ 999000000
unfolding discount_of
discount_small source word g h = go (ticks_of (text source word)) h
  where
    go : (r : Result ℤ NumError) → discount_by word.start r ≡ Ok g → g ≤ 999000000
    go (Ok v) h = within_small word.start v g h
    go (Err e) h = cc

pub record IsNewName (names : List (List ℕ)) (word : List ℕ) (count : ℕ) : Type 0 where
  pub new : list_any (bytes_eq word) names ≡ false
  pub few : (count == 256) ≡ false

abbrev name_by : Bool → Bool → ℕ → Option Refusal
name_by is_new full at = if is_new then refused_if full at (kind.TooMany 256) else refusal_at at kind.RepeatedName

new_name : (names : List (List ℕ)) (word : List ℕ) (count at : ℕ) → name_refusal_by (not (list_any (bytes_eq word) names)) count at ≡ None → IsNewName names word count
new_name names word count at h = go (list_any (bytes_eq word) names) (count == 256) refl refl h
  where
    go : (a b : Bool) → list_any (bytes_eq word) names ≡ a → (count == 256) ≡ b → name_by (not a) b at ≡ None → IsNewName names word count
    go true b e f h = cc
    go false true e f h = cc
    go false false e f h = record { new = e; few = f }

not_full : (count : ℕ) → count ≤ 256 → (count == 256) ≡ false → count + 1 ≤ 256
not_full count h e = grind (arith, nat_tests)

module _ (source : List ℕ) (s : State) (k : IsReadingState s) where
  init_state : (keyword : Span) (t : Tree) (u : State) → init source s keyword t ≡ Ok u → IsReadingState u
  unfolding init
  init_state keyword t u h =
      let a = stood (checked_init s keyword.start) (λ _. (factors s.env.scope.variables keyword.start (map (share_of s.env source) (factor_trees t))) >>= λ fs. Ok (record s { init = Some fs })) u h in
      let b = stood (factors s.env.scope.variables keyword.start (map (share_of s.env source) (factor_trees t))) (λ fs. Ok (record s { init = Some fs })) u a.then in
      subst IsReadingState (let e : record s { init = Some b.value } ≡ u = cc (b.then) in e)
      (record { env = k.env; names = k.names; different = k.different; few = k.few; actions = k.actions; init = factors_kept s.env source k.env keyword.start (factor_trees t) b.value b.was; reward = k.reward; discount = k.discount })

  dd_state : (word : Span) (t : Tree) (u : State) → dd source s word t ≡ Ok u → IsReadingState u
  unfolding dd
  dd_state word t u h =
      let a = stood (checked_dd source s.env.dds word) (λ _. accepted s.env source role.Dd t >>= (λ a. Ok (record s { env = record s.env { dds = s.env.dds ++ (text source word, record { mentions = a.mentions; func = a.func }) ∷ [] } }))) u h in
      let b = stood (accepted s.env source role.Dd t) (λ a. Ok (record s { env = record s.env { dds = s.env.dds ++ (text source word, record { mentions = a.mentions; func = a.func }) ∷ [] } })) u a.then in
      let good = (accepted_kept s.env source role.Dd t b.value k.env.env_kept b.was).0 in
      let dds = s.env.dds ++ (text source word, record { mentions = b.value.mentions; func = b.value.func }) ∷ [] in
      subst IsReadingState (let e : record s { env = record s.env { dds = dds } } ≡ u = cc (b.then) in e)
      (record {
        env = record {
          env_kept = record { shape = k.env.env_kept.shape; scope = k.env.env_kept.scope; dds = all_more (λ d. IsGood s.env.scope d.1.mentions d.1.func) s.env.dds _ k.env.env_kept.dds good };
          declared = k.env.declared;
        };
        names = k.names;
        different = k.different;
        few = k.few;
        actions = k.actions;
        init = k.init;
        reward = k.reward;
        discount = k.discount;
      })

  reward_state : (keyword : Span) (t : Tree) (u : State) → reward source s keyword t ≡ Ok u → IsReadingState u
  unfolding reward
  reward_state keyword t u h =
      let a = stood (checked_reward s keyword.start) (λ _. accepted s.env source role.Reward t >>= (λ a. Ok (record s { reward = Some a.func }))) u h in
      let b = stood (accepted s.env source role.Reward t) (λ a. Ok (record s { reward = Some a.func })) u a.then in
      subst IsReadingState (let e : record s { reward = Some b.value.func } ≡ u = cc (b.then) in e)
      (record { env = k.env; names = k.names; different = k.different; few = k.few; actions = k.actions; init = k.init; reward = worth_kept s.env source t b.value k.env.env_kept b.was; discount = k.discount })

  discount_state : (keyword word : Span) (u : State) → discount source s keyword word ≡ Ok u → IsReadingState u
  unfolding discount
  discount_state keyword word u h =
      let a = stood (checked_discount s keyword.start) (λ _. discount_of source word >>= (λ g. Ok (record s { discount = Some g }))) u h in
      let b = stood (discount_of source word) (λ g. Ok (record s { discount = Some g })) u a.then in
      subst IsReadingState (let e : record s { discount = Some b.value } ≡ u = cc (b.then) in e)
      (record { env = k.env; names = k.names; different = k.different; few = k.few; actions = k.actions; init = k.init; reward = k.reward; discount = discount_small source word b.value b.was })

  action_state : (word : Span) (list : List Item) (end : Span) (u : State) → IsModelName (text source word) → action source s word list end ≡ Ok u → IsReadingState u
  unfolding action
  action_state word list end u name h =
      let a = stood (checked_name source s.names (length s.actions) word) (λ _. draft s.env source (length s.actions) word list end >>= (λ d. Ok (record s { names = with_name s.names (text source word); actions = s.actions ++ d ∷ [] }))) u h in
      let b = stood (draft s.env source (length s.actions) word list end) (λ d. Ok (record s { names = with_name s.names (text source word); actions = s.actions ++ d ∷ [] })) u a.then in
      let w = text source word in
      let d = b.value in
      let new = new_name s.names w (length s.actions) word.start (nothing_refused _ a.value a.was) in
      let names : with_name s.names w ≡ s.names ++ w ∷ [] = with_new s.names w new.new in
      subst IsReadingState (let e : record s { names = with_name s.names w; actions = s.actions ++ d ∷ [] } ≡ u = cc (b.then) in e)
      (record {
        env = k.env;
        names = names ∙ ap₂ (λ xs y. xs ++ y ∷ []) k.names (sym (draft_name s.env source (length s.actions) word list end d b.was)) ∙ sym (map-append (λ (d : Draft). d.name) s.actions (d ∷ []));
        different = subst AreDifferent (sym names) (different_more s.names w k.different new.new);
        few = let l = length-append s.actions (d ∷ []) in let m = not_full (length s.actions) k.few new.few in omega arith;
        actions = all_more (IsActionDraft s.env.scope) s.actions d k.actions (draft_kept s.env source (length s.actions) word list end d k.env name b.was);
        init = k.init;
        reward = k.reward;
        discount = k.discount;
      })

  pub section_state : (x : Section) (u : State) → HasName source x → section source s x ≡ Ok u → IsReadingState u
  section_state (section_of.Init keyword t) u n h = init_state keyword t u h
  section_state (section_of.Dd keyword name t end) u n h = dd_state name t u h
  section_state (section_of.Action keyword name items end) u n h = action_state name items end u n h
  section_state (section_of.Reward keyword t) u n h = reward_state keyword t u h
  section_state (section_of.Discount keyword word) u n h = discount_state keyword word u h
  section_state (section_of.Horizon keyword word) u n h = subst IsReadingState (let e : s ≡ u = cc in e) k
  section_state (section_of.Tolerance keyword word) u n h = subst IsReadingState (let e : s ≡ u = cc in e) k

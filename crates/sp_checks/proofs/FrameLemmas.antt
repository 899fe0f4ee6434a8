-- The sections of a text, one after another: the first refused one gives the least refusal, and what was read is what the text tells.
use Rattle.std.proofs.Common.{◌≡◌, ℕ, ◌+◌, ◌&&◌, Bool, true, false, List, [], ◌∷◌, ◌++◌, map, length, Option, Some, None, Ok, Err, refl, sym, ap, ◌∙◌, subst, arith, inl, inr, append_assoc, append-nil, length-append}
use Rattle.std.specs.Prelude.{◌⊎◌, ℤ, pos, int_le, ◌≤ℤ◌, unsigned_abs, Result, is_some, find, option_map, cond, if◌then◌else◌}
use Rattle.std.specs.Str.{bytes_eq}
use Rattle.std.proofs.lemmas.Int.{ints}
use Rattle.std.proofs.lemmas.Bool.{false≢true}
use Rattle.std.proofs.lemmas.List.Sums.{fold-append}
use Rattle.std.proofs.lemmas.Slice.Eq.{bytes_eq-Decides}
use Rattle.sp_lex.specs.declared.lexeme.Span.{Span}
use Rattle.sp_lex.specs.declared.decimal.NumError.{NumError}
use Rattle.sp_lex.specs.Decimal.{ticks_of}
use Rattle.sp_syntax.specs.declared.text.Tree.{Tree}
use Rattle.sp_syntax.specs.declared.text.Item.{Item}
use Rattle.sp_syntax.specs.declared.text.Section.{Section}
use Rattle.sp_syntax.specs.declared.text.Section.TheVariants as section_of
use Rattle.sp_dd.specs.Func.{IsFunc}
use Rattle.sp_dd.proofs.FuncLemmas.{IsFunc-function_of}
use Rattle.sp_names.specs.Names.{with_name}
use Rattle.sp_trees.specs.declared.refusal.Refusal.{Refusal}
use Rattle.sp_trees.specs.declared.refusal.ModelKind.TheVariants as kind
use Rattle.sp_trees.specs.declared.env.Env.{Env}
use Rattle.sp_trees.specs.declared.env.Dd.{Dd}
use Rattle.sp_trees.specs.Refusals.{refused_if}
use Rattle.sp_trees.specs.Words.{text}
use Rattle.sp_trees.specs.Dds.{dd_of_name}
use Rattle.sp_trees.specs.Good.{IsGood, IsEnv}
use Rattle.sp_trees.specs.Rows.{IsFirstRefusal, Among, IsRefusalAt}
use Rattle.sp_trees.specs.Told.{func_of, HasMade}
use Rattle.sp_trees.proofs.LeastLemmas.{least_same, least_only}
use Rattle.sp_syntax.specs.Spans.{AreRising, tree_spans, section_spans, all_spans}
use Rattle.sp_declarations.specs.Steps.{◌>>=◌, in_turn}
use Rattle.sp_declarations.specs.Rows.{PartRow, HasPlace, refusal_of}
use Rattle.sp_declarations.proofs.StepLemmas.{stood, nothing_refused, not_if, all_more}
use Rattle.sp_declarations.proofs.ChainLemmas.{rising_split, part_place, turns_least, turns_fit}
use Rattle.sp_checks.specs.declared.roles.Role.TheVariants as role
use Rattle.sp_checks.specs.declared.state.Draft.{Draft}
use Rattle.sp_checks.specs.declared.state.State.{State}
use Rattle.sp_checks.specs.Roles.{allowed_slots}
use Rattle.sp_checks.specs.Accepted.{accepted}
use Rattle.sp_checks.specs.Initial.{init, checked_init, factors, share_of, factor_trees}
use Rattle.sp_checks.specs.Actions.{action, checked_name, draft}
use Rattle.sp_checks.specs.Sections.{number_kind, checked_dd, dd, checked_reward, reward, within_range, discount_by, discount_of, checked_discount, discount, section}
use Rattle.sp_checks.specs.Told.{env_with, env_after, or_else, first_from, all_from, factor_of, reward_in, init_in, ticks_in, discount_in}
use Rattle.sp_checks.specs.Standing.{IsInit, IsRewardSection, IsDiscount, IsActionNamed, IsDdNamed, one_action, action_count}
use Rattle.sp_checks.proofs.TextRows.{RoleRow, InitRow, ActionRow, NumberRow, SectionRow}
use Rattle.sp_checks.proofs.PlaceLemmas.{row_place}
use Rattle.sp_checks.proofs.AmongLemmas.{among_more, among_last, among_split, IsMet, met_same, met_new, once_then}
use Rattle.sp_checks.proofs.PlaceNames.{none_of, or_else_none, or_else_assoc}
use Rattle.sp_checks.proofs.RowPlaceLemmas.{number_place, section_place}
use Rattle.sp_checks.proofs.RoleRowLemmas.{role_least, role_told}
use Rattle.sp_checks.proofs.InitRowLemmas.{init_least, factors_are}
use Rattle.sp_checks.proofs.ActionRowLemmas.{AreNames, is_new, names_more, draft_told, draft_is, action_least}

-- ---- a discount

number_least : (w : Span) (read : Result ℤ NumError) → IsFirstRefusal (NumberRow w.start read) (refusal_of (discount_by w.start read))
number_least w (Err e) =
    least_only (NumberRow w.start (Err e)) (record { at = w.start; kind = number_kind e }) (inl (e, refl, refl))
    (λ r h. elim h [ inl p ↦ p.2 ∙ ap (λ z. record { at = w.start; kind = number_kind z }) (sym (same e p.0 (Err e) refl p.1)) | inr p ↦ absurd (apart p.0 (Err e) refl p.1) ])
  where
    same : (y z : NumError) (r : Result ℤ NumError) → r ≡ Err y → r ≡ Err z → y ≡ z
    same y z r q k = cc

    apart : (v : ℤ) (r : Result ℤ NumError) → r ≡ Err e → r ≡ Ok v → ⊥
    apart v r q k = cc
number_least w (Ok v) =
    least_same (λ r. (¬ ((pos 0 ≤ℤ v) × (v ≤ℤ pos 999000000))) × IsRefusalAt w.start kind.DiscountRange r) (NumberRow w.start (Ok v)) (refusal_of (within_range w.start v))
    (λ r p. inr (v, refl, p.0, p.1))
    (λ r h. elim h [ inl p ↦ absurd (apart p.0 (Ok v) refl p.1) | inr p ↦ (subst (λ z. ¬ ((pos 0 ≤ℤ z) × (z ≤ℤ pos 999000000))) (sym (same v p.0 (Ok v) refl p.1)) p.2, p.3) ])
    (go (int_le (pos 0) v && int_le v (pos 999000000)) refl)
  where
    same : (y z : ℤ) (r : Result ℤ NumError) → r ≡ Ok y → r ≡ Ok z → y ≡ z
    same y z r q k = cc

    apart : (z : NumError) (r : Result ℤ NumError) → r ≡ Ok v → r ≡ Err z → ⊥
    apart z r q k = cc

    inside : (v : ℤ) → (int_le (pos 0) v && int_le v (pos 999000000)) ≡ true → (pos 0 ≤ℤ v) × (v ≤ℤ pos 999000000)
    inside v e = (low v e, high v e)
      where
        low : (v : ℤ) → (int_le (pos 0) v && int_le v (pos 999000000)) ≡ true → pos 0 ≤ℤ v
        low v e = grind (arith, ints)

        high : (v : ℤ) → (int_le (pos 0) v && int_le v (pos 999000000)) ≡ true → v ≤ℤ pos 999000000
        high v e = grind (arith, ints)

    outside : (v : ℤ) → (int_le (pos 0) v && int_le v (pos 999000000)) ≡ false → ¬ ((pos 0 ≤ℤ v) × (v ≤ℤ pos 999000000))
    outside v e (a, b) = false≢true (sym e ∙ both v a b)
      where
        both : (v : ℤ) → pos 0 ≤ℤ v → v ≤ℤ pos 999000000 → (int_le (pos 0) v && int_le v (pos 999000000)) ≡ true
        both v a b = grind (arith, ints)

    go : (b : Bool) → (int_le (pos 0) v && int_le v (pos 999000000)) ≡ b
        → IsFirstRefusal (λ r. (¬ ((pos 0 ≤ℤ v) × (v ≤ℤ pos 999000000))) × IsRefusalAt w.start kind.DiscountRange r) (refusal_of (if b then Ok (unsigned_abs v) else Err (record { at = w.start; kind = kind.DiscountRange })))
    go true e = λ r h. h.0 (inside v e)
    go false e = least_only (λ r. (¬ ((pos 0 ≤ℤ v) × (v ≤ℤ pos 999000000))) × IsRefusalAt w.start kind.DiscountRange r) (record { at = w.start; kind = kind.DiscountRange }) (outside v e, refl) (λ r h. h.1)

number_told : (at : ℕ) (read : Result ℤ NumError) (g : ℕ) → discount_by at read ≡ Ok g → ticks_in read ≡ Some g
number_told at (Err e) g h = cc
number_told at (Ok v) g h = go (int_le (pos 0) v && int_le v (pos 999000000)) h
  where
    range : Bool → Result ℕ Refusal
    range b = if b then Ok (unsigned_abs v) else Err (record { at = at; kind = kind.DiscountRange })

    go : (b : Bool) → range b ≡ Ok g → Some (unsigned_abs v) ≡ Some g
    go true k = ap (λ n. Some n) (let q : unsigned_abs v ≡ g = cc in q)
    go false k = cc

-- ---- dds by name

found_more : (w n : List ℕ) (d : Dd) (ds : List (List ℕ × Dd)) → is_some (dd_of_name w (ds ++ (n, d) ∷ [])) ≡ true → (is_some (dd_of_name w ds) ≡ true) ⊎ (w ≡ n)
found_more w n d [] h = go (bytes_eq w n) refl h
  where
    go : (b : Bool) → bytes_eq w n ≡ b → is_some (option_map (λ (d : List ℕ × Dd). d.1) (cond b (Some (n, d)) None)) ≡ true → (is_some (dd_of_name w []) ≡ true) ⊎ (w ≡ n)
    go true e q = inr ((bytes_eq-Decides w n).0 e)
    go false e q = absurd (false≢true q)
found_more w n d (x ∷ ds) h = go (bytes_eq w x.0) h (found_more w n d ds)
  where
    go : (b : Bool) → is_some (option_map (λ (d : List ℕ × Dd). d.1) (cond b (Some x) (find (λ d. bytes_eq w d.0) (ds ++ (n, d) ∷ [])))) ≡ true → (is_some (dd_of_name w (ds ++ (n, d) ∷ [])) ≡ true → (is_some (dd_of_name w ds) ≡ true) ⊎ (w ≡ n))
        → (is_some (option_map (λ (d : List ℕ × Dd). d.1) (cond b (Some x) (find (λ d. bytes_eq w d.0) ds))) ≡ true) ⊎ (w ≡ n)
    go true q more = inl refl
    go false q more = more q

found_kept : (w n : List ℕ) (d : Dd) (ds : List (List ℕ × Dd)) → (is_some (dd_of_name w ds) ≡ true) ⊎ (w ≡ n) → is_some (dd_of_name w (ds ++ (n, d) ∷ [])) ≡ true
found_kept w n d [] (inl h) = absurd (false≢true h)
found_kept w n d [] (inr e) = ap (λ b. is_some (option_map (λ (d : List ℕ × Dd). d.1) (cond b (Some (n, d)) None))) ((bytes_eq-Decides w n).1 e)
found_kept w n d (x ∷ ds) h = go (bytes_eq w x.0) h (found_kept w n d ds)
  where
    go : (b : Bool) → (is_some (option_map (λ (d : List ℕ × Dd). d.1) (cond b (Some x) (find (λ d. bytes_eq w d.0) ds))) ≡ true) ⊎ (w ≡ n) → ((is_some (dd_of_name w ds) ≡ true) ⊎ (w ≡ n) → is_some (dd_of_name w (ds ++ (n, d) ∷ [])) ≡ true)
        → is_some (option_map (λ (d : List ℕ × Dd). d.1) (cond b (Some x) (find (λ d. bytes_eq w d.0) (ds ++ (n, d) ∷ [])))) ≡ true
    go true q more = refl
    go false q more = more q

-- ---- what sections give

module _ {Y : Type 0} (source : List ℕ) where
  pub first_from_more : (give : Env → Section → Option Y) (env : Env) (before : List Section) (x : Section) → first_from source give env (before ++ x ∷ []) ≡ or_else (first_from source give env before) (give (env_after source env before) x)
  first_from_more give env [] x = or_else_none (give env x)
  first_from_more give env (y ∷ before) x =
      ap (or_else (give env y)) (first_from_more give (env_with source env y) before x) ∙ sym (or_else_assoc (give env y) (first_from source give (env_with source env y) before) (give (env_after source (env_with source env y) before) x))

  pub all_from_more : (give : Env → Section → List Y) (env : Env) (before : List Section) (x : Section) → all_from source give env (before ++ x ∷ []) ≡ all_from source give env before ++ give (env_after source env before) x
  all_from_more give env [] x = append-nil (give env x)
  all_from_more give env (y ∷ before) x =
      ap (λ ys. give env y ++ ys) (all_from_more give (env_with source env y) before x) ∙ sym (append_assoc (give env y) (all_from source give (env_with source env y) before) (give (env_after source (env_with source env y) before) x))

-- what is told of an action among sections
abbrev pub draft_in : List ℕ → Env → Section → List Draft
draft_in source env (section_of.Action keyword name items end) = draft_told source env name items ∷ []
draft_in source env _ = []

-- ---- what was read of some sections

module _ (source : List ℕ) (env : Env) where
  pub record HasDds (before : List Section) (v : Env) : Type 0 where
    pub is : v ≡ env_after source env before
    pub kept : IsEnv v
    pub made : HasMade v
    pub names : (w : Span) → IsMet (IsDdNamed source w) (is_some (dd_of_name (text source w) v.dds)) before

  -- a part that comes once
  pub record HasOnce {Y : Type 0} (P : Section → Type 0) (give : Env → Section → Option Y) (o : Option Y) (before : List Section) : Type 0 where
    pub met : IsMet P (is_some o) before
    pub told : o ≡ first_from source give env before

  pub record HasActions (names : List (List ℕ)) (drafts : List Draft) (before : List Section) : Type 0 where
    pub named : AreNames source names before
    pub count : length drafts ≡ action_count before
    pub told : drafts ≡ all_from source (draft_in source) env before

  pub record HasRead (before : List Section) (s : State) : Type 0 where
    pub dds : HasDds before s.env
    pub reward : HasOnce IsRewardSection (reward_in source) s.reward before
    pub discount : HasOnce IsDiscount (discount_in source) s.discount before
    pub init : HasOnce IsInit (init_in source) s.init before
    pub actions : HasActions s.names s.actions before

  env_more : (before : List Section) (x : Section) → env_after source env (before ++ x ∷ []) ≡ env_with source (env_after source env before) x
  env_more before x = fold-append (env_with source) env before (x ∷ [])

  count_more : (before : List Section) (x : Section) → action_count (before ++ x ∷ []) ≡ action_count before + one_action x
  count_more before x = fold-append (λ n s. n + one_action s) 0 before (x ∷ [])

  -- ---- a section that leaves a part as it was

  module _ (before : List Section) (x : Section) where
    dds_same : (v : Env) → ((e : Env) → env_with source e x ≡ e) → ((w : Span) → IsDdNamed source w x → ⊥) → HasDds before v → HasDds (before ++ x ∷ []) v
    dds_same v same never h = record {
      is = h.is ∙ sym (env_more before x ∙ same (env_after source env before));
      kept = h.kept;
      made = h.made;
      names = λ w. met_same (IsDdNamed source w) (is_some (dd_of_name (text source w) v.dds)) before x (never w) (h.names w);
    }

    once_same : {Y : Type 0} (P : Section → Type 0) (give : Env → Section → Option Y) (o : Option Y) → (P x → ⊥) → ((e : Env) → give e x ≡ None) → HasOnce P give o before → HasOnce P give o (before ++ x ∷ [])
    once_same P give o never none h = record {
      met = met_same P (is_some o) before x never h.met;
      told = h.told ∙ sym (first_from_more source give env before x ∙ ap (or_else (first_from source give env before)) (none (env_after source env before)) ∙ or_else_none (first_from source give env before));
    }

    once_new : {Y : Type 0} (P : Section → Type 0) (give : Env → Section → Option Y) (o : Option Y) (y : Y) → P x → is_some o ≡ false → give (env_after source env before) x ≡ Some y → HasOnce P give o before → HasOnce P give (Some y) (before ++ x ∷ [])
    once_new P give o y p new told h = record {
      met = met_new P true before x refl p;
      told =
          sym (first_from_more source give env before x ∙ ap (λ z. or_else z (give (env_after source env before) x)) (sym h.told ∙ none_of o new) ∙ told);
    }

    actions_same : (names : List (List ℕ)) (drafts : List Draft) → one_action x ≡ 0 → ((w : Span) → IsActionNamed source w x → ⊥) → ((e : Env) → draft_in source e x ≡ []) → HasActions names drafts before → HasActions names drafts (before ++ x ∷ [])
    actions_same names drafts zero never none h = record {
      named = λ w. met_same (IsActionNamed source w) _ before x (never w) (h.named w);
      count = let m = count_more before x in let c = h.count in omega arith;
      told = h.told ∙ sym (all_from_more source (draft_in source) env before x ∙ ap (λ ds. all_from source (draft_in source) env before ++ ds) (none (env_after source env before)) ∙ append-nil (all_from source (draft_in source) env before));
    }

  -- ---- rows of the sections

  dd_least : (before : List Section) (s : State) (keyword name end : Span) (t : Tree) (low high : ℕ) → HasRead before s → AreRising low (section_spans (section_of.Dd keyword name t end)) high
      → IsFirstRefusal (SectionRow source env before (section_of.Dd keyword name t end)) (refusal_of (dd source s name t))
  unfolding dd
  dd_least before s keyword name end t low high h (a, b, (c, n, rise)) =
      let cut = rising_split (tree_spans t) (end ∷ []) name.end high rise in
      subst (λ e. IsFirstRefusal (λ r. (Among (IsDdNamed source name) before × IsRefusalAt name.start kind.RepeatedName r) ⊎ RoleRow e source role.Dd t r) (refusal_of (dd source s name t))) h.dds.is
      (once_then (Among (IsDdNamed source name) before) (is_some (dd_of_name (text source name) s.env.dds)) name.start name.end cut.0 (tree_spans t) (RoleRow s.env source role.Dd t) (accepted s.env source role.Dd t) _ (h.dds.names name).0 (h.dds.names name).1 n cut.1
      (λ r k. row_place s.env source (allowed_slots s.env.scope role.Dd) t r k) (role_least s.env source role.Dd t h.dds.kept) (λ a. refl))

  reward_least : (before : List Section) (s : State) (keyword : Span) (t : Tree) (low high : ℕ) → HasRead before s → AreRising low (section_spans (section_of.Reward keyword t)) high
      → IsFirstRefusal (SectionRow source env before (section_of.Reward keyword t)) (refusal_of (reward source s keyword t))
  unfolding reward
  reward_least before s keyword t low high h (a, b, rise) =
      subst (λ e. IsFirstRefusal (λ r. (Among IsRewardSection before × IsRefusalAt keyword.start kind.RepeatedName r) ⊎ RoleRow e source role.Reward t r) (refusal_of (reward source s keyword t))) h.dds.is
      (once_then (Among IsRewardSection before) (is_some s.reward) keyword.start keyword.end high (tree_spans t) (RoleRow s.env source role.Reward t) (accepted s.env source role.Reward t) _ h.reward.met.0 h.reward.met.1 b rise
      (λ r k. row_place s.env source (allowed_slots s.env.scope role.Reward) t r k) (role_least s.env source role.Reward t h.dds.kept) (λ a. refl))

  discount_least : (before : List Section) (s : State) (keyword word : Span) (low high : ℕ) → HasRead before s → AreRising low (section_spans (section_of.Discount keyword word)) high
      → IsFirstRefusal (SectionRow source env before (section_of.Discount keyword word)) (refusal_of (discount source s keyword word))
  unfolding discount discount_of
  discount_least before s keyword word low high h (a, b, rise) =
      once_then (Among IsDiscount before) (is_some s.discount) keyword.start keyword.end high (word ∷ []) (NumberRow word.start (ticks_of (text source word))) (discount_by word.start (ticks_of (text source word))) _ h.discount.met.0 h.discount.met.1 b rise
      (λ r k. number_place word (ticks_of (text source word)) r k) (number_least word (ticks_of (text source word))) (λ a. refl)

  -- ---- what each section leaves

  dd_next : (before : List Section) (s u : State) (keyword name end : Span) (t : Tree) → HasRead before s → dd source s name t ≡ Ok u → HasRead (before ++ section_of.Dd keyword name t end ∷ []) u
  unfolding dd
  dd_next before s u keyword name end t h e =
      let a = stood (checked_dd source s.env.dds name) (λ _. accepted s.env source role.Dd t >>= λ a. Ok (record s { env = record s.env { dds = s.env.dds ++ (text source name, record { mentions = a.mentions; func = a.func }) ∷ [] } })) u e in
      let b = stood (accepted s.env source role.Dd t) (λ a. Ok (record s { env = record s.env { dds = s.env.dds ++ (text source name, record { mentions = a.mentions; func = a.func }) ∷ [] } })) u a.then in
      let d : Dd = record { mentions = b.value.mentions; func = b.value.func } in
      let told = role_told s.env source role.Dd t b.value h.dds.kept h.dds.made b.was in
      let x = section_of.Dd keyword name t end in
      subst (HasRead (before ++ x ∷ [])) (let q : record s { env = record s.env { dds = s.env.dds ++ (text source name, d) ∷ [] } } ≡ u = cc (b.then) in q) (record {
        dds = record {
          is =
              (λ i. record s.env { dds = s.env.dds ++ (text source name, record { mentions = told.mentions i; func = told.func i }) ∷ [] })
              ∙ ap (λ e. env_with source e x) h.dds.is ∙ sym (env_more before x);
          kept = record { shape = h.dds.kept.shape; scope = h.dds.kept.scope; dds = all_more (λ (d : List ℕ × Dd). IsGood s.env.scope d.1.mentions d.1.func) s.env.dds (text source name, d) h.dds.kept.dds told.good };
          made = all_more (λ (d : List ℕ × Dd). IsFunc d.1.func) s.env.dds (text source name, d) h.dds.made (subst IsFunc (sym told.func) (IsFunc-function_of s.env.scope _ h.dds.kept.scope));
          names = λ w. (
            (λ m. elim (found_more (text source w) (text source name) d s.env.dds m) [ inl a ↦ among_more (IsDdNamed source w) before x ((h.dds.names w).0 a) | inr p ↦ among_last (IsDdNamed source w) before x (sym p) ]),
            (λ m. found_kept (text source w) (text source name) d s.env.dds (elim (among_split (IsDdNamed source w) before x m) [ inl a ↦ inl ((h.dds.names w).1 a) | inr p ↦ inr (sym p) ])),
          );
        };
        reward = once_same before x IsRewardSection (reward_in source) s.reward (λ p. p) (λ e. refl) h.reward;
        discount = once_same before x IsDiscount (discount_in source) s.discount (λ p. p) (λ e. refl) h.discount;
        init = once_same before x IsInit (init_in source) s.init (λ p. p) (λ e. refl) h.init;
        actions = actions_same before x s.names s.actions refl (λ w p. p) (λ e. refl) h.actions;
      })

  reward_next : (before : List Section) (s u : State) (keyword : Span) (t : Tree) → HasRead before s → reward source s keyword t ≡ Ok u → HasRead (before ++ section_of.Reward keyword t ∷ []) u
  unfolding reward
  reward_next before s u keyword t h e =
      let a = stood (checked_reward s keyword.start) (λ _. accepted s.env source role.Reward t >>= λ a. Ok (record s { reward = Some a.func })) u e in
      let b = stood (accepted s.env source role.Reward t) (λ a. Ok (record s { reward = Some a.func })) u a.then in
      let told = role_told s.env source role.Reward t b.value h.dds.kept h.dds.made b.was in
      let new : is_some s.reward ≡ false = not_if (is_some s.reward) keyword.start kind.RepeatedName (nothing_refused (refused_if (is_some s.reward) keyword.start kind.RepeatedName) a.value a.was) in
      let x = section_of.Reward keyword t in
      subst (HasRead (before ++ x ∷ [])) (let q : record s { reward = Some b.value.func } ≡ u = cc (b.then) in q) (record {
        dds = dds_same before x s.env (λ e. refl) (λ w p. p) h.dds;
        reward = once_new before x IsRewardSection (reward_in source) s.reward b.value.func tt new (ap (λ e. Some (func_of e source t)) (sym h.dds.is) ∙ ap (λ f. Some f) (sym told.func)) h.reward;
        discount = once_same before x IsDiscount (discount_in source) s.discount (λ p. p) (λ e. refl) h.discount;
        init = once_same before x IsInit (init_in source) s.init (λ p. p) (λ e. refl) h.init;
        actions = actions_same before x s.names s.actions refl (λ w p. p) (λ e. refl) h.actions;
      })

  discount_next : (before : List Section) (s u : State) (keyword word : Span) → HasRead before s → discount source s keyword word ≡ Ok u → HasRead (before ++ section_of.Discount keyword word ∷ []) u
  unfolding discount discount_of
  discount_next before s u keyword word h e =
      let read = discount_by word.start (ticks_of (text source word)) in
      let a = stood (checked_discount s keyword.start) (λ _. read >>= λ g. Ok (record s { discount = Some g })) u e in
      let b = stood read (λ g. Ok (record s { discount = Some g })) u a.then in
      let new : is_some s.discount ≡ false = not_if (is_some s.discount) keyword.start kind.RepeatedName (nothing_refused (refused_if (is_some s.discount) keyword.start kind.RepeatedName) a.value a.was) in
      let x = section_of.Discount keyword word in
      subst (HasRead (before ++ x ∷ [])) (let q : record s { discount = Some b.value } ≡ u = cc (b.then) in q) (record {
        dds = dds_same before x s.env (λ e. refl) (λ w p. p) h.dds;
        reward = once_same before x IsRewardSection (reward_in source) s.reward (λ p. p) (λ e. refl) h.reward;
        discount = once_new before x IsDiscount (discount_in source) s.discount b.value tt new (number_told word.start (ticks_of (text source word)) b.value b.was) h.discount;
        init = once_same before x IsInit (init_in source) s.init (λ p. p) (λ e. refl) h.init;
        actions = actions_same before x s.names s.actions refl (λ w p. p) (λ e. refl) h.actions;
      })

  init_next : (before : List Section) (s u : State) (keyword : Span) (t : Tree) → HasRead before s → init source s keyword t ≡ Ok u → HasRead (before ++ section_of.Init keyword t ∷ []) u
  unfolding init
  init_next before s u keyword t h e =
      let read = factors s.env.scope.variables keyword.start (map (share_of s.env source) (factor_trees t)) in
      let a = stood (checked_init s keyword.start) (λ _. read >>= λ fs. Ok (record s { init = Some fs })) u e in
      let b = stood read (λ fs. Ok (record s { init = Some fs })) u a.then in
      let told : b.value ≡ map (factor_of source s.env) (factor_trees t) = factors_are s.env source h.dds.kept h.dds.made keyword.start (factor_trees t) b.value b.was in
      let new : is_some s.init ≡ false = not_if (is_some s.init) keyword.start kind.RepeatedName (nothing_refused (refused_if (is_some s.init) keyword.start kind.RepeatedName) a.value a.was) in
      let x = section_of.Init keyword t in
      subst (HasRead (before ++ x ∷ [])) (let q : record s { init = Some b.value } ≡ u = cc (b.then) in q) (record {
        dds = dds_same before x s.env (λ e. refl) (λ w p. p) h.dds;
        reward = once_same before x IsRewardSection (reward_in source) s.reward (λ p. p) (λ e. refl) h.reward;
        discount = once_same before x IsDiscount (discount_in source) s.discount (λ p. p) (λ e. refl) h.discount;
        init = once_new before x IsInit (init_in source) s.init b.value tt new (ap (λ e. Some (map (factor_of source e) (factor_trees t))) (sym h.dds.is) ∙ ap (λ fs. Some fs) (sym told)) h.init;
        actions = actions_same before x s.names s.actions refl (λ w p. p) (λ e. refl) h.actions;
      })

  action_next : (before : List Section) (s u : State) (keyword name end : Span) (items : List Item) → HasRead before s → action source s name items end ≡ Ok u → HasRead (before ++ section_of.Action keyword name items end ∷ []) u
  unfolding action
  action_next before s u keyword name end items h e =
      let a = stood (checked_name source s.names (length s.actions) name) (λ _. draft s.env source (length s.actions) name items end >>= λ d. Ok (record s { names = with_name s.names (text source name); actions = s.actions ++ d ∷ [] })) u e in
      let b = stood (draft s.env source (length s.actions) name items end) (λ d. Ok (record s { names = with_name s.names (text source name); actions = s.actions ++ d ∷ [] })) u a.then in
      let new = is_new source s.names (length s.actions) name a.value a.was in
      let told : b.value ≡ draft_told source s.env name items = draft_is s.env source h.dds.kept h.dds.made (length s.actions) name end items b.value b.was in
      let x = section_of.Action keyword name items end in
      subst (HasRead (before ++ x ∷ [])) (let q : record s { names = with_name s.names (text source name); actions = s.actions ++ b.value ∷ [] } ≡ u = cc (b.then) in q) (record {
        dds = dds_same before x s.env (λ e. refl) (λ w p. p) h.dds;
        reward = once_same before x IsRewardSection (reward_in source) s.reward (λ p. p) (λ e. refl) h.reward;
        discount = once_same before x IsDiscount (discount_in source) s.discount (λ p. p) (λ e. refl) h.discount;
        init = once_same before x IsInit (init_in source) s.init (λ p. p) (λ e. refl) h.init;
        actions = record {
          named = names_more source s.names before keyword name end items h.actions.named new;
          count = let m = count_more before x in let c = h.actions.count in omega (arith, length-append s.actions (b.value ∷ []));
          told =
              (λ i. h.actions.told i ++ told i ∷ []) ∙ ap (λ e. all_from source (draft_in source) env before ++ draft_told source e name items ∷ []) h.dds.is
              ∙ sym (all_from_more source (draft_in source) env before x);
        };
      })

  -- a section that changes nothing
  unread : (before : List Section) (s : State) (x : Section) → HasRead before s → ((e : Env) → env_with source e x ≡ e) → ((w : Span) → IsDdNamed source w x → ⊥) → (IsRewardSection x → ⊥) → ((e : Env) → reward_in source e x ≡ None)
      → (IsDiscount x → ⊥) → ((e : Env) → discount_in source e x ≡ None) → (IsInit x → ⊥) → ((e : Env) → init_in source e x ≡ None) → one_action x ≡ 0 → ((w : Span) → IsActionNamed source w x → ⊥) → ((e : Env) → draft_in source e x ≡ []) → HasRead (before ++ x ∷ []) s
  unread before s x h same no_dd no_reward r no_discount d no_init i zero no_action n = record {
    dds = dds_same before x s.env same no_dd h.dds;
    reward = once_same before x IsRewardSection (reward_in source) s.reward no_reward r h.reward;
    discount = once_same before x IsDiscount (discount_in source) s.discount no_discount d h.discount;
    init = once_same before x IsInit (init_in source) s.init no_init i h.init;
    actions = actions_same before x s.names s.actions zero no_action n h.actions;
  }

  -- ---- all sections

  right : (before : List Section) (s : State) (x : Section) (low high : ℕ) → HasRead before s → AreRising low (section_spans x) high → IsFirstRefusal (SectionRow source env before x) (refusal_of (section source s x))
  right before s (section_of.Init keyword t) low high h rise =
      (subst (λ e. IsFirstRefusal (InitRow e source before keyword t) (refusal_of (init source s keyword t))) h.dds.is
      (init_least s.env source h.dds.kept h.dds.made before s keyword t low high refl h.init.met.0 h.init.met.1 rise))
  right before s (section_of.Dd keyword name t end) low high h rise = dd_least before s keyword name end t low high h rise
  right before s (section_of.Action keyword name items end) low high h rise =
      subst (λ e. IsFirstRefusal (ActionRow e source before name items end) (refusal_of (action source s name items end))) h.dds.is
      (action_least s.env source h.dds.kept h.dds.made before s keyword name end items low high refl h.actions.named h.actions.count rise)
  right before s (section_of.Reward keyword t) low high h rise = reward_least before s keyword t low high h rise
  right before s (section_of.Discount keyword word) low high h rise = discount_least before s keyword word low high h rise
  right before s (section_of.Horizon keyword word) low high h rise = λ r n. n
  right before s (section_of.Tolerance keyword word) low high h rise = λ r n. n

  next : (before : List Section) (s u : State) (x : Section) → HasRead before s → section source s x ≡ Ok u → HasRead (before ++ x ∷ []) u
  next before s u (section_of.Init keyword t) h e = init_next before s u keyword t h e
  next before s u (section_of.Dd keyword name t end) h e = dd_next before s u keyword name end t h e
  next before s u (section_of.Action keyword name items end) h e = action_next before s u keyword name end items h e
  next before s u (section_of.Reward keyword t) h e = reward_next before s u keyword t h e
  next before s u (section_of.Discount keyword word) h e = discount_next before s u keyword word h e
  next before s u (section_of.Horizon keyword word) h e =
      let x = section_of.Horizon keyword word in
      subst (HasRead (before ++ x ∷ [])) (let q : s ≡ u = cc in q) (unread before s x h (λ e. refl) (λ w p. p) (λ p. p) (λ e. refl) (λ p. p) (λ e. refl) (λ p. p) (λ e. refl) refl (λ w p. p) (λ e. refl))
  next before s u (section_of.Tolerance keyword word) h e =
      let x = section_of.Tolerance keyword word in
      subst (HasRead (before ++ x ∷ [])) (let q : s ≡ u = cc in q) (unread before s x h (λ e. refl) (λ w p. p) (λ p. p) (λ e. refl) (λ p. p) (λ e. refl) (λ p. p) (λ e. refl) refl (λ w p. p) (λ e. refl))

  place_in : (before : List Section) (x : Section) (r : Refusal) → SectionRow source env before x r → HasPlace (section_spans x) r.at
  place_in before x r h = section_place env source before x r h

  pub sections_least : (s : State) (xs : List Section) (low high : ℕ) → HasRead [] s → AreRising low (all_spans section_spans xs) high → IsFirstRefusal (PartRow (SectionRow source env) [] xs) (refusal_of (in_turn (section source) s xs))
  sections_least s xs low high h rise = turns_least (section source) (SectionRow source env) section_spans HasRead right next place_in [] s xs low high h rise

  pub sections_fit : (s u : State) (xs : List Section) → HasRead [] s → in_turn (section source) s xs ≡ Ok u → HasRead xs u
  sections_fit s u xs h q = turns_fit (section source) (SectionRow source env) section_spans HasRead right next place_in [] s u xs h q

  pub sections_place : (xs : List Section) (r : Refusal) → PartRow (SectionRow source env) [] xs r → HasPlace (all_spans section_spans xs) r.at
  sections_place xs r h = part_place (SectionRow source env) section_spans place_in [] xs r h

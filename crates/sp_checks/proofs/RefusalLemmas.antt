-- The table of refusals and the rows by the parts of a text hold alike.
use Rattle.std.proofs.Common.{◌≡◌, ℕ, List, [], ◌∷◌, ◌++◌, map, length, Option, Some, None, Err, refl, sym, ap, ◌∙◌, subst, inl, inr, append-nil}
use Rattle.std.specs.Prelude.{◌⊎◌}
use Rattle.sp_lex.specs.declared.lexeme.Span.{Span}
use Rattle.sp_lex.specs.declared.decimal.NumError.{NumError}
use Rattle.sp_lex.specs.declared.decimal.NumError.TheVariants as fault
use Rattle.sp_lex.specs.Decimal.{ticks_of}
use Rattle.sp_syntax.specs.declared.text.Tree.{Tree}
use Rattle.sp_syntax.specs.declared.text.Declaration.{Declaration}
use Rattle.sp_syntax.specs.declared.text.Observed.{Observed}
use Rattle.sp_syntax.specs.declared.text.Item.{Item}
use Rattle.sp_syntax.specs.declared.text.Item.TheVariants as item_of
use Rattle.sp_syntax.specs.declared.text.Section.{Section}
use Rattle.sp_syntax.specs.declared.text.Section.TheVariants as section_of
use Rattle.sp_syntax.specs.declared.text.Text.{Text}
use Rattle.sp_syntax.specs.Spans.{all_spans}
use Rattle.sp_rows.specs.declared.tables.Table.{Table}
use Rattle.sp_rows.specs.declared.tables.Table.TheVariants as table
use Rattle.sp_trees.specs.declared.refusal.Refusal.{Refusal}
use Rattle.sp_trees.specs.declared.refusal.ModelKind.{ModelKind}
use Rattle.sp_trees.specs.declared.refusal.ModelKind.TheVariants as kind
use Rattle.sp_trees.specs.declared.env.Env.{Env}
use Rattle.sp_trees.specs.declared.nodes.Place.TheVariants.{Variable, Sight}
use Rattle.sp_trees.specs.declared.lists.Op.{Op}
use Rattle.sp_trees.specs.Words.{text}
use Rattle.sp_trees.specs.Nodes.{place_of}
use Rattle.sp_trees.specs.Rows.{IsFirstRefusal, Among, IsRefusalAt, OwnRow}
use Rattle.sp_trees.proofs.LeastLemmas.{least_same}
use Rattle.sp_declarations.specs.Rows.{PartRow, DeclarationWordRow, LimitRow, DeclarationRow}
use Rattle.sp_checks.specs.declared.roles.Role.{Role}
use Rattle.sp_checks.specs.declared.roles.Role.TheVariants as role
use Rattle.sp_checks.specs.Roles.{start_of, allowed_slots}
use Rattle.sp_checks.specs.Accepted.{variable_number}
use Rattle.sp_checks.specs.Sections.{number_kind}
use Rattle.sp_checks.specs.Initial.{factor_trees}
use Rattle.sp_checks.specs.Told.{env_of}
use Rattle.sp_checks.specs.Standing.{StandsBehind, IsSame, RepeatedWord, declarations_of, action_count, env_before, InitOf, DiscountOf, ActionOf, words_in, words_of, IsListed, HasPair, TableStands, TreeStands, TreeOf}
use Rattle.sp_checks.specs.RefusalTable.{IsPastLimit, HasQuietParts, HasTooMany, HasRow, Breaks}
use Rattle.sp_checks.proofs.TextRows.{RoleRow, TableRow, ListedRow, VariableRow, ObservedRow, ItemRow, ActionRow, FactorRow, InitRow, NumberRow, SectionRow, EndRow, TextRow}
use Rattle.sp_checks.proofs.StandingLemmas.{row_stood, row_stands, among_stands, stands_among, stands_left, stands_right, stands_nowhere, stands_split, fold_all, word_stands, word_stood, map_stands, map_stood, stands_alone, map_among, among_map}
use Rattle.sp_checks.proofs.TreeTableLemmas.{is_at, IsWrongWord, IsWrongResult, quiet_of, of_quiet, own_told, own_word, own_result}

module _ (source : List ℕ) (t : Text) where
  abbrev Row : Refusal → Type 0
  Row r = TextRow source t r

  abbrev at_section : List Section → Env
  at_section before = env_before source t before

  -- a row of the table at a place and of a kind that are known
  told : (k : ModelKind) (p : ℕ) (r : Refusal) → IsRefusalAt p k r → HasRow source t k p → Breaks source t r
  told k p r e h = subst (Breaks source t) (sym e) h

  -- ==== from the table to the rows by parts

  in_section : (before : List Section) (s : Section) (r : Refusal) → StandsBehind before s t.sections → SectionRow source (env_of source t) before s r → Row r
  in_section before s r k h = inr (inl (row_stands (SectionRow source (env_of source t)) before s t.sections r k h))

  in_end : (r : Refusal) → EndRow source (env_of source t) t.sections (length source) r → Row r
  in_end r h = inr (inr h)

  in_item : (a : ActionOf t) (before : List Item) (x : Item) (r : Refusal) → StandsBehind before x a.items → ItemRow (at_section a.before) source (action_count a.before) before x r → Row r
  in_item a before x r k h = in_section a.before _ r a.stands (inr (inl (row_stands (ItemRow (at_section a.before) source (action_count a.before)) before x a.items r k h)))

  in_listed : (a : ActionOf t) (name : Span) (tree : Tree) (r : Refusal) → IsListed a.items name tree
      → ((before : List Item) → VariableRow (at_section a.before) source (action_count a.before) (words_of before) name tree r) → Row r
  in_listed a name tree r k h =
      let m = stands_among (λ x. x ≡ item_of.Variable name tree) a.items k in
      in_item a m.0 m.1 r m.2 (subst (λ x. ItemRow (at_section a.before) source (action_count a.before) m.0 x r) (sym m.3) (h m.0))

  in_pair : (a : ActionOf t) (pair : Observed) (r : Refusal) → HasPair a.items pair
      → ((before : List Item) (pairs : List Observed) → ObservedRow (at_section a.before) source (action_count a.before) (words_of before) pairs pair r) → Row r
  in_pair a pair r k h =
      let env = at_section a.before in
      let n = action_count a.before in
      let m = stands_among (λ x. x ≡ item_of.Observe k.keyword k.list k.end) a.items k.item in
      let p = stands_among (λ o. o ≡ pair) k.list k.stands in
      in_item a m.0 m.1 r m.2 (subst (λ x. ItemRow env source n m.0 x r) (sym m.3)
      (inr (row_stands (ObservedRow env source n (words_of m.0)) p.0 p.1 k.list r p.2 (subst (λ o. ObservedRow env source n (words_of m.0) p.0 o r) (sym p.3) (h m.0 p.0)))))

  in_table : (env : Env) (action : ℕ) (k : Table) (tree : Tree) (r : Refusal) → TableStands source t env action k tree → TableRow env source action k tree r → Row r
  in_table env action (table.Move i) tree r (a, e, n, (name, listed, place)) h =
      in_listed a name tree r listed (λ before. inr (inr (i, subst (λ env. place_of env (text source name) ≡ Some (Variable i)) e place, subst (λ action. TableRow (at_section a.before) source action (table.Move i) tree r) n (subst (λ env. TableRow env source action (table.Move i) tree r) e h))))
  in_table env action (table.Sight j) tree r (a, e, n, (name, pair, place)) h =
      in_pair a (record { name = name; tree = tree }) r pair
      (λ before pairs. inr (inr (j, subst (λ env. place_of env (text source name) ≡ Some (Sight j)) e place, subst (λ action. TableRow (at_section a.before) source action (table.Sight j) tree r) n (subst (λ env. TableRow env source action (table.Sight j) tree r) e h))))

  in_factor : (s : InitOf t) (before : List Tree) (f : Tree) (r : Refusal) → StandsBehind before f (factor_trees s.tree) → FactorRow (at_section s.before) source before f r → Row r
  in_factor s before f r k h = in_section s.before _ r s.stands (inr (inr (row_stands (FactorRow (at_section s.before) source) before f (factor_trees s.tree) r k h)))

  in_init : (env : Env) (tree : Tree) (r : Refusal) → TreeStands source t env role.Init tree → ((before : List Tree) → FactorRow env source before tree r) → Row r
  in_init env tree r (s, e, k) h =
      let m = stands_among (λ f. f ≡ tree) (factor_trees s.tree) k in
      in_factor s m.0 m.1 r m.2 (subst (λ f. FactorRow (at_section s.before) source m.0 f r) (sym m.3) (subst (λ env. FactorRow env source m.0 tree r) e (h m.0)))

  in_tree : (env : Env) (for : Role) (whole : Tree) (r : Refusal) → TreeStands source t env for whole → RoleRow env source for whole r → Row r
  in_tree env role.Dd whole r (d, e, q) h =
      in_section d.before _ r d.stands (inr (subst (λ tree. RoleRow (at_section d.before) source role.Dd tree r) (sym q) (subst (λ env. RoleRow env source role.Dd whole r) e h)))
  in_tree env role.Init whole r k h = in_init env whole r k (λ before. inr (inl h))
  in_tree env role.Reward whole r (inl (s, e, q)) h =
      in_section s.before _ r s.stands (inr (subst (λ tree. RoleRow (at_section s.before) source role.Reward tree r) (sym q) (subst (λ env. RoleRow env source role.Reward whole r) e h)))
  in_tree env role.Reward whole r (inr (a, e, (c, q))) h =
      in_item a c.before _ r c.stands (inr (subst (λ tree. RoleRow (at_section a.before) source role.Reward tree r) (sym q) (subst (λ env. RoleRow env source role.Reward whole r) e h)))
  in_tree env (role.Table k) whole r (action, stands) h = in_table env action k whole r stands (inl h)

  own_in : (u : TreeOf source t) (r : Refusal) → OwnRow u.env source (allowed_slots u.env.scope u.for) u.tree r → Row r
  own_in u r h = in_tree u.env u.for u.whole r u.stands (u.tree, u.inside, h)

  word_in : (u : TreeOf source t) (k : ModelKind) (at : ℕ) → IsWrongWord u.env source u.for u.tree k at → Row (record { at = at; kind = k })
  word_in u k at h = own_in u _ (own_word u.env source u.for u.tree k at h)

  in_variable : (before : List Declaration) (d : Declaration) (r : Refusal) → StandsBehind before d t.variables.declarations → DeclarationRow source 24 16777216 [] before d r → Row r
  in_variable before d r k h = inl (inl (row_stands (DeclarationRow source 24 16777216 []) before d t.variables.declarations r k h))

  in_sight : (before : List Declaration) (d : Declaration) (r : Refusal) → StandsBehind before d t.observations.declarations → DeclarationRow source 8 4096 t.variables.declarations before d r → Row r
  in_sight before d r k h = inl (inr (row_stands (DeclarationRow source 8 4096 t.variables.declarations) before d t.observations.declarations r k h))

  -- a row on the values of a declaration
  in_values : (d : Declaration) (before : List Declaration) (r : Refusal) → StandsBehind before d (declarations_of t) → PartRow (DeclarationWordRow source) [] d.values r → Row r
  in_values d before r k h =
      elim (stands_split t.variables.declarations t.observations.declarations before d k) [
        | inl a ↦ in_variable before d r a (inr (inr h))
        | inr c ↦ in_sight c.0 d r c.2 (inr (inr h))
      ]

  -- the words of an action
  of_words : (items : List Item) → words_of items ≡ all_spans words_in items
  of_words items = fold_all words_in [] items

  in_words : (a : ActionOf t) (words : List Span) (w : Span) (r : Refusal) → StandsBehind words w (words_of a.items) → ListedRow (at_section a.before) source words w r → Row r
  in_words a words w r k h = go m.1 m.3 m.4
    where
      m : (before : List Item) × (x : Item) × (more : List Span) × StandsBehind before x a.items × StandsBehind more w (words_in x) × (words ≡ all_spans words_in before ++ more)
      m = word_stood words_in a.items words w (subst (StandsBehind words w) (of_words a.items) k)

      same : words ≡ words_of m.0 ++ m.2
      same = m.5 ∙ ap (λ ws. ws ++ m.2) (sym (of_words m.0))

      listed : ListedRow (at_section a.before) source (words_of m.0 ++ m.2) w r
      listed = subst (λ ws. ListedRow (at_section a.before) source ws w r) same h

      go : (x : Item) → StandsBehind m.0 x a.items → StandsBehind m.2 w (words_in x) → Row r
      go (item_of.Variable name tree) s k =
          let one = stands_alone m.2 w name k in
          in_item a m.0 _ r s (inl (subst (λ v. ListedRow (at_section a.before) source (words_of m.0) v r) one.1
          (subst (λ ws. ListedRow (at_section a.before) source ws w r) (append-nil (words_of m.0)) (subst (λ ws. ListedRow (at_section a.before) source (words_of m.0 ++ ws) w r) one.0 listed))))
      go (item_of.Observe keyword list end) s k =
          let p = map_stood (λ (o : Observed). o.name) list m.2 w k in
          in_item a m.0 _ r s (inr (row_stands (ObservedRow (at_section a.before) source (action_count a.before) (words_of m.0)) p.0 p.1 list r p.2
          (inl (subst (λ v. ListedRow (at_section a.before) source (words_of m.0 ++ map (λ o. o.name) p.0) v r) p.4 (subst (λ ws. ListedRow (at_section a.before) source (words_of m.0 ++ ws) w r) p.3 listed)))))
      go (item_of.Cost keyword tree) s k = absurd (stands_nowhere m.2 w k)

  in_discount : (d : DiscountOf t) (e : NumError) (r : Refusal) → ticks_of (text source d.word) ≡ Err e → IsRefusalAt d.word.start (number_kind e) r → Row r
  in_discount d e r q h = in_section d.before _ r d.stands (inr (inl (e, q, h)))

  limit_in : (most points : ℕ) (before : List Declaration) (d : Declaration) (limit at : ℕ) → IsPastLimit most points before d limit → at ≡ d.left.start → LimitRow most points before d (record { at = at; kind = kind.TooMany limit })
  limit_in most points before d limit at (inl (n, l)) q = inl (n, λ i. record { at = q i; kind = kind.TooMany (l i) })
  limit_in most points before d limit at (inr (n, low, high, l)) q = inr (n, low, high, λ i. record { at = q i; kind = kind.TooMany (l i) })

  -- a name that another declaration before has
  name_in : (at : ℕ) → RepeatedWord source (map (λ d. d.name) (declarations_of t)) at → Row (record { at = at; kind = kind.RepeatedName })
  name_in at w =
      let m = map_stood (λ (d : Declaration). d.name) (declarations_of t) w.before w.word w.stands in
      let q : at ≡ m.1.name.start = w.place ∙ ap (λ (v : Span). v.start) m.4 in
      let among = among_map (IsSame source m.1.name) (λ (d : Declaration). d.name) m.0 (subst (Among (IsSame source m.1.name)) m.3 (subst (λ v. Among (IsSame source v) w.before) m.4 w.same)) in
      elim (stands_split t.variables.declarations t.observations.declarations m.0 m.1 m.2) [
        | inl a ↦ in_variable m.0 m.1 _ a (inr (inl (among, is_at kind.RepeatedName at m.1.name.start q)))
        | inr c ↦ in_sight c.0 m.1 _ c.2 (inr (inl (subst (Among (λ (e : Declaration). text source e.name ≡ text source m.1.name)) c.1 among, is_at kind.RepeatedName at m.1.name.start q)))
      ]

  repeated_in : (at : ℕ) → HasRow source t kind.RepeatedName at → Row (record { at = at; kind = kind.RepeatedName })
  repeated_in at (inl (inl w)) = name_in at w
  repeated_in at (inl (inr (inl (a, among, q)))) = in_section a.before _ _ a.stands (inl (inl (among, is_at kind.RepeatedName at a.name.start q)))
  repeated_in at (inl (inr (inr (d, among, q)))) = in_section d.before _ _ d.stands (inl (among, is_at kind.RepeatedName at d.name.start q))
  repeated_in at (inr (inl (inl among))) =
      let m = stands_among (λ (d : Declaration). RepeatedWord source d.values at) (declarations_of t) among in
      let w = m.3 in
      in_values m.1 m.0 _ m.2 (row_stands (DeclarationWordRow source) w.before w.word m.1.values _ w.stands (inl (w.same, is_at kind.RepeatedName at w.word.start w.place)))
  repeated_in at (inr (inl (inr (u, h)))) = word_in u kind.RepeatedName at h
  repeated_in at (inr (inr (inl (a, inl w)))) = in_words a w.before w.word _ w.stands (inr (w.same, is_at kind.RepeatedName at w.word.start w.place))
  repeated_in at (inr (inr (inl (a, inr (inl (c, among, q)))))) = in_item a c.before _ _ c.stands (inl (among, is_at kind.RepeatedName at c.keyword.start q))
  repeated_in at (inr (inr (inl (a, inr (inr (o, among, q)))))) = in_item a o.before _ _ o.stands (inl (among, is_at kind.RepeatedName at o.keyword.start q))
  repeated_in at (inr (inr (inr (inl (s, among, q))))) = in_section s.before _ _ s.stands (inl (among, is_at kind.RepeatedName at s.keyword.start q))
  repeated_in at (inr (inr (inr (inr (inl (s, among, q)))))) = in_section s.before _ _ s.stands (inl (among, is_at kind.RepeatedName at s.keyword.start q))
  repeated_in at (inr (inr (inr (inr (inr (s, among, q)))))) = in_section s.before _ _ s.stands (inl (among, is_at kind.RepeatedName at s.keyword.start q))

  scope_in : (at : ℕ) → HasRow source t kind.BadScope at → Row (record { at = at; kind = kind.BadScope })
  scope_in at (inl (inl (u, h))) = word_in u kind.BadScope at h
  scope_in at (inl (inr (inl (a, name, tree, listed, (j, place, q))))) = in_listed a name tree _ listed (λ before. inr (inl (j, place, is_at kind.BadScope at name.start q)))
  scope_in at (inl (inr (inr (a, name, tree, pair, (i, place, q))))) = in_pair a (record { name = name; tree = tree }) _ pair (λ before pairs. inr (inl (i, place, is_at kind.BadScope at name.start q)))
  scope_in at (inr (inl (s, before, f, stands, (i, l, m, among, q)))) = in_factor s before f _ stands (inl ((i, l, m, among), is_at kind.BadScope at (start_of f) q))
  scope_in at (inr (inr (s, i, l, none, q))) = in_section s.before _ _ s.stands (inr (inl ((i, l, none), is_at kind.BadScope at s.keyword.start q)))

  many_in : (limit at : ℕ) → HasRow source t (kind.TooMany limit) at → Row (record { at = at; kind = kind.TooMany limit })
  many_in limit at (inl (inl (before, d, stands, past, q))) = in_variable before d _ stands (inl (limit_in 24 16777216 before d limit at past q))
  many_in limit at (inl (inr (before, d, stands, past, q))) = in_sight before d _ stands (inl (limit_in 8 4096 before d limit at past q))
  many_in limit at (inr (inl among)) =
      let m = stands_among (λ (d : Declaration). (before : List Span) × (w : Span) × StandsBehind before w d.values × (length before ≡ 64) × (limit ≡ 64) × (at ≡ w.start)) (declarations_of t) among in
      let w = m.3 in
      in_values m.1 m.0 _ m.2 (row_stands (DeclarationWordRow source) w.0 w.1 m.1.values _ w.2 (inr (w.3, λ i. record { at = w.5 i; kind = kind.TooMany (w.4 i) })))
  many_in limit at (inr (inr (a, count, l, q))) = in_section a.before _ _ a.stands (inl (inr (count, λ i. record { at = q i; kind = kind.TooMany (l i) })))

  -- a row of the table is one by parts
  row_in : (k : ModelKind) (at : ℕ) → HasRow source t k at → Row (record { at = at; kind = k })
  row_in kind.UnknownName at (inl (u, h)) = word_in u kind.UnknownName at h
  row_in kind.UnknownName at (inr (a, among)) =
      let m = stands_among (λ w. (place_of (at_section a.before) (text source w) ≡ None) × (at ≡ w.start)) (words_of a.items) among in
      in_words a m.0 m.1 _ m.2 (inl (m.3.0, is_at kind.UnknownName at m.1.start m.3.1))
  row_in kind.RepeatedName at h = repeated_in at h
  row_in kind.MissingValue at (u, h) = word_in u kind.MissingValue at h
  row_in kind.MissingPart at (inl (a, un, q)) = in_section a.before _ _ a.stands (inr (inr (un, is_at kind.MissingPart at a.end.start q)))
  row_in kind.MissingPart at (inr (lacks, q)) = in_end _ (inl (lacks, is_at kind.MissingPart at (length source) q))
  row_in kind.BadScope at h = scope_in at h
  row_in kind.BadNumber at (inl (u, h)) = word_in u kind.BadNumber at h
  row_in kind.BadNumber at (inr (d, e, q)) = in_discount d fault.Shape _ e (is_at kind.BadNumber at d.word.start q)
  row_in kind.TooFine at (inl (inl (u, h))) = word_in u kind.TooFine at h
  row_in kind.TooFine at (inl (inr (d, e, q))) = in_discount d fault.TooFine _ e (is_at kind.TooFine at d.word.start q)
  row_in kind.TooFine at (inr (u, quiet, (o, h))) = own_in u _ (own_result u.env source u.for o u.tree kind.TooFine at quiet h)
  row_in kind.TooLarge at (inl (inl (u, h))) = word_in u kind.TooLarge at h
  row_in kind.TooLarge at (inl (inr (d, e, q))) = in_discount d fault.TooLarge _ e (is_at kind.TooLarge at d.word.start q)
  row_in kind.TooLarge at (inr (u, quiet, (o, h))) = own_in u _ (own_result u.env source u.for o u.tree kind.TooLarge at quiet h)
  row_in kind.BadProbability at (inl (env, action, k, tree, stands, (quiet, out, q))) =
      in_table env action k tree _ stands (inr (of_quiet env source (role.Table k) tree quiet, inl (out, is_at kind.BadProbability at (start_of tree) q)))
  row_in kind.BadProbability at (inr (env, tree, stands, (quiet, out, q))) =
      in_init env tree _ stands (λ before. inr (inr (of_quiet env source role.Init tree quiet, inl (out, is_at kind.BadProbability at (start_of tree) q))))
  row_in (kind.RowSum action variable row sum) at (env, k, tree, stands, v, (quiet, fits, bad, q)) =
      in_table env action k tree _ stands (inr (of_quiet env source (role.Table k) tree quiet, inr (fits, (record { row = row; sum = sum }, bad, λ i. record { at = q i; kind = kind.RowSum action (v i) row sum }))))
  row_in (kind.InitSum sum) at (env, tree, stands, (quiet, fits, bad, q)) =
      in_init env tree _ stands (λ before. inr (inr (of_quiet env source role.Init tree quiet, inr (fits, (sum, bad, is_at (kind.InitSum sum) at (start_of tree) q)))))
  row_in kind.DiscountRange at (d, v, e, n, q) = in_section d.before _ _ d.stands (inr (inr (v, e, n, is_at kind.DiscountRange at d.word.start q)))
  row_in kind.RewardRange at (among, q) = in_end _ (inr (among, is_at kind.RewardRange at (length source) q))
  row_in (kind.TooMany limit) at h = many_in limit at h

  pub table_row : (r : Refusal) → Breaks source t r → Row r
  table_row r h = row_in r.kind r.at h

  -- ==== and back

  word_holds : (u : TreeOf source t) (k : ModelKind) (at : ℕ) → IsWrongWord u.env source u.for u.tree k at → HasRow source t k at
  word_holds u kind.UnknownName at h = inl (u, h)
  word_holds u kind.RepeatedName at h = inr (inl (inr (u, h)))
  word_holds u kind.MissingValue at h = (u, h)
  word_holds u kind.BadScope at h = inl (inl (u, h))
  word_holds u kind.BadNumber at h = inl (u, h)
  word_holds u kind.TooFine at h = inl (inl (u, h))
  word_holds u kind.TooLarge at h = inl (inl (u, h))
  word_holds u _ at h = absurd h

  result_holds : (u : TreeOf source t) (o : Op) (k : ModelKind) (at : ℕ) → HasQuietParts u.env source u.for u.tree → IsWrongResult u.env source u.for o u.tree k at → HasRow source t k at
  result_holds u o kind.TooFine at quiet h = inr (u, quiet, (o, h))
  result_holds u o kind.TooLarge at quiet h = inr (u, quiet, (o, h))
  result_holds u o _ at quiet h = absurd h

  told_tree : (env : Env) (for : Role) (whole : Tree) (r : Refusal) → TreeStands source t env for whole → RoleRow env source for whole r → Breaks source t r
  told_tree env for whole r stands (u, i, own) = go (own_told env source for u r own)
    where
      site : TreeOf source t
      site = record { env = env; for = for; whole = whole; stands = stands; tree = u; inside = i }

      go : IsWrongWord env source for u r.kind r.at ⊎ (HasQuietParts env source for u × ((o : Op) × IsWrongResult env source for o u r.kind r.at)) → Breaks source t r
      go (inl w) = word_holds site r.kind r.at w
      go (inr (quiet, (o, w))) = result_holds site o r.kind r.at quiet w

  told_table : (env : Env) (action : ℕ) (k : Table) (tree : Tree) (r : Refusal) → TableStands source t env action k tree → TableRow env source action k tree r → Breaks source t r
  told_table env action k tree r stands (inl h) = told_tree env (role.Table k) tree r (action, stands) h
  told_table env action k tree r stands (inr (none, inl h)) =
      told kind.BadProbability (start_of tree) r h.1 (inl (env, action, k, tree, stands, (quiet_of env source (role.Table k) tree none, h.0, refl)))
  told_table env action k tree r stands (inr (none, inr (fits, (bad, e, q)))) =
      told (kind.RowSum action (variable_number env.scope.variables k) bad.row bad.sum) (start_of tree) r q (env, k, tree, stands, refl, (quiet_of env source (role.Table k) tree none, fits, e, refl))

  told_word : (a : ActionOf t) (words : List Span) (w : Span) (r : Refusal) → StandsBehind words w (words_of a.items) → ListedRow (at_section a.before) source words w r → Breaks source t r
  told_word a words w r k (inl h) =
      told kind.UnknownName w.start r h.1 (inr (a, among_stands (λ v. (place_of (at_section a.before) (text source v) ≡ None) × (w.start ≡ v.start)) words w (words_of a.items) k (h.0, refl)))
  told_word a words w r k (inr h) = told kind.RepeatedName w.start r h.1 (inr (inr (inl (a, inl (record { before = words; word = w; stands = k; same = h.0; place = refl })))))

  listed_word : (before : List Item) (name : Span) (tree : Tree) (items : List Item) → StandsBehind before (item_of.Variable name tree) items → StandsBehind (words_of before) name (words_of items)
  listed_word before name tree items s =
      let alone : StandsBehind [] name (name ∷ []) = record { after = []; is = refl } in
      let k = word_stands words_in before (item_of.Variable name tree) items [] name s alone in
      subst (λ ws. StandsBehind (words_of before) name ws) (sym (of_words items))
      (subst (λ ws. StandsBehind ws name (all_spans words_in items)) (append-nil (all_spans words_in before) ∙ sym (of_words before)) k)

  pair_word : (before : List Item) (keyword end : Span) (list pairs : List Observed) (o : Observed) (items : List Item) → StandsBehind before (item_of.Observe keyword list end) items → StandsBehind pairs o list
      → StandsBehind (words_of before ++ map (λ o. o.name) pairs) o.name (words_of items)
  pair_word before keyword end list pairs o items s p =
      let k = word_stands words_in before (item_of.Observe keyword list end) items (map (λ (o : Observed). o.name) pairs) o.name s (map_stands (λ (o : Observed). o.name) pairs o list p) in
      subst (λ ws. StandsBehind (words_of before ++ map (λ o. o.name) pairs) o.name ws) (sym (of_words items))
      (subst (λ ws. StandsBehind (ws ++ map (λ o. o.name) pairs) o.name (all_spans words_in items)) (sym (of_words before)) k)

  told_pair : (a : ActionOf t) (before : List Item) (keyword end : Span) (list pairs : List Observed) (o : Observed) (r : Refusal) → StandsBehind before (item_of.Observe keyword list end) a.items → StandsBehind pairs o list
      → ObservedRow (at_section a.before) source (action_count a.before) (words_of before) pairs o r → Breaks source t r
  told_pair a before keyword end list pairs o r s p (inl h) = told_word a (words_of before ++ map (λ o. o.name) pairs) o.name r (pair_word before keyword end list pairs o a.items s p) h
  told_pair a before keyword end list pairs o r s p (inr h) = go h
    where
      pair : HasPair a.items o
      pair = record {
        keyword = keyword;
        list = list;
        end = end;
        item = among_stands (λ x. x ≡ item_of.Observe keyword list end) before (item_of.Observe keyword list end) a.items s refl;
        stands = among_stands (λ q. q ≡ o) pairs o list p refl;
      }

      go : ((i : ℕ) × (place_of (at_section a.before) (text source o.name) ≡ Some (Variable i)) × IsRefusalAt o.name.start kind.BadScope r)
          ⊎ ((j : ℕ) × (place_of (at_section a.before) (text source o.name) ≡ Some (Sight j)) × TableRow (at_section a.before) source (action_count a.before) (table.Sight j) o.tree r) → Breaks source t r
      go (inl (i, place, q)) = told kind.BadScope o.name.start r q (inl (inr (inr (a, o.name, o.tree, pair, (i, place, refl)))))
      go (inr (j, place, h)) = told_table (at_section a.before) (action_count a.before) (table.Sight j) o.tree r (a, refl, refl, (o.name, pair, place)) h

  told_item : (a : ActionOf t) (before : List Item) (x : Item) (r : Refusal) → StandsBehind before x a.items → ItemRow (at_section a.before) source (action_count a.before) before x r → Breaks source t r
  told_item a before (item_of.Variable name tree) r s (inl h) = told_word a (words_of before) name r (listed_word before name tree a.items s) h
  told_item a before (item_of.Variable name tree) r s (inr (inl (j, place, q))) =
      told kind.BadScope name.start r q (inl (inr (inl (a, name, tree, among_stands (λ x. x ≡ item_of.Variable name tree) before (item_of.Variable name tree) a.items s refl, (j, place, refl)))))
  told_item a before (item_of.Variable name tree) r s (inr (inr (i, place, h))) =
      told_table (at_section a.before) (action_count a.before) (table.Move i) tree r
      (a, refl, refl, (name, among_stands (λ x. x ≡ item_of.Variable name tree) before (item_of.Variable name tree) a.items s refl, place)) h
  told_item a before (item_of.Observe keyword list end) r s (inl h) =
      told kind.RepeatedName keyword.start r h.1 (inr (inr (inl (a, inr (inr (record { before = before; keyword = keyword; list = list; end = end; stands = s }, h.0, refl))))))
  told_item a before (item_of.Observe keyword list end) r s (inr h) =
      let m = row_stood (ObservedRow (at_section a.before) source (action_count a.before) (words_of before)) list r h in
      told_pair a before keyword end list m.0 m.1 r s m.2 m.3
  told_item a before (item_of.Cost keyword tree) r s (inl h) =
      told kind.RepeatedName keyword.start r h.1 (inr (inr (inl (a, inr (inl (record { before = before; keyword = keyword; tree = tree; stands = s }, h.0, refl))))))
  told_item a before (item_of.Cost keyword tree) r s (inr h) =
      told_tree (at_section a.before) role.Reward tree r (inr (a, refl, (record { before = before; keyword = keyword; tree = tree; stands = s }, refl))) h

  told_factor : (s : InitOf t) (before : List Tree) (f : Tree) (r : Refusal) → StandsBehind before f (factor_trees s.tree) → FactorRow (at_section s.before) source before f r → Breaks source t r
  told_factor s before f r k h = go h
    where
      stands : TreeStands source t (at_section s.before) role.Init f
      stands = (s, refl, among_stands (λ g. g ≡ f) before f (factor_trees s.tree) k refl)

      go : FactorRow (at_section s.before) source before f r → Breaks source t r
      go (inl ((i, l, m, among), q)) = told kind.BadScope (start_of f) r q (inr (inl (s, before, f, k, (i, l, m, among, refl))))
      go (inr (inl h)) = told_tree (at_section s.before) role.Init f r stands h
      go (inr (inr (none, inl h))) = told kind.BadProbability (start_of f) r h.1 (inr (at_section s.before, f, stands, (quiet_of (at_section s.before) source role.Init f none, h.0, refl)))
      go (inr (inr (none, inr (fits, (sum, e, q))))) = told (kind.InitSum sum) (start_of f) r q (at_section s.before, f, stands, (quiet_of (at_section s.before) source role.Init f none, fits, e, refl))

  told_number : (d : DiscountOf t) (r : Refusal) → NumberRow d.word.start (ticks_of (text source d.word)) r → Breaks source t r
  told_number d r (inl (fault.Shape, e, q)) = told kind.BadNumber d.word.start r q (inr (d, e, refl))
  told_number d r (inl (fault.TooFine, e, q)) = told kind.TooFine d.word.start r q (inl (inr (d, e, refl)))
  told_number d r (inl (fault.TooLarge, e, q)) = told kind.TooLarge d.word.start r q (inl (inr (d, e, refl)))
  told_number d r (inr (v, e, n, q)) = told kind.DiscountRange d.word.start r q (d, v, e, n, refl)

  told_action : (a : ActionOf t) (r : Refusal) → ActionRow (at_section a.before) source a.before a.name a.items a.end r → Breaks source t r
  told_action a r (inl (inl h)) = told kind.RepeatedName a.name.start r h.1 (inl (inr (inl (a, h.0, refl))))
  told_action a r (inl (inr h)) = told (kind.TooMany 256) a.name.start r h.1 (inr (inr (a, h.0, refl, refl)))
  told_action a r (inr (inl h)) = let m = row_stood (ItemRow (at_section a.before) source (action_count a.before)) a.items r h in told_item a m.0 m.1 r m.2 m.3
  told_action a r (inr (inr h)) = told kind.MissingPart a.end.start r h.1 (inl (a, h.0, refl))

  told_init : (s : InitOf t) (r : Refusal) → InitRow (at_section s.before) source s.before s.keyword s.tree r → Breaks source t r
  told_init s r (inl h) = told kind.RepeatedName s.keyword.start r h.1 (inr (inr (inr (inl (s, h.0, refl)))))
  told_init s r (inr (inl ((i, l, none), q))) = told kind.BadScope s.keyword.start r q (inr (inr (s, i, l, none, refl)))
  told_init s r (inr (inr h)) = let m = row_stood (FactorRow (at_section s.before) source) (factor_trees s.tree) r h in told_factor s m.0 m.1 r m.2 m.3

  told_section : (before : List Section) (x : Section) (r : Refusal) → StandsBehind before x t.sections → SectionRow source (env_of source t) before x r → Breaks source t r
  told_section before (section_of.Init keyword tree) r s h = told_init (record { before = before; keyword = keyword; tree = tree; stands = s }) r h
  told_section before (section_of.Dd keyword name tree end) r s (inl h) =
      told kind.RepeatedName name.start r h.1 (inl (inr (inr (record { before = before; keyword = keyword; name = name; tree = tree; end = end; stands = s }, h.0, refl))))
  told_section before (section_of.Dd keyword name tree end) r s (inr h) =
      told_tree (at_section before) role.Dd tree r (record { before = before; keyword = keyword; name = name; tree = tree; end = end; stands = s }, refl, refl) h
  told_section before (section_of.Action keyword name items end) r s h = told_action (record { before = before; keyword = keyword; name = name; items = items; end = end; stands = s }) r h
  told_section before (section_of.Reward keyword tree) r s (inl h) =
      told kind.RepeatedName keyword.start r h.1 (inr (inr (inr (inr (inl (record { before = before; keyword = keyword; tree = tree; stands = s }, h.0, refl))))))
  told_section before (section_of.Reward keyword tree) r s (inr h) =
      told_tree (at_section before) role.Reward tree r (inl (record { before = before; keyword = keyword; tree = tree; stands = s }, refl, refl)) h
  told_section before (section_of.Discount keyword word) r s (inl h) =
      told kind.RepeatedName keyword.start r h.1 (inr (inr (inr (inr (inr (record { before = before; keyword = keyword; word = word; stands = s }, h.0, refl))))))
  told_section before (section_of.Discount keyword word) r s (inr h) = told_number (record { before = before; keyword = keyword; word = word; stands = s }) r h
  told_section before (section_of.Horizon keyword word) r s h = absurd h
  told_section before (section_of.Tolerance keyword word) r s h = absurd h

  told_end : (r : Refusal) → EndRow source (env_of source t) t.sections (length source) r → Breaks source t r
  told_end r (inl h) = told kind.MissingPart (length source) r h.1 (inr (h.0, refl))
  told_end r (inr h) = told kind.RewardRange (length source) r h.1 (h.0, refl)

  -- ---- declarations

  past_limit : (most points : ℕ) (before : List Declaration) (d : Declaration) (ds : List Declaration) (r : Refusal) → StandsBehind before d ds → LimitRow most points before d r
      → (limit : ℕ) × HasTooMany most points ds limit d.left.start × IsRefusalAt d.left.start (kind.TooMany limit) r
  past_limit most points before d ds r s (inl h) = (most, (before, d, s, inl (h.0, refl), refl), h.1)
  past_limit most points before d ds r s (inr (n, low, high, q)) = (points, (before, d, s, inr (n, low, high, refl), refl), q)

  told_name : (before : List Declaration) (d : Declaration) (r : Refusal) → StandsBehind before d (declarations_of t)
      → Among (λ (e : Declaration). text source e.name ≡ text source d.name) before → IsRefusalAt d.name.start kind.RepeatedName r → Breaks source t r
  told_name before d r s among q =
      told kind.RepeatedName d.name.start r q (inl (inl (record {
        before = map (λ d. d.name) before;
        word = d.name;
        stands = map_stands (λ (d : Declaration). d.name) before d (declarations_of t) s;
        same = map_among (IsSame source d.name) (λ (d : Declaration). d.name) before among;
        place = refl;
      })))

  told_value : (before : List Declaration) (d : Declaration) (words : List Span) (w : Span) (r : Refusal) → StandsBehind before d (declarations_of t) → StandsBehind words w d.values → DeclarationWordRow source words w r → Breaks source t r
  told_value before d words w r s k (inl h) =
      told kind.RepeatedName w.start r h.1
      (inr (inl (inl (among_stands (λ (d : Declaration). RepeatedWord source d.values w.start) before d (declarations_of t) s (record { before = words; word = w; stands = k; same = h.0; place = refl })))))
  told_value before d words w r s k (inr h) =
      told (kind.TooMany 64) w.start r h.1
      (inr (inl (among_stands (λ (d : Declaration). (before : List Span) × (v : Span) × StandsBehind before v d.values × (length before ≡ 64) × (64 ≡ 64) × (w.start ≡ v.start)) before d (declarations_of t) s (words, w, k, h.0, refl, refl))))

  told_variable : (before : List Declaration) (d : Declaration) (r : Refusal) → StandsBehind before d t.variables.declarations → DeclarationRow source 24 16777216 [] before d r → Breaks source t r
  told_variable before d r s (inl h) = let m = past_limit 24 16777216 before d t.variables.declarations r s h in told (kind.TooMany m.0) d.left.start r m.2 (inl (inl m.1))
  told_variable before d r s (inr (inl h)) = told_name before d r (stands_left before d t.variables.declarations t.observations.declarations s) h.0 h.1
  told_variable before d r s (inr (inr h)) =
      let m = row_stood (DeclarationWordRow source) d.values r h in
      told_value before d m.0 m.1 r (stands_left before d t.variables.declarations t.observations.declarations s) m.2 m.3

  told_sight : (before : List Declaration) (d : Declaration) (r : Refusal) → StandsBehind before d t.observations.declarations → DeclarationRow source 8 4096 t.variables.declarations before d r → Breaks source t r
  told_sight before d r s (inl h) = let m = past_limit 8 4096 before d t.observations.declarations r s h in told (kind.TooMany m.0) d.left.start r m.2 (inl (inr m.1))
  told_sight before d r s (inr (inl h)) = told_name (t.variables.declarations ++ before) d r (stands_right before d t.variables.declarations t.observations.declarations s) h.0 h.1
  told_sight before d r s (inr (inr h)) =
      let m = row_stood (DeclarationWordRow source) d.values r h in
      told_value (t.variables.declarations ++ before) d m.0 m.1 r (stands_right before d t.variables.declarations t.observations.declarations s) m.2 m.3

  pub row_table : (r : Refusal) → Row r → Breaks source t r
  row_table r (inl (inl h)) = let m = row_stood (DeclarationRow source 24 16777216 []) t.variables.declarations r h in told_variable m.0 m.1 r m.2 m.3
  row_table r (inl (inr h)) = let m = row_stood (DeclarationRow source 8 4096 t.variables.declarations) t.observations.declarations r h in told_sight m.0 m.1 r m.2 m.3
  row_table r (inr (inl h)) = let m = row_stood (SectionRow source (env_of source t)) t.sections r h in told_section m.0 m.1 r m.2 m.3
  row_table r (inr (inr h)) = told_end r h

  -- so one is the first row of the table exactly where it is the first by parts
  pub table_least : (o : Option Refusal) → IsFirstRefusal (TextRow source t) o → IsFirstRefusal (Breaks source t) o
  table_least o h = least_same (TextRow source t) (Breaks source t) o row_table table_row h

  pub part_least : (o : Option Refusal) → IsFirstRefusal (Breaks source t) o → IsFirstRefusal (TextRow source t) o
  part_least o h = least_same (Breaks source t) (TextRow source t) o table_row row_table h

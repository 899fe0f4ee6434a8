-- At one place and of one kind a text has one refusal at most.
use Rattle.std.proofs.Common.{◌≡◌, ℕ, ◌<◌, ◌≤◌, ◌==◌, Bool, true, false, List, [], ◌∷◌, ◌++◌, map, length, Option, Some, None, refl, sym, ap, ◌∙◌, subst, arith, inl, inr, append_assoc}
use Rattle.std.specs.Prelude.{◌⊎◌, ℤ, pos, Result, nat_lt, if◌then◌else◌}
use Rattle.std.proofs.lemmas.Bool.Decides.{nat_tests}
use Rattle.sp_lex.specs.declared.lexeme.Span.{Span}
use Rattle.sp_lex.specs.declared.decimal.NumError.{NumError}
use Rattle.sp_lex.specs.declared.decimal.NumError.TheVariants as fault
use Rattle.sp_lex.specs.Decimal.{ticks_of}
use Rattle.sp_syntax.specs.declared.text.Tree.{Tree, out-Tree}
use Rattle.sp_syntax.specs.declared.text.Tree.TheOpen.{Tree-F}
use Rattle.sp_syntax.specs.declared.text.Branch.{Branch}
use Rattle.sp_syntax.specs.declared.text.Declaration.{Declaration}
use Rattle.sp_syntax.specs.declared.text.Observed.{Observed}
use Rattle.sp_syntax.specs.declared.text.Item.{Item}
use Rattle.sp_syntax.specs.declared.text.Item.TheVariants as item_of
use Rattle.sp_syntax.specs.declared.text.Section.{Section}
use Rattle.sp_syntax.specs.declared.text.Section.TheVariants as section_of
use Rattle.sp_syntax.specs.declared.text.Text.{Text}
use Rattle.sp_syntax.specs.Spans.{AreRising, tree_spans, declaration_spans, declarations_spans, observed_spans, item_spans, section_spans, all_spans, text_spans}
use Rattle.sp_dd.specs.Floors.{ticks}
use Rattle.sp_dd.specs.Func.{Func}
use Rattle.sp_rows.specs.declared.tables.Table.{Table}
use Rattle.sp_rows.specs.declared.tables.Table.TheVariants as table
use Rattle.sp_rows.specs.declared.tables.BadRow.{BadRow}
use Rattle.sp_rows.specs.Tables.{bad_row, bad_sum}
use Rattle.sp_trees.specs.declared.refusal.Refusal.{Refusal}
use Rattle.sp_trees.specs.declared.refusal.ModelKind.{ModelKind}
use Rattle.sp_trees.specs.declared.refusal.ModelKind.TheVariants as kind
use Rattle.sp_trees.specs.declared.slots.Slots.{Slots}
use Rattle.sp_trees.specs.declared.env.Env.{Env}
use Rattle.sp_trees.specs.declared.env.Dd.{Dd}
use Rattle.sp_trees.specs.declared.nodes.Place.{Place}
use Rattle.sp_trees.specs.declared.nodes.Place.TheVariants.{Variable, Sight}
use Rattle.sp_trees.specs.Refusals.{rank}
use Rattle.sp_trees.specs.Single.{number_kind as tree_kind}
use Rattle.sp_trees.specs.Words.{text, name_span}
use Rattle.sp_trees.specs.Dds.{dd_of_name}
use Rattle.sp_trees.specs.Nodes.{place_of, values_of}
use Rattle.sp_trees.specs.Values.{tree_value}
use Rattle.sp_trees.specs.Conditions.{HasOutside}
use Rattle.sp_trees.specs.Rows.{IsFirstRefusal, Among, IsRefusalAt, BranchRows, NodeRowBy, ReferenceRow, TreeWordRow, ValueRow, TreeRow}
use Rattle.sp_trees.specs.Told.{func_of, mentions_of}
use Rattle.sp_trees.proofs.ListPlaces.{sum_kind, product_kind}
use Rattle.sp_declarations.specs.Rows.{PartRow, HasPlace, LimitRow, NameRow, DeclarationRow, DeclaredRow}
use Rattle.sp_declarations.specs.Rows as declared
use Rattle.sp_declarations.proofs.ChainLemmas.{has_left, has_right, rising_split, rising_le, place_below, place_above, part_place}
use Rattle.sp_declarations.proofs.RowLemmas.{declared_place}
use Rattle.sp_checks.specs.declared.roles.Role.{Role}
use Rattle.sp_checks.specs.declared.roles.Role.TheVariants as role
use Rattle.sp_checks.specs.Roles.{start_of, allowed_slots}
use Rattle.sp_checks.specs.Sections.{number_kind}
use Rattle.sp_checks.specs.Initial.{factor_trees, own_of}
use Rattle.sp_checks.specs.Accepted.{variable_number}
use Rattle.sp_checks.specs.Told.{env_of, env_after}
use Rattle.sp_checks.specs.Standing.{words_of, action_count, IsActionNamed}
use Rattle.sp_checks.specs.RefusalTable.{IsUnobserved}
use Rattle.sp_checks.proofs.TextRows.{RoleRow, HasNoRow, TableValueRow, TableRow, ListedRow, VariableRow, ObservedRow, ItemRow, ActionRow, FactorRow, InitRow, NumberRow, SectionRow, EndRow, TextRow}
use Rattle.sp_lex.proofs.Unique.{cut_alone}
use Rattle.sp_syntax.proofs.SpanLemmas.{spans_rise}
use Rattle.sp_checks.specs.Answers.{OneRefusalOfText}
use Rattle.sp_checks.proofs.AmongLemmas.{at_place}
use Rattle.sp_checks.proofs.PlaceNames.{some_same}
use Rattle.sp_checks.proofs.RefusalLemmas.{part_least}
use Rattle.sp_checks.proofs.RowPlaceLemmas.{factor_rise, factor_place, observed_place, item_place, section_place}

-- ---- kinds that say no more than their name

abbrev IsPlain : ModelKind → Type 0
IsPlain k = (rank k < 9) ⊎ ((11 ≤ rank k) × (rank k ≤ 12))

kind_at : ℕ → ModelKind
kind_at n =
    if n == 0 then kind.UnknownName
    else if n == 1 then kind.RepeatedName
    else if n == 2 then kind.MissingValue
    else if n == 3 then kind.MissingPart
    else if n == 4 then kind.BadScope
    else if n == 5 then kind.BadNumber
    else if n == 6 then kind.TooFine
    else if n == 7 then kind.TooLarge
    else if n == 8 then kind.BadProbability
    else if n == 11 then kind.DiscountRange
    else kind.RewardRange

by_rank : (k : ModelKind) → IsPlain k → kind_at (rank k) ≡ k
unfolding kind_at
by_rank kind.UnknownName h = refl
by_rank kind.RepeatedName h = refl
by_rank kind.MissingValue h = refl
by_rank kind.MissingPart h = refl
by_rank kind.BadScope h = refl
by_rank kind.BadNumber h = refl
by_rank kind.TooFine h = refl
by_rank kind.TooLarge h = refl
by_rank kind.BadProbability h = refl
by_rank kind.DiscountRange h = refl
by_rank kind.RewardRange h = refl
by_rank (kind.RowSum action variable row sum) (inl h) = absurd (omega arith)
by_rank (kind.RowSum action variable row sum) (inr h) = absurd (let m = h.0 in omega arith)
by_rank (kind.InitSum sum) (inl h) = absurd (omega arith)
by_rank (kind.InitSum sum) (inr h) = absurd (let m = h.0 in omega arith)
by_rank (kind.TooMany limit) (inl h) = absurd (omega arith)
by_rank (kind.TooMany limit) (inr h) = absurd (let m = h.1 in omega arith)

abbrev IsOne : (Refusal → Type 0) → Type 0
IsOne R = (r q : Refusal) → R r → R q → r.at ≡ q.at → rank r.kind ≡ rank q.kind → r ≡ q

abbrev ArePlain : (Refusal → Type 0) → Type 0
ArePlain R = (r : Refusal) → R r → IsPlain r.kind

same_plain : (r q : Refusal) → IsPlain r.kind → r.at ≡ q.at → rank r.kind ≡ rank q.kind → r ≡ q
same_plain r q h at e =
    let k : r.kind ≡ q.kind = sym (by_rank r.kind h) ∙ ap kind_at e ∙ by_rank q.kind (subst (λ n. (n < 9) ⊎ ((11 ≤ n) × (n ≤ 12))) e h) in
    (λ i. record { at = at i; kind = k i })

plain_at : (at : ℕ) (k : ModelKind) (r : Refusal) → IsPlain k → IsRefusalAt at k r → IsPlain r.kind
plain_at at k r h e = subst (λ (q : Refusal). IsPlain q.kind) (sym e) h

-- rows that give one refusal
all_same : (R : Refusal → Type 0) (x : Refusal) → ((r : Refusal) → R r → r ≡ x) → IsOne R
all_same R x h r q a b at e = h r a ∙ sym (h q b)

one_plain : (R S : Refusal → Type 0) → ArePlain R → IsOne S → IsOne (λ r. R r ⊎ S r)
one_plain R S plain one r q (inl a) b at e = same_plain r q (plain r a) at e
one_plain R S plain one r q (inr a) (inl b) at e = sym (same_plain q r (plain q b) (sym at) (sym e))
one_plain R S plain one r q (inr a) (inr b) at e = one r q a b at e

plain_one : (R S : Refusal → Type 0) → IsOne R → ArePlain S → IsOne (λ r. R r ⊎ S r)
plain_one R S one plain r q (inl a) (inl b) at e = one r q a b at e
plain_one R S one plain r q (inl a) (inr b) at e = sym (same_plain q r (plain q b) (sym at) (sym e))
plain_one R S one plain r q (inr a) b at e = same_plain r q (plain r a) at e

one_apart : (R S : Refusal → Type 0) → IsOne R → IsOne S → ((r q : Refusal) → R r → S q → r.at < q.at) → IsOne (λ r. R r ⊎ S r)
one_apart R S one other apart r q (inl a) (inl b) at e = one r q a b at e
one_apart R S one other apart r q (inl a) (inr b) at e = absurd (let m = apart r q a b in omega arith)
one_apart R S one other apart r q (inr a) (inl b) at e = absurd (let m = apart q r b a in omega arith)
one_apart R S one other apart r q (inr a) (inr b) at e = other r q a b at e

one_parts : {X : Type 0} (Row : List X → X → Refusal → Type 0) (spans : X → List Span) → ((before : List X) (x : X) (r : Refusal) → Row before x r → HasPlace (spans x) r.at)
    → ((before : List X) (x : X) (low high : ℕ) → AreRising low (spans x) high → IsOne (Row before x)) → (before xs : List X) (low high : ℕ) → AreRising low (all_spans spans xs) high → IsOne (PartRow Row before xs)
one_parts Row spans place one before [] low high rise = λ r q a b at e. absurd a
one_parts Row spans place one before (x ∷ xs) low high rise =
    let cut = rising_split (spans x) (all_spans spans xs) low high rise in
    one_apart (Row before x) (PartRow Row (before ++ x ∷ []) xs) (one before x low cut.0 cut.1) (one_parts Row spans place one (before ++ x ∷ []) xs cut.0 high cut.2)
    (λ r q a b.
    let first = place_below (spans x) low cut.0 r.at cut.1 (place before x r a) in
    let second = place_above (all_spans spans xs) cut.0 high q.at cut.2 (part_place Row spans place (before ++ x ∷ []) xs q b) in
    omega arith)

-- ---- the rows of a tree are plain

module _ (env : Env) (source : List ℕ) (allowed_slots : Slots) where
  branches_plain : (values : List (List ℕ)) (before bs : List Branch) → ArePlain (BranchRows source values before bs)
  branches_plain values before [] r h = absurd h
  branches_plain values before (b ∷ bs) r (inl (inl h)) = plain_at _ kind.UnknownName r (inl (omega arith)) h.1
  branches_plain values before (b ∷ bs) r (inl (inr h)) = plain_at _ kind.RepeatedName r (inl (omega arith)) h.3
  branches_plain values before (b ∷ bs) r (inr h) = branches_plain values (before ++ b ∷ []) bs r h

  node_plain : (is_primed : Bool) (left word : Span) (bs : List Branch) (o : Option Place) → ArePlain (NodeRowBy env source allowed_slots is_primed left word bs o)
  node_plain is_primed left word bs None r h = plain_at _ kind.UnknownName r (inl (omega arith)) h
  node_plain is_primed left word bs (Some p) r (inl h) = plain_at _ kind.BadScope r (inl (omega arith)) h.1
  node_plain is_primed left word bs (Some p) r (inr (inl h)) = plain_at _ kind.MissingValue r (inl (omega arith)) h.at_bracket
  node_plain is_primed left word bs (Some p) r (inr (inr h)) = branches_plain (values_of env p) [] bs r h

  reference_plain : (at : ℕ) (o : Option Dd) → ArePlain (ReferenceRow allowed_slots at o)
  reference_plain at None r h = plain_at _ kind.UnknownName r (inl (omega arith)) h
  reference_plain at (Some d) r h = plain_at _ kind.BadScope r (inl (omega arith)) h.1

  tree_number : (e : NumError) → IsPlain (tree_kind e)
  tree_number fault.Shape = inl (omega arith)
  tree_number fault.TooFine = inl (omega arith)
  tree_number fault.TooLarge = inl (omega arith)

  word_plain : (x : Tree-F Tree Branch) → ArePlain (TreeWordRow env source allowed_slots x)
  word_plain (Tree-F.Number left word right) r h = plain_at _ (tree_kind h.0) r (tree_number h.0) h.2
  word_plain (Tree-F.Reference left word right) r h = reference_plain word.start (dd_of_name (text source word) env.dds) r h
  word_plain (Tree-F.Node left word bs right) r h = node_plain false left word bs (place_of env (text source (name_span false word))) r h
  word_plain (Tree-F.PrimedNode left word bs right) r h = node_plain true left word bs (place_of env (text source (name_span true word))) r h
  word_plain (Tree-F.Sum left plus ts right) r h = absurd h
  word_plain (Tree-F.Product left star ts right) r h = absurd h

  of_list : (r : Refusal) → (r.kind ≡ kind.TooFine) ⊎ (r.kind ≡ kind.TooLarge) → IsPlain r.kind
  of_list r (inl e) = subst IsPlain (sym e) (inl (omega arith))
  of_list r (inr e) = subst IsPlain (sym e) (inl (omega arith))

  value_plain : (x : Tree-F Tree Branch) → ArePlain (ValueRow env source x)
  value_plain (Tree-F.Sum left plus ts right) r h = of_list r (sum_kind env.scope left.start (map (tree_value env source) ts) r h)
  value_plain (Tree-F.Product left star ts right) r h = of_list r (product_kind env.scope left.start (map (tree_value env source) ts) r h)
  value_plain _ r h = absurd h

  tree_plain : (t : Tree) → ArePlain (TreeRow env source allowed_slots t)
  tree_plain t r (u, i, inl h) = word_plain (out-Tree u) r h
  tree_plain t r (u, i, inr h) = value_plain (out-Tree u) r h.0

role_plain : (env : Env) (source : List ℕ) (for : Role) (t : Tree) → ArePlain (RoleRow env source for t)
role_plain env source for t r h = tree_plain env source (allowed_slots env.scope for) t r h

-- ---- declarations

one_value : (source : List ℕ) (before : List Span) (w : Span) → IsOne (declared.DeclarationWordRow source before w)
one_value source before w =
    one_plain (λ r. Among (λ v. text source v ≡ text source w) before × IsRefusalAt w.start kind.RepeatedName r) (λ r. (length before ≡ 64) × IsRefusalAt w.start (kind.TooMany 64) r) (λ r h. plain_at _ kind.RepeatedName r (inl (omega arith)) h.1)
    (all_same (λ r. (length before ≡ 64) × IsRefusalAt w.start (kind.TooMany 64) r) (record { at = w.start; kind = kind.TooMany 64 }) (λ r h. h.1))

value_place : (source : List ℕ) (before : List Span) (w : Span) (r : Refusal) → declared.DeclarationWordRow source before w r → HasPlace (w ∷ []) r.at
value_place source before w r (inl h) = inl (sym (at_place w.start kind.RepeatedName r h.1))
value_place source before w r (inr h) = inl (sym (at_place w.start (kind.TooMany 64) r h.1))

singles : (ws : List Span) → all_spans (λ w. w ∷ []) ws ≡ ws
singles [] = refl
singles (w ∷ ws) = ap (λ vs. w ∷ vs) (singles ws)

values_place : (source : List ℕ) (ws : List Span) (r : Refusal) → PartRow (declared.DeclarationWordRow source) [] ws r → HasPlace ws r.at
values_place source ws r h = subst (λ ss. HasPlace ss r.at) (singles ws) (part_place (declared.DeclarationWordRow source) (λ w. w ∷ []) (value_place source) [] ws r h)

one_limit : (most points : ℕ) (before : List Declaration) (d : Declaration) → IsOne (LimitRow most points before d)
one_limit most points before d r q (inl a) (inl b) at e = a.1 ∙ sym b.1
one_limit most points before d r q (inl a) (inr b) at e = absurd (b.0 a.0)
one_limit most points before d r q (inr a) (inl b) at e = absurd (a.0 b.0)
one_limit most points before d r q (inr a) (inr b) at e = a.3 ∙ sym b.3

limit_place : (most points : ℕ) (before : List Declaration) (d : Declaration) (r : Refusal) → LimitRow most points before d r → r.at ≡ d.left.start
limit_place most points before d r (inl h) = at_place d.left.start (kind.TooMany most) r h.1
limit_place most points before d r (inr h) = at_place d.left.start (kind.TooMany points) r h.3

module _ (source : List ℕ) (most points : ℕ) (others : List Declaration) where
  named_place : (before : List Declaration) (d : Declaration) (r : Refusal) → NameRow source others before d r ⊎ PartRow (declared.DeclarationWordRow source) [] d.values r → HasPlace (d.name ∷ (d.values ++ d.right ∷ [])) r.at
  named_place before d r (inl h) = inl (sym (at_place d.name.start kind.RepeatedName r h.1))
  named_place before d r (inr h) = inr (has_left d.values (d.right ∷ []) r.at (values_place source d.values r h))

  declaration_place : (before : List Declaration) (d : Declaration) (r : Refusal) → DeclarationRow source most points others before d r → HasPlace (declaration_spans d) r.at
  declaration_place before d r (inl h) = inl (sym (limit_place most points before d r h))
  declaration_place before d r (inr h) = inr (named_place before d r h)

  one_declaration : (before : List Declaration) (d : Declaration) (low high : ℕ) → AreRising low (declaration_spans d) high → IsOne (DeclarationRow source most points others before d)
  one_declaration before d low high (a, b, rise) =
      let c = rise.2 in
      let cut = rising_split d.values (d.right ∷ []) d.name.end high c in
      one_apart (LimitRow most points before d) (λ r. NameRow source others before d r ⊎ PartRow (declared.DeclarationWordRow source) [] d.values r) (one_limit most points before d)
      (one_plain (NameRow source others before d) (PartRow (declared.DeclarationWordRow source) [] d.values) (λ r h. plain_at _ kind.RepeatedName r (inl (omega arith)) h.1)
      (one_parts (declared.DeclarationWordRow source) (λ w. w ∷ []) (value_place source) (λ before w low high rise. one_value source before w) [] d.values d.name.end cut.0 (subst (λ ss. AreRising d.name.end ss cut.0) (sym (singles d.values)) cut.1)))
      (λ r q x y. let first = limit_place most points before d r x in let second = place_above (d.name ∷ (d.values ++ d.right ∷ [])) d.left.end high q.at rise (named_place before d q y) in omega arith)

  one_sort : (ds : List Declaration) (low high : ℕ) → AreRising low (all_spans declaration_spans ds) high → IsOne (PartRow (DeclarationRow source most points others) [] ds)
  one_sort ds low high rise = one_parts (DeclarationRow source most points others) declaration_spans declaration_place one_declaration [] ds low high rise

  sort_place : (ds : List Declaration) (r : Refusal) → PartRow (DeclarationRow source most points others) [] ds r → HasPlace (all_spans declaration_spans ds) r.at
  sort_place ds r h = part_place (DeclarationRow source most points others) declaration_spans declaration_place [] ds r h

-- the declarations inside their brackets
inner : (left keyword right : Span) (ss : List Span) (low high : ℕ) → AreRising low (left ∷ keyword ∷ (ss ++ right ∷ [])) high → (a b : ℕ) × (low ≤ a) × AreRising a ss b × (b ≤ high)
inner left keyword right ss low high (p, q, (c, d, rise)) =
    let cut = rising_split ss (right ∷ []) keyword.end high rise in
    let over = rising_le (right ∷ []) cut.0 high cut.2 in
    (keyword.end, cut.0, omega arith, cut.1, over)

one_declared : (source : List ℕ) (t : Text) (low high : ℕ) → AreRising low (declarations_spans t.variables ++ declarations_spans t.observations) high → IsOne (DeclaredRow source t)
one_declared source t low high rise =
    let cut = rising_split (declarations_spans t.variables) (declarations_spans t.observations) low high rise in
    let vs = t.variables in
    let os = t.observations in
    let v = inner vs.left vs.keyword vs.right (all_spans declaration_spans vs.declarations) low cut.0 cut.1 in
    let o = inner os.left os.keyword os.right (all_spans declaration_spans os.declarations) cut.0 high cut.2 in
    one_apart (PartRow (DeclarationRow source 24 16777216 []) [] vs.declarations) (PartRow (DeclarationRow source 8 4096 vs.declarations) [] os.declarations)
    (one_sort source 24 16777216 [] vs.declarations v.0 v.1 v.3) (one_sort source 8 4096 vs.declarations os.declarations o.0 o.1 o.3)
    (λ r q x y.
    let first = place_below (all_spans declaration_spans vs.declarations) v.0 v.1 r.at v.3 (sort_place source 24 16777216 [] vs.declarations r x) in
    let second = place_above (all_spans declaration_spans os.declarations) o.0 o.1 q.at o.3 (sort_place source 8 4096 vs.declarations os.declarations q y) in
    let m = v.4 in let n = o.2 in omega arith)

-- ---- tables and factors

one_values : (n action : ℕ) (t : Table) (at : ℕ) (f : Func) → IsOne (TableValueRow n action t at f)
one_values n action t at f =
    one_plain (λ r. HasOutside (pos 0) (pos ticks) f × IsRefusalAt at kind.BadProbability r) (λ r. (¬ HasOutside (pos 0) (pos ticks) f) × ((bad : BadRow) × (bad_row f t ≡ Some bad) × IsRefusalAt at (kind.RowSum action (variable_number n t) bad.row bad.sum) r))
    (λ r h. plain_at _ kind.BadProbability r (inl (omega arith)) h.1)
    (λ r q a b e k. a.1.2 ∙ ap (λ (x : BadRow). record { at = at; kind = kind.RowSum action (variable_number n t) x.row x.sum }) (some_same a.1.0 b.1.0 (bad_row f t) a.1.1 b.1.1) ∙ sym b.1.2)

one_table : (env : Env) (source : List ℕ) (action : ℕ) (k : Table) (t : Tree) → IsOne (TableRow env source action k t)
one_table env source action k t =
    one_plain (RoleRow env source (role.Table k) t) (λ r. HasNoRow env source (role.Table k) t × TableValueRow env.scope.variables action k (start_of t) (func_of env source t) r) (role_plain env source (role.Table k) t)
    (λ r q a b. one_values env.scope.variables action k (start_of t) (func_of env source t) r q a.1 b.1)

one_factor : (env : Env) (source : List ℕ) (before : List Tree) (t : Tree) → IsOne (FactorRow env source before t)
one_factor env source before t =
    let f = func_of env source t in
    let own = own_of env.scope.variables (mentions_of env source t) in
    one_plain _ _ (λ r h. plain_at _ kind.BadScope r (inl (omega arith)) h.1)
    (one_plain (RoleRow env source role.Init t) _ (role_plain env source role.Init t)
    (λ r q a b.
    one_plain (λ r. HasOutside (pos 0) (pos ticks) f × IsRefusalAt (start_of t) kind.BadProbability r) (λ r. (¬ HasOutside (pos 0) (pos ticks) f) × ((sum : ℤ) × (bad_sum f own ≡ Some sum) × IsRefusalAt (start_of t) (kind.InitSum sum) r))
    (λ r h. plain_at _ kind.BadProbability r (inl (omega arith)) h.1)
    (λ r q a b e k. a.1.2 ∙ ap (λ (x : ℤ). record { at = start_of t; kind = kind.InitSum x }) (some_same a.1.0 b.1.0 (bad_sum f own) a.1.1 b.1.1) ∙ sym b.1.2) r q a.1 b.1))

-- ---- items

listed_plain : (env : Env) (source : List ℕ) (words : List Span) (w : Span) → ArePlain (ListedRow env source words w)
listed_plain env source words w r (inl h) = plain_at _ kind.UnknownName r (inl (omega arith)) h.1
listed_plain env source words w r (inr h) = plain_at _ kind.RepeatedName r (inl (omega arith)) h.1

-- a word that names a variable of the wrong sort, or the table of one of the right sort
one_scoped : (env : Env) (source : List ℕ) (action : ℕ) (wrong right : ℕ → Place) (table_for : ℕ → Table) → ((a b : ℕ) → right a ≡ right b → a ≡ b) → (w : Span) (t : Tree)
    → IsOne (λ r. ((k : ℕ) × (place_of env (text source w) ≡ Some (wrong k)) × IsRefusalAt w.start kind.BadScope r) ⊎ ((k : ℕ) × (place_of env (text source w) ≡ Some (right k)) × TableRow env source action (table_for k) t r))
one_scoped env source action wrong right table_for same w t =
    one_plain (λ r. (k : ℕ) × (place_of env (text source w) ≡ Some (wrong k)) × IsRefusalAt w.start kind.BadScope r) (λ r. (k : ℕ) × (place_of env (text source w) ≡ Some (right k)) × TableRow env source action (table_for k) t r)
    (λ r h. plain_at _ kind.BadScope r (inl (omega arith)) h.2)
    (λ r q a b at e. one_table env source action (table_for a.0) t r q a.2
    (subst (λ k. TableRow env source action (table_for k) t q) (same b.0 a.0 (some_same (right b.0) (right a.0) (place_of env (text source w)) b.1 a.1)) b.2) at e)

same_variable : (a b : ℕ) → Variable a ≡ Variable b → a ≡ b
same_variable a b h = cc

same_sight : (a b : ℕ) → Sight a ≡ Sight b → a ≡ b
same_sight a b h = cc

one_variable : (env : Env) (source : List ℕ) (action : ℕ) (words : List Span) (w : Span) (t : Tree) → IsOne (VariableRow env source action words w t)
one_variable env source action words w t =
    one_plain (ListedRow env source words w)
    (λ r. ((j : ℕ) × (place_of env (text source w) ≡ Some (Sight j)) × IsRefusalAt w.start kind.BadScope r) ⊎ ((i : ℕ) × (place_of env (text source w) ≡ Some (Variable i)) × TableRow env source action (table.Move i) t r))
    (listed_plain env source words w) (one_scoped env source action Sight Variable table.Move same_variable w t)

one_observed : (env : Env) (source : List ℕ) (action : ℕ) (words : List Span) (before : List Observed) (o : Observed) → IsOne (ObservedRow env source action words before o)
one_observed env source action words before o =
    one_plain (ListedRow env source (words ++ map (λ o. o.name) before) o.name)
    (λ r. ((i : ℕ) × (place_of env (text source o.name) ≡ Some (Variable i)) × IsRefusalAt o.name.start kind.BadScope r) ⊎ ((j : ℕ) × (place_of env (text source o.name) ≡ Some (Sight j)) × TableRow env source action (table.Sight j) o.tree r))
    (listed_plain env source (words ++ map (λ o. o.name) before) o.name) (one_scoped env source action Variable Sight table.Sight same_sight o.name o.tree)

repeated_plain : (P : Type 0) (at : ℕ) → ArePlain (λ r. P × IsRefusalAt at kind.RepeatedName r)
repeated_plain P at r h = plain_at at kind.RepeatedName r (inl (omega arith)) h.1

one_item : (env : Env) (source : List ℕ) (action : ℕ) (before : List Item) (x : Item) (low high : ℕ) → AreRising low (item_spans x) high → IsOne (ItemRow env source action before x)
one_item env source action before (item_of.Variable name t) low high rise = one_variable env source action (words_of before) name t
one_item env source action before (item_of.Observe keyword list end) low high (a, b, rise) =
    let cut = rising_split (all_spans observed_spans list) (end ∷ []) keyword.end high rise in
    one_plain _ (PartRow (ObservedRow env source action (words_of before)) [] list) (repeated_plain _ keyword.start)
    (one_parts (ObservedRow env source action (words_of before)) observed_spans (observed_place env source action (words_of before)) (λ before o low high rise. one_observed env source action _ before o) [] list keyword.end cut.0 cut.1)
one_item env source action before (item_of.Cost keyword t) low high rise =
    one_plain _ (RoleRow env source role.Reward t) (repeated_plain _ keyword.start) (λ r q a b at e. same_plain r q (role_plain env source role.Reward t r a) at e)

-- ---- sections

one_name : (source : List ℕ) (P : Type 0) (n : Type 0) (w : Span) → IsOne (λ r. (P × IsRefusalAt w.start kind.RepeatedName r) ⊎ (n × IsRefusalAt w.start (kind.TooMany 256) r))
one_name source P n w =
    one_plain (λ r. P × IsRefusalAt w.start kind.RepeatedName r) (λ r. n × IsRefusalAt w.start (kind.TooMany 256) r) (repeated_plain P w.start)
    (all_same (λ r. n × IsRefusalAt w.start (kind.TooMany 256) r) (record { at = w.start; kind = kind.TooMany 256 }) (λ r h. h.1))

one_action : (env : Env) (source : List ℕ) (before : List Section) (keyword name end : Span) (items : List Item) (low high : ℕ) → AreRising low (section_spans (section_of.Action keyword name items end)) high → IsOne (ActionRow env source before name items end)
one_action env source before keyword name end items low high (a, b, (c, d, rise)) =
    let cut = rising_split (all_spans item_spans items) (end ∷ []) name.end high rise in
    let n = action_count before in
    one_apart _ _ (one_name source _ (n ≡ 256) name)
    (plain_one (PartRow (ItemRow env source n) [] items) _ (one_parts (ItemRow env source n) item_spans (item_place env source n) (one_item env source n) [] items name.end cut.0 cut.1)
    (λ r h. plain_at end.start kind.MissingPart r (inl (omega arith)) h.1))
    (λ r q x y. let first = name_at r x in let second = place_above (all_spans item_spans items ++ end ∷ []) name.end high q.at rise (behind q y) in omega arith)
  where
    name_at : (r : Refusal) → (Among (IsActionNamed source name) before × IsRefusalAt name.start kind.RepeatedName r) ⊎ ((action_count before ≡ 256) × IsRefusalAt name.start (kind.TooMany 256) r) → r.at ≡ name.start
    name_at r (inl h) = at_place name.start kind.RepeatedName r h.1
    name_at r (inr h) = at_place name.start (kind.TooMany 256) r h.1

    behind : (q : Refusal) → PartRow (ItemRow env source (action_count before)) [] items q ⊎ (IsUnobserved env source items × IsRefusalAt end.start kind.MissingPart q) → HasPlace (all_spans item_spans items ++ end ∷ []) q.at
    behind q (inl h) = has_left (all_spans item_spans items) (end ∷ []) q.at (part_place (ItemRow env source (action_count before)) item_spans (item_place env source (action_count before)) [] items q h)
    behind q (inr h) = has_right (all_spans item_spans items) (end ∷ []) q.at (inl (sym (at_place end.start kind.MissingPart q h.1)))

one_init : (env : Env) (source : List ℕ) (before : List Section) (keyword : Span) (t : Tree) (low high : ℕ) → AreRising low (section_spans (section_of.Init keyword t)) high → IsOne (InitRow env source before keyword t)
one_init env source before keyword t low high (a, b, rise) =
    let wide = factor_rise t keyword.end high rise in
    one_plain _ _ (repeated_plain _ keyword.start)
    (one_plain _ (PartRow (FactorRow env source) [] (factor_trees t)) (λ r h. plain_at keyword.start kind.BadScope r (inl (omega arith)) h.1)
    (one_parts (FactorRow env source) tree_spans (factor_place env source) (λ before t low high rise. one_factor env source before t) [] (factor_trees t) wide.0 wide.1 wide.3))

number_plain : (e : NumError) → IsPlain (number_kind e)
number_plain fault.Shape = inl (omega arith)
number_plain fault.TooFine = inl (omega arith)
number_plain fault.TooLarge = inl (omega arith)

discount_plain : (at : ℕ) (read : Result ℤ NumError) → ArePlain (NumberRow at read)
discount_plain at read r (inl h) = plain_at at (number_kind h.0) r (number_plain h.0) h.2
discount_plain at read r (inr h) = plain_at at kind.DiscountRange r (inr (omega arith, omega arith)) h.3

one_of_plain : (R : Refusal → Type 0) → ArePlain R → IsOne R
one_of_plain R plain r q a b at e = same_plain r q (plain r a) at e

one_section : (env : Env) (source : List ℕ) (before : List Section) (x : Section) (low high : ℕ) → AreRising low (section_spans x) high → IsOne (SectionRow source env before x)
one_section env source before (section_of.Init keyword t) low high rise = one_init (env_after source env before) source before keyword t low high rise
one_section env source before (section_of.Dd keyword name t end) low high rise =
    one_plain _ (RoleRow (env_after source env before) source role.Dd t) (repeated_plain _ name.start) (one_of_plain (RoleRow (env_after source env before) source role.Dd t) (role_plain (env_after source env before) source role.Dd t))
one_section env source before (section_of.Action keyword name items end) low high rise = one_action (env_after source env before) source before keyword name end items low high rise
one_section env source before (section_of.Reward keyword t) low high rise =
    one_plain _ (RoleRow (env_after source env before) source role.Reward t) (repeated_plain _ keyword.start) (one_of_plain (RoleRow (env_after source env before) source role.Reward t) (role_plain (env_after source env before) source role.Reward t))
one_section env source before (section_of.Discount keyword word) low high rise =
    one_plain _ (NumberRow word.start (ticks_of (text source word))) (repeated_plain _ keyword.start) (one_of_plain (NumberRow word.start (ticks_of (text source word))) (discount_plain word.start (ticks_of (text source word))))
one_section env source before (section_of.Horizon keyword word) low high rise = λ r q a b at e. absurd a
one_section env source before (section_of.Tolerance keyword word) low high rise = λ r q a b at e. absurd a

-- ---- the text

end_plain : (source : List ℕ) (env : Env) (xs : List Section) (end : ℕ) → ArePlain (EndRow source env xs end)
end_plain source env xs end r (inl h) = plain_at end kind.MissingPart r (inl (omega arith)) h.1
end_plain source env xs end r (inr h) = plain_at end kind.RewardRange r (inr (omega arith, omega arith)) h.1

end_place : (source : List ℕ) (env : Env) (xs : List Section) (end : ℕ) (r : Refusal) → EndRow source env xs end r → r.at ≡ end
end_place source env xs end r (inl h) = at_place end kind.MissingPart r h.1
end_place source env xs end r (inr h) = at_place end kind.RewardRange r h.1

one_text : (source : List ℕ) (t : Text) → AreRising 0 (text_spans t) (length source) → IsOne (TextRow source t)
one_text source t rise =
    let env = env_of source t in
    let vs = declarations_spans t.variables in
    let os = declarations_spans t.observations in
    let ss = all_spans section_spans t.sections in
    let cut = rising_split (vs ++ os) ss 0 (length source) (subst (λ all. AreRising 0 all (length source)) (sym (append_assoc vs os ss)) rise) in
    let end = rising_le ss cut.0 (length source) cut.2 in
    let S : Refusal → Type 0 = PartRow (SectionRow source env) [] t.sections in
    let E : Refusal → Type 0 = EndRow source env t.sections (length source) in
    let above : (q : Refusal) → S q ⊎ E q → cut.0 ≤ q.at = λ q c. elim c [
      | inl a ↦ place_above ss cut.0 (length source) q.at cut.2 (part_place (SectionRow source env) section_spans (section_place env source) [] t.sections q a)
      | inr b ↦ (let e = end_place source env t.sections (length source) q b in omega arith)
    ] in
    one_apart (DeclaredRow source t) (λ r. S r ⊎ E r) (one_declared source t 0 cut.0 cut.1)
    (plain_one S E (one_parts (SectionRow source env) section_spans (section_place env source) (one_section env source) [] t.sections cut.0 (length source) cut.2) (end_plain source env t.sections (length source)))
    (λ r q a b. let first = place_below (vs ++ os) 0 cut.0 r.at cut.1 (declared_place source t r a) in let second = above q b in omega arith)

neither : (a b p q : ℕ) → (if a == b then nat_lt p q else nat_lt a b) ≡ false → (if b == a then nat_lt q p else nat_lt b a) ≡ false → a ≡ b
neither a b p q h k = grind (arith, nat_tests)

neither_kind : (a b p q : ℕ) → (if a == b then nat_lt p q else nat_lt a b) ≡ false → (if b == a then nat_lt q p else nat_lt b a) ≡ false → p ≡ q
neither_kind a b p q h k = grind (arith, nat_tests)

-- so one refusal comes first
one_least : (source : List ℕ) (t : Text) → AreRising 0 (text_spans t) (length source) → (x y : Refusal) → IsFirstRefusal (TextRow source t) (Some x) → IsFirstRefusal (TextRow source t) (Some y) → x ≡ y
one_least source t rise x y h k =
    one_text source t rise x y h.0 k.0 (neither x.at y.at (rank x.kind) (rank y.kind) (k.1 x h.0) (h.1 y k.0)) (neither_kind x.at y.at (rank x.kind) (rank y.kind) (k.1 x h.0) (h.1 y k.0))

pub one_first : OneRefusalOfText
one_first source t first second is h k = one_least source t (spans_rise source is.tokens t ((cut_alone source is.tokens).0 is.lexed) is.read) first second (part_least source t (Some first) h) (part_least source t (Some second) k)

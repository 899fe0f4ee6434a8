-- The rows of the table stand at places of the sections that they are of.
use Rattle.std.proofs.Common.{◌≡◌, ℕ, ◌≤◌, arith, List, [], ◌∷◌, ◌++◌, refl, sym, ap, ◌∙◌, subst, inl, inr}
use Rattle.std.specs.Prelude.{ℤ, Result}
use Rattle.sp_lex.specs.declared.lexeme.Span.{Span}
use Rattle.sp_lex.specs.declared.decimal.NumError.{NumError}
use Rattle.sp_lex.specs.Decimal.{ticks_of}
use Rattle.sp_syntax.specs.declared.text.Tree.{Tree, out-Tree}
use Rattle.sp_syntax.specs.declared.text.Tree.TheOpen.{Tree-F}
use Rattle.sp_syntax.specs.declared.text.Branch.{Branch}
use Rattle.sp_syntax.specs.declared.text.Observed.{Observed}
use Rattle.sp_syntax.specs.declared.text.Item.{Item}
use Rattle.sp_syntax.specs.declared.text.Item.TheVariants as item_of
use Rattle.sp_syntax.specs.declared.text.Section.{Section}
use Rattle.sp_syntax.specs.declared.text.Section.TheVariants as section_of
use Rattle.sp_rows.specs.declared.tables.Table.{Table}
use Rattle.sp_rows.specs.declared.tables.Table.TheVariants as table
use Rattle.sp_trees.specs.declared.refusal.Refusal.{Refusal}
use Rattle.sp_trees.specs.declared.env.Env.{Env}
use Rattle.sp_trees.specs.Words.{text}
use Rattle.sp_syntax.specs.Spans.{AreRising, tree_spans, observed_spans, item_spans, section_spans, all_spans}
use Rattle.sp_declarations.specs.Rows.{PartRow, HasPlace}
use Rattle.sp_declarations.proofs.ChainLemmas.{has_left, has_right, rising_split, part_place}
use Rattle.sp_checks.specs.declared.roles.Role.TheVariants as role
use Rattle.sp_checks.specs.Roles.{start_of, allowed_slots}
use Rattle.sp_checks.specs.Initial.{factor_trees, trees_by}
use Rattle.sp_checks.specs.Told.{env_after}
use Rattle.sp_checks.proofs.TextRows.{TableRow, ListedRow, VariableRow, ObservedRow, ItemRow, ActionRow, FactorRow, InitRow, NumberRow, SectionRow}
use Rattle.sp_checks.proofs.PlaceLemmas.{row_place, start_place, spans_by, spans_out}

-- a refusal at a place that is known
at : (ss : List Span) (p : ℕ) (r : Refusal) → r.at ≡ p → HasPlace ss p → HasPlace ss r.at
at ss p r e h = subst (HasPlace ss) (sym e) h

place : (q r : Refusal) → r ≡ q → r.at ≡ q.at
place q r e = ap (λ r. r.at) e

-- ---- the initial belief

pub factor_place : (env : Env) (source : List ℕ) (before : List Tree) (t : Tree) (r : Refusal) → FactorRow env source before t r → HasPlace (tree_spans t) r.at
factor_place env source before t r (inl h) = at (tree_spans t) (start_of t) r (place _ r h.1) (start_place t)
factor_place env source before t r (inr (inl h)) = row_place env source (allowed_slots env.scope role.Init) t r h
factor_place env source before t r (inr (inr (q, (inl h)))) = at (tree_spans t) (start_of t) r (place _ r h.1) (start_place t)
factor_place env source before t r (inr (inr (q, (inr h)))) = at (tree_spans t) (start_of t) r (place _ r h.1.2) (start_place t)

pub factors_place : (env : Env) (source : List ℕ) (ts : List Tree) (r : Refusal) → PartRow (FactorRow env source) [] ts r → HasPlace (all_spans tree_spans ts) r.at
factors_place env source ts r h = part_place (FactorRow env source) tree_spans (factor_place env source) [] ts r h

in_tree : (t : Tree) (p : ℕ) → HasPlace (all_spans tree_spans (factor_trees t)) p → HasPlace (tree_spans t) p
in_tree t p h = go (out-Tree t) refl h
  where
    nil : (ss : List Span) → ss ++ [] ≡ ss
    nil [] = refl
    nil (s ∷ ss) = ap (λ rs. s ∷ rs) (nil ss)

    alone : HasPlace (tree_spans t ++ []) p → HasPlace (tree_spans t) p
    alone k = subst (λ ss. HasPlace ss p) (nil (tree_spans t)) k

    go : (x : Tree-F Tree Branch) → out-Tree t ≡ x → HasPlace (all_spans tree_spans (trees_by t x)) p → HasPlace (tree_spans t) p
    go (Tree-F.Product left star ts right) e k = subst (λ ss. HasPlace ss p) (sym (spans_out t ∙ ap spans_by e)) (inr (inr (has_left (all_spans tree_spans ts) (right ∷ []) p k)))
    go (Tree-F.Number left word right) e k = alone k
    go (Tree-F.Reference left word right) e k = alone k
    go (Tree-F.Node left word bs right) e k = alone k
    go (Tree-F.PrimedNode left word bs right) e k = alone k
    go (Tree-F.Sum left plus ts right) e k = alone k

-- the places of the factors rise
pub factor_rise : (t : Tree) (low high : ℕ) → AreRising low (tree_spans t) high → (a b : ℕ) × (low ≤ a) × AreRising a (all_spans tree_spans (factor_trees t)) b
factor_rise t low high rise = go (out-Tree t) (subst (λ ss. AreRising low ss high) (spans_out t) rise)
  where
    nil : (ss : List Span) → ss ++ [] ≡ ss
    nil [] = refl
    nil (s ∷ ss) = ap (λ rs. s ∷ rs) (nil ss)

    alone : (a b : ℕ) × (low ≤ a) × AreRising a (tree_spans t ++ []) b
    alone = (low, high, omega arith, subst (λ ss. AreRising low ss high) (sym (nil (tree_spans t))) rise)

    go : (x : Tree-F Tree Branch) → AreRising low (spans_by x) high → (a b : ℕ) × (low ≤ a) × AreRising a (all_spans tree_spans (trees_by t x)) b
    go (Tree-F.Product left star ts right) (p, q, (c, d, more)) = let cut = rising_split (all_spans tree_spans ts) (right ∷ []) star.end high more in (star.end, cut.0, omega arith, cut.1)
    go (Tree-F.Number left word right) r = alone
    go (Tree-F.Reference left word right) r = alone
    go (Tree-F.Node left word bs right) r = alone
    go (Tree-F.PrimedNode left word bs right) r = alone
    go (Tree-F.Sum left plus ts right) r = alone

init_place : (env : Env) (source : List ℕ) (before : List Section) (keyword : Span) (t : Tree) (r : Refusal) → InitRow env source before keyword t r → HasPlace (section_spans (section_of.Init keyword t)) r.at
init_place env source before keyword t r (inl h) = inl (sym (place _ r h.1))
init_place env source before keyword t r (inr (inl h)) = inl (sym (place _ r h.1))
init_place env source before keyword t r (inr (inr h)) = inr (in_tree t r.at (factors_place env source (factor_trees t) r h))

-- ---- items

pub table_place : (env : Env) (source : List ℕ) (action : ℕ) (k : Table) (t : Tree) (r : Refusal) → TableRow env source action k t r → HasPlace (tree_spans t) r.at
table_place env source action k t r (inl h) = row_place env source (allowed_slots env.scope (role.Table k)) t r h
table_place env source action k t r (inr (q, (inl h))) = at (tree_spans t) (start_of t) r (place _ r h.1) (start_place t)
table_place env source action k t r (inr (q, (inr h))) = at (tree_spans t) (start_of t) r (place _ r h.1.2) (start_place t)

listed_place : (env : Env) (source : List ℕ) (words : List Span) (w : Span) (r : Refusal) → ListedRow env source words w r → w.start ≡ r.at
listed_place env source words w r (inl h) = sym (place _ r h.1)
listed_place env source words w r (inr h) = sym (place _ r h.1)

variable_place : (env : Env) (source : List ℕ) (action : ℕ) (words : List Span) (w : Span) (t : Tree) (r : Refusal) → VariableRow env source action words w t r → HasPlace (w ∷ tree_spans t) r.at
variable_place env source action words w t r (inl h) = inl (listed_place env source words w r h)
variable_place env source action words w t r (inr (inl h)) = inl (sym (place _ r h.2))
variable_place env source action words w t r (inr (inr h)) = inr (table_place env source action (table.Move h.0) t r h.2)

pub observed_place : (env : Env) (source : List ℕ) (action : ℕ) (words : List Span) (before : List Observed) (o : Observed) (r : Refusal) → ObservedRow env source action words before o r → HasPlace (observed_spans o) r.at
observed_place env source action words before o r (inl h) = inl (listed_place env source _ o.name r h)
observed_place env source action words before o r (inr (inl h)) = inl (sym (place _ r h.2))
observed_place env source action words before o r (inr (inr h)) = inr (table_place env source action (table.Sight h.0) o.tree r h.2)

pub item_place : (env : Env) (source : List ℕ) (action : ℕ) (before : List Item) (x : Item) (r : Refusal) → ItemRow env source action before x r → HasPlace (item_spans x) r.at
item_place env source action before (item_of.Variable name t) r h = variable_place env source action _ name t r h
item_place env source action before (item_of.Observe keyword list end) r (inl h) = inl (sym (place _ r h.1))
item_place env source action before (item_of.Observe keyword list end) r (inr h) =
    inr (has_left (all_spans observed_spans list) (end ∷ []) r.at (part_place (ObservedRow env source action _) observed_spans (observed_place env source action _) [] list r h))
item_place env source action before (item_of.Cost keyword t) r (inl h) = inl (sym (place _ r h.1))
item_place env source action before (item_of.Cost keyword t) r (inr h) = inr (row_place env source (allowed_slots env.scope role.Reward) t r h)

action_place : (env : Env) (source : List ℕ) (before : List Section) (keyword name end : Span) (items : List Item) (r : Refusal) → ActionRow env source before name items end r → HasPlace (section_spans (section_of.Action keyword name items end)) r.at
action_place env source before keyword name end items r (inl (inl h)) = inr (inl (sym (place _ r h.1)))
action_place env source before keyword name end items r (inl (inr h)) = inr (inl (sym (place _ r h.1)))
action_place env source before keyword name end items r (inr (inl h)) =
    inr (inr (has_left (all_spans item_spans items) (end ∷ []) r.at (part_place (ItemRow env source _) item_spans (item_place env source _) [] items r h)))
action_place env source before keyword name end items r (inr (inr h)) = inr (inr (has_right (all_spans item_spans items) (end ∷ []) r.at (inl (sym (place _ r h.1)))))

-- ---- sections

pub number_place : (w : Span) (read : Result ℤ NumError) (r : Refusal) → NumberRow w.start read r → HasPlace (w ∷ []) r.at
number_place w read r (inl h) = inl (sym (place _ r h.2))
number_place w read r (inr h) = inl (sym (place _ r h.3))

pub section_place : (env : Env) (source : List ℕ) (before : List Section) (x : Section) (r : Refusal) → SectionRow source env before x r → HasPlace (section_spans x) r.at
section_place env source before (section_of.Init keyword t) r h = init_place (env_after source env before) source before keyword t r h
section_place env source before (section_of.Dd keyword name t end) r (inl h) = inr (inl (sym (place _ r h.1)))
section_place env source before (section_of.Dd keyword name t end) r (inr h) = inr (inr (has_left (tree_spans t) (end ∷ []) r.at (row_place (env_after source env before) source _ t r h)))
section_place env source before (section_of.Action keyword name items end) r h = action_place (env_after source env before) source before keyword name end items r h
section_place env source before (section_of.Reward keyword t) r (inl h) = inl (sym (place _ r h.1))
section_place env source before (section_of.Reward keyword t) r (inr h) = inr (row_place (env_after source env before) source _ t r h)
section_place env source before (section_of.Discount keyword word) r (inl h) = inl (sym (place _ r h.1))
section_place env source before (section_of.Discount keyword word) r (inr h) = inr (number_place word (ticks_of (text source word)) r h)
section_place env source before (section_of.Horizon keyword word) r h = absurd h
section_place env source before (section_of.Tolerance keyword word) r h = absurd h

-- Where the parts of a text stand: the spans of its tokens, in order.
use Rattle.std.specs.Prelude.{ℕ, ◌<◌, ◌≤◌, List, [], ◌∷◌, ◌++◌, map}
use Rattle.sp_lex.specs.declared.lexeme.Span.{Span}
use Rattle.sp_syntax.specs.declared.text.Tree.{Tree}
use Rattle.sp_syntax.specs.declared.text.Tree.TheOpen.{Tree-F, Branch-F}
use Rattle.sp_syntax.specs.declared.text.Tree.TheFolds.{fold-Tree, fold-Branch}
use Rattle.sp_syntax.specs.declared.text.Branch.{Branch}
use Rattle.sp_syntax.specs.declared.text.Declaration.{Declaration}
use Rattle.sp_syntax.specs.declared.text.Declarations.{Declarations}
use Rattle.sp_syntax.specs.declared.text.Observed.{Observed}
use Rattle.sp_syntax.specs.declared.text.Item.{Item}
use Rattle.sp_syntax.specs.declared.text.Item.TheVariants as item
use Rattle.sp_syntax.specs.declared.text.Section.{Section}
use Rattle.sp_syntax.specs.declared.text.Section.TheVariants as section
use Rattle.sp_syntax.specs.declared.text.Text.{Text}
use Rattle.sp_syntax.specs.declared.class.Classed.{Classed}

-- lists one after another
abbrev pub concatenation : {X : Type 0} → List (List X) → List X
concatenation [] = []
concatenation (x ∷ xs) = x ++ concatenation xs

-- one step of a fold: the spans of a tree from those of its parts
abbrev pub tree_step : Tree-F (List Span) (List Span) → List Span
tree_step (Tree-F.Number left word right) = left ∷ word ∷ right ∷ []
tree_step (Tree-F.Reference left word right) = left ∷ word ∷ right ∷ []
tree_step (Tree-F.Node left word bs right) = left ∷ word ∷ (concatenation bs ++ right ∷ [])
tree_step (Tree-F.PrimedNode left word bs right) = left ∷ word ∷ (concatenation bs ++ right ∷ [])
tree_step (Tree-F.Sum left plus ts right) = left ∷ plus ∷ (concatenation ts ++ right ∷ [])
tree_step (Tree-F.Product left star ts right) = left ∷ star ∷ (concatenation ts ++ right ∷ [])

abbrev pub branch_step : Branch-F (List Span) (List Span) → List Span
branch_step b = b.left ∷ b.value ∷ (b.tree ++ b.right ∷ [])

-- the spans of a tree
abbrev pub tree_spans : Tree → List Span
tree_spans = fold-Tree (List Span) (List Span) tree_step branch_step

abbrev pub branch_spans : Branch → List Span
branch_spans = fold-Branch (List Span) (List Span) tree_step branch_step

-- the spans of parts one after another
abbrev pub all_spans : {X : Type 0} → (X → List Span) → List X → List Span
all_spans spans xs = concatenation (map spans xs)

abbrev pub declaration_spans : Declaration → List Span
declaration_spans d = d.left ∷ d.name ∷ (d.values ++ d.right ∷ [])

abbrev pub declarations_spans : Declarations → List Span
declarations_spans d = d.left ∷ d.keyword ∷ (all_spans declaration_spans d.declarations ++ d.right ∷ [])

abbrev pub observed_spans : Observed → List Span
observed_spans o = o.name ∷ tree_spans o.tree

abbrev pub item_spans : Item → List Span
item_spans (item.Variable name t) = name ∷ tree_spans t
item_spans (item.Observe keyword list end) = keyword ∷ (all_spans observed_spans list ++ end ∷ [])
item_spans (item.Cost keyword t) = keyword ∷ tree_spans t

abbrev pub section_spans : Section → List Span
section_spans (section.Init keyword t) = keyword ∷ tree_spans t
section_spans (section.Dd keyword name t end) = keyword ∷ name ∷ (tree_spans t ++ end ∷ [])
section_spans (section.Action keyword name items end) = keyword ∷ name ∷ (all_spans item_spans items ++ end ∷ [])
section_spans (section.Reward keyword t) = keyword ∷ tree_spans t
section_spans (section.Discount keyword word) = keyword ∷ word ∷ []
section_spans (section.Horizon keyword word) = keyword ∷ word ∷ []
section_spans (section.Tolerance keyword word) = keyword ∷ word ∷ []

-- the spans of a text, in order: each token's once
abbrev pub text_spans : Text → List Span
text_spans t = declarations_spans t.variables ++ (declarations_spans t.observations ++ all_spans section_spans t.sections)

-- the spans of tokens
abbrev pub spans_of : List Classed → List Span
spans_of ts = map (λ t. t.span) ts

-- some spans rise from one place to another: none is empty, and each begins at the end of the one before, or behind it
abbrev pub AreRising : ℕ → List Span → ℕ → Type 0
AreRising low [] high = low ≤ high
AreRising low (s ∷ ss) high = (low ≤ s.start) × (s.start < s.end) × AreRising s.end ss high

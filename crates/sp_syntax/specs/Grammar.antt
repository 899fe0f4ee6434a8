-- The grammar of a model text, by cases on the tokens, with the tree that each text has.
use Rattle.std.specs.Prelude.{◌≡◌, List, [], ◌∷◌, ◌++◌, Bool, true, false, IsTrue}
use Rattle.sp_lex.specs.declared.lexeme.Span.{Span}
use Rattle.sp_syntax.specs.declared.class.WordClass.{WordClass}
use Rattle.sp_syntax.specs.declared.class.WordClass.TheVariants as word
use Rattle.sp_syntax.specs.declared.class.TokenClass.{TokenClass}
use Rattle.sp_syntax.specs.declared.class.TokenClass.TheVariants as class
use Rattle.sp_syntax.specs.declared.class.Classed.{Classed}
use Rattle.sp_syntax.specs.declared.text.Tree.{Tree}
use Rattle.sp_syntax.specs.declared.text.Tree.TheVariants as tree
use Rattle.sp_syntax.specs.declared.text.Branch.{Branch, roll-Branch}
use Rattle.sp_syntax.specs.declared.text.Declaration.{Declaration}
use Rattle.sp_syntax.specs.declared.text.Declarations.{Declarations}
use Rattle.sp_syntax.specs.declared.text.Observed.{Observed}
use Rattle.sp_syntax.specs.declared.text.Item.{Item}
use Rattle.sp_syntax.specs.declared.text.Item.TheVariants as item
use Rattle.sp_syntax.specs.declared.text.Section.{Section}
use Rattle.sp_syntax.specs.declared.text.Section.TheVariants as section
use Rattle.sp_syntax.specs.declared.text.Text.{Text}

abbrev pub IsA : TokenClass → Classed → Type 0
IsA c t = t.class ≡ c

-- the token is that keyword
abbrev pub IsKeyword : WordClass → Classed → Type 0
IsKeyword k t = t.class ≡ class.Word k

-- NAME
abbrev pub IsName : Classed → Type 0
IsName t = t.class ≡ class.Word word.Name

-- VALUE and WORD: any word, a keyword too
abbrev pub IsWord : Classed → Type 0
IsWord t = (w : WordClass) × (t.class ≡ class.Word w)

abbrev pub is_number : TokenClass → Bool
is_number (class.Word word.Number) = true
is_number (class.Word word.Minus) = true
is_number _ = false

-- NUMBER
abbrev pub IsNumber : Classed → Type 0
IsNumber t = IsTrue (is_number t.class)

mutual
  -- tree = "(" NUMBER ")" | "(" NAME ")" | "(" NAME branch+ ")" | "(" PRIMED branch+ ")" | "[" "+" tree+ "]" | "[" "*" tree+ "]"
  pub data IsTree : Tree → List Classed → Type 0 where
    number : {t : Tree} {ts : List Classed} (a w b : Classed) → IsA class.Open a → IsNumber w → IsA class.Close b
        → t ≡ tree.Number a.span w.span b.span → ts ≡ a ∷ w ∷ b ∷ [] → IsTree t ts
    reference : {t : Tree} {ts : List Classed} (a w b : Classed) → IsA class.Open a → IsName w → IsA class.Close b
        → t ≡ tree.Reference a.span w.span b.span → ts ≡ a ∷ w ∷ b ∷ [] → IsTree t ts
    node : {t : Tree} {ts : List Classed} (a w b : Classed) (first : Branch) (more : List Branch) (us : List Classed)
        → IsA class.Open a → IsName w → AreBranches (first ∷ more) us → IsA class.Close b
        → t ≡ tree.Node a.span w.span (first ∷ more) b.span → ts ≡ a ∷ w ∷ (us ++ (b ∷ [])) → IsTree t ts
    primed_node : {t : Tree} {ts : List Classed} (a w b : Classed) (first : Branch) (more : List Branch) (us : List Classed)
        → IsA class.Open a → IsA class.Primed w → AreBranches (first ∷ more) us → IsA class.Close b
        → t ≡ tree.PrimedNode a.span w.span (first ∷ more) b.span → ts ≡ a ∷ w ∷ (us ++ (b ∷ [])) → IsTree t ts
    sum : {t : Tree} {ts : List Classed} (a w b : Classed) (first : Tree) (more : List Tree) (us : List Classed)
        → IsA class.LeftSquare a → IsA class.Plus w → AreTrees (first ∷ more) us → IsA class.RightSquare b
        → t ≡ tree.Sum a.span w.span (first ∷ more) b.span → ts ≡ a ∷ w ∷ (us ++ (b ∷ [])) → IsTree t ts
    product : {t : Tree} {ts : List Classed} (a w b : Classed) (first : Tree) (more : List Tree) (us : List Classed)
        → IsA class.LeftSquare a → IsA class.Star w → AreTrees (first ∷ more) us → IsA class.RightSquare b
        → t ≡ tree.Product a.span w.span (first ∷ more) b.span → ts ≡ a ∷ w ∷ (us ++ (b ∷ [])) → IsTree t ts

  -- branch = "(" VALUE tree ")"
  pub data IsBranch : Branch → List Classed → Type 0 where
    branch : {r : Branch} {ts : List Classed} (a w b : Classed) (t : Tree) (us : List Classed)
        → IsA class.Open a → IsWord w → IsTree t us → IsA class.Close b
        → r ≡ roll-Branch (record { left = a.span; value = w.span; tree = t; right = b.span }) → ts ≡ a ∷ w ∷ (us ++ (b ∷ [])) → IsBranch r ts

  pub data AreBranches : List Branch → List Classed → Type 0 where
    no_branches : {ts : List Classed} → ts ≡ [] → AreBranches [] ts
    more_branches : {r : Branch} {rs : List Branch} {ts : List Classed} (us vs : List Classed) → IsBranch r us → AreBranches rs vs → ts ≡ us ++ vs → AreBranches (r ∷ rs) ts

  pub data AreTrees : List Tree → List Classed → Type 0 where
    no_trees : {ts : List Classed} → ts ≡ [] → AreTrees [] ts
    more_trees : {t : Tree} {rs : List Tree} {ts : List Classed} (us vs : List Classed) → IsTree t us → AreTrees rs vs → ts ≡ us ++ vs → AreTrees (t ∷ rs) ts

-- each part in turn, the tokens of one behind those of the other
abbrev pub AreAll : {X : Type 0} → (X → List Classed → Type 0) → List X → List Classed → Type 0
AreAll IsX [] ts = ts ≡ []
AreAll IsX (x ∷ xs) ts = (us vs : List Classed) × IsX x us × AreAll IsX xs vs × (ts ≡ us ++ vs)

-- a word, seen as its span
abbrev pub IsValue : Span → List Classed → Type 0
IsValue s ts = (w : Classed) × IsWord w × (s ≡ w.span) × (ts ≡ w ∷ [])

-- decl = "(" NAME VALUE+ ")"
pub data IsDeclaration : Declaration → List Classed → Type 0 where
  declaration : {d : Declaration} {ts : List Classed} (a n b : Classed) (first : Span) (more : List Span) (us : List Classed)
      → IsA class.Open a → IsName n → AreAll IsValue (first ∷ more) us → IsA class.Close b
      → d ≡ record { left = a.span; name = n.span; values = first ∷ more; right = b.span } → ts ≡ a ∷ n ∷ (us ++ (b ∷ [])) → IsDeclaration d ts

-- variables = "(" "variables" decl+ ")", and observations = "(" "observations" decl+ ")"
pub data AreDeclarations : WordClass → Declarations → List Classed → Type 0 where
  declarations : {k : WordClass} {d : Declarations} {ts : List Classed} (a w b : Classed) (first : Declaration) (more : List Declaration) (us : List Classed)
      → IsA class.Open a → IsKeyword k w → AreAll IsDeclaration (first ∷ more) us → IsA class.Close b
      → d ≡ record { left = a.span; keyword = w.span; declarations = first ∷ more; right = b.span } → ts ≡ a ∷ w ∷ (us ++ (b ∷ [])) → AreDeclarations k d ts

-- an entry of an observe list: NAME tree
pub data IsObserved : Observed → List Classed → Type 0 where
  observed : {o : Observed} {ts : List Classed} (n : Classed) (t : Tree) (us : List Classed)
      → IsName n → IsTree t us → o ≡ record { name = n.span; tree = t } → ts ≡ n ∷ us → IsObserved o ts

-- item = NAME tree | "observe" (NAME tree)* "endobserve" | "cost" tree
pub data IsItem : Item → List Classed → Type 0 where
  variable : {i : Item} {ts : List Classed} (n : Classed) (t : Tree) (us : List Classed)
      → IsName n → IsTree t us → i ≡ item.Variable n.span t → ts ≡ n ∷ us → IsItem i ts
  observe : {i : Item} {ts : List Classed} (k e : Classed) (list : List Observed) (us : List Classed)
      → IsKeyword word.Observe k → AreAll IsObserved list us → IsKeyword word.EndObserve e
      → i ≡ item.Observe k.span list e.span → ts ≡ k ∷ (us ++ (e ∷ [])) → IsItem i ts
  cost : {i : Item} {ts : List Classed} (k : Classed) (t : Tree) (us : List Classed)
      → IsKeyword word.Cost k → IsTree t us → i ≡ item.Cost k.span t → ts ≡ k ∷ us → IsItem i ts

-- section = "init" tree | "dd" NAME tree "enddd" | "action" NAME item* "endaction" | "reward" tree | "discount" WORD | "horizon" WORD | "tolerance" WORD
pub data IsSection : Section → List Classed → Type 0 where
  init : {s : Section} {ts : List Classed} (k : Classed) (t : Tree) (us : List Classed)
      → IsKeyword word.Init k → IsTree t us → s ≡ section.Init k.span t → ts ≡ k ∷ us → IsSection s ts
  dd : {s : Section} {ts : List Classed} (k n e : Classed) (t : Tree) (us : List Classed)
      → IsKeyword word.Dd k → IsName n → IsTree t us → IsKeyword word.EndDd e
      → s ≡ section.Dd k.span n.span t e.span → ts ≡ k ∷ n ∷ (us ++ (e ∷ [])) → IsSection s ts
  action : {s : Section} {ts : List Classed} (k n e : Classed) (items : List Item) (us : List Classed)
      → IsKeyword word.Action k → IsName n → AreAll IsItem items us → IsKeyword word.EndAction e
      → s ≡ section.Action k.span n.span items e.span → ts ≡ k ∷ n ∷ (us ++ (e ∷ [])) → IsSection s ts
  reward : {s : Section} {ts : List Classed} (k : Classed) (t : Tree) (us : List Classed)
      → IsKeyword word.Reward k → IsTree t us → s ≡ section.Reward k.span t → ts ≡ k ∷ us → IsSection s ts
  discount : {s : Section} {ts : List Classed} (k w : Classed)
      → IsKeyword word.Discount k → IsWord w → s ≡ section.Discount k.span w.span → ts ≡ k ∷ w ∷ [] → IsSection s ts
  horizon : {s : Section} {ts : List Classed} (k w : Classed)
      → IsKeyword word.Horizon k → IsWord w → s ≡ section.Horizon k.span w.span → ts ≡ k ∷ w ∷ [] → IsSection s ts
  tolerance : {s : Section} {ts : List Classed} (k w : Classed)
      → IsKeyword word.Tolerance k → IsWord w → s ≡ section.Tolerance k.span w.span → ts ≡ k ∷ w ∷ [] → IsSection s ts

-- file = variables observations section*
pub data IsText : Text → List Classed → Type 0 where
  text : {f : Text} {ts : List Classed} (variables observations : Declarations) (sections : List Section) (us vs ws : List Classed)
      → AreDeclarations word.Variables variables us → AreDeclarations word.Observations observations vs → AreAll IsSection sections ws
      → f ≡ record { variables = variables; observations = observations; sections = sections } → ts ≡ us ++ (vs ++ ws) → IsText f ts

-- the tokens are a text
abbrev pub InGrammar : List Classed → Type 0
InGrammar ts = (f : Text) × IsText f ts

-- some continuation is a text
abbrev pub IsViable : List Classed → Type 0
IsViable ts = (more : List Classed) × InGrammar (ts ++ more)

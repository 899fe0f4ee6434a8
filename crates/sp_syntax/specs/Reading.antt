-- Reading as functions on tokens. `end` is the source's length, `left` says how many brackets may still be opened.
use Rattle.std.specs.Prelude.{◌≡◌, ⊤, ℕ, zero, suc, List, [], ◌∷◌, ◌++◌, length, Bool, true, false, Option, Some, None, Result, Ok, Err, if◌then◌else◌, ◌==◌, ◌-◌}
use Rattle.sp_lex.specs.declared.lexeme.Span.{Span}
use Rattle.sp_syntax.specs.declared.class.WordClass.TheVariants as word
use Rattle.sp_syntax.specs.declared.class.TokenClass.{TokenClass}
use Rattle.sp_syntax.specs.declared.class.TokenClass.TheVariants as class
use Rattle.sp_syntax.specs.declared.class.Classed.{Classed}
use Rattle.sp_syntax.specs.declared.error.SyntaxKind.{SyntaxKind}
use Rattle.sp_syntax.specs.declared.error.SyntaxKind.TheVariants as kind
use Rattle.sp_syntax.specs.declared.error.SyntaxError.{SyntaxError}
use Rattle.sp_syntax.specs.declared.error.SyntaxError.TheVariants as error
use Rattle.sp_syntax.specs.declared.text.Tree.{Tree}
use Rattle.sp_syntax.specs.declared.text.Tree.TheVariants as tree
use Rattle.sp_syntax.specs.declared.text.Branch.{Branch, roll-Branch}
use Rattle.sp_syntax.specs.declared.text.Declaration.{Declaration}
use Rattle.sp_syntax.specs.declared.text.Declarations.{Declarations}
use Rattle.sp_syntax.specs.declared.text.Observed.{Observed}
use Rattle.sp_syntax.specs.declared.text.Item.{Item}
use Rattle.sp_syntax.specs.declared.text.Item.TheVariants as item
use Rattle.sp_syntax.specs.declared.text.Section.{Section}
use Rattle.sp_syntax.specs.declared.text.Section.TheVariants as section
use Rattle.sp_syntax.specs.declared.text.Text.{Text}
use Rattle.sp_syntax.specs.Fault.{Fault}

abbrev pub Read : Type 0 → Type 0
Read X = List Classed → Result (X × List Classed) Fault

infixl 10 ◌>>=◌
abbrev pub ◌>>=◌ : {A B : Type 0} → Result A Fault → (A → Result B Fault) → Result B Fault
(Ok x) >>= f = f x
(Err e) >>= f = Err e

abbrev pub error_of : Fault → SyntaxError
error_of f = error.Fault f.at f.kind

-- a function of the code gives what reading gives, unless memory ran out
abbrev pub GivesReading : {X : Type 0} → Result (X × List Classed) Fault → Result X SyntaxError → List Classed → Type 0
GivesReading read (Ok x) new = read ≡ Ok (x, new)
GivesReading read (Err (error.Fault at kind)) new = read ≡ Err (record { at = at; kind = kind })
GivesReading read (Err error.NoMemory) new = ⊤

abbrev pub head_class : List Classed → Option TokenClass
head_class [] = None
head_class (t ∷ ts) = Some t.class

abbrev pub front : List Classed → Span
front [] = record { start = 0; end = 0 }
front (t ∷ ts) = t.span

abbrev pub rest : List Classed → List Classed
rest [] = []
rest (t ∷ ts) = ts

-- the fault of a token that may not stand here, or of the end
abbrev pub here : ℕ → List Classed → Fault
here end [] = record { at = end; kind = kind.Unclosed }
here end (t ∷ ts) = record { at = t.span.start; kind = kind.Unexpected }

abbrev pub here_as : List Classed → SyntaxKind → Fault
here_as ts k = record { at = (front ts).start; kind = k }

abbrev pub is_open : Option TokenClass → Bool
is_open (Some class.Open) = true
is_open _ = false

abbrev pub is_close : Option TokenClass → Bool
is_close (Some class.Close) = true
is_close _ = false

abbrev pub is_right_square : Option TokenClass → Bool
is_right_square (Some class.RightSquare) = true
is_right_square _ = false

abbrev pub is_word : Option TokenClass → Bool
is_word (Some (class.Word w)) = true
is_word _ = false

abbrev pub is_name : Option TokenClass → Bool
is_name (Some (class.Word word.Name)) = true
is_name _ = false

abbrev pub is_variables : Option TokenClass → Bool
is_variables (Some (class.Word word.Variables)) = true
is_variables _ = false

abbrev pub is_observations : Option TokenClass → Bool
is_observations (Some (class.Word word.Observations)) = true
is_observations _ = false

abbrev pub is_end_dd : Option TokenClass → Bool
is_end_dd (Some (class.Word word.EndDd)) = true
is_end_dd _ = false

abbrev pub is_end_action : Option TokenClass → Bool
is_end_action (Some (class.Word word.EndAction)) = true
is_end_action _ = false

abbrev pub is_end_observe : Option TokenClass → Bool
is_end_observe (Some (class.Word word.EndObserve)) = true
is_end_observe _ = false

-- the next token, where it fits
unfoldable pub expect : Bool → ℕ → Read Span
expect true end ts = Ok (front ts, rest ts)
expect false end ts = Err (here end ts)

-- the next token, where its class is of those
abbrev pub one_of : (Option TokenClass → Bool) → ℕ → Read Span
one_of fits end ts = expect (fits (head_class ts)) end ts

-- the parts behind some, and the token that ends them; the second number bounds the turns: no more than there are tokens
abbrev pub many_on : {X : Type 0} → (List X → Read (List X × Span)) → Read X → Bool → List X → Read (List X × Span)
many_on more one true xs ts = Ok ((xs, front ts), rest ts)
many_on more one false xs ts = one ts >>= λ x. more (xs ++ (x.0 ∷ [])) x.1

unfoldable pub many : {X : Type 0} → (Option TokenClass → Bool) → Read X → ℕ → ℕ → List X → Read (List X × Span)
many ends one end zero xs ts = Err (here end ts)
many ends one end (suc n) xs ts = many_on (many ends one end n) one (ends (head_class ts)) xs ts

-- one part or more, and the token that ends them
unfoldable pub several : {X : Type 0} → (Option TokenClass → Bool) → Read X → ℕ → Read (List X × Span)
several ends one end ts = one ts >>= λ first. many ends one end (length first.1) (first.0 ∷ []) first.1

-- The functions below take the reader of a tree one level further in.
abbrev pub branch_on : Read Tree → ℕ → ℕ → Option TokenClass → Read Branch
branch_on inner end left (Some class.Open) ts = if left == 0 then Err (here_as ts kind.TooDeep) else (do
  value ← one_of is_word end (rest ts)
  tree ← inner value.1
  right ← one_of is_close end tree.1
  Ok (roll-Branch (record { left = front ts; value = value.0; tree = tree.0; right = right.0 }), right.1))
branch_on inner end left _ ts = Err (here end ts)

unfoldable pub branch : Read Tree → ℕ → ℕ → Read Branch
branch inner end left ts = branch_on inner end left (head_class ts) ts

abbrev pub after_name_on : Read Branch → ℕ → Span → Span → Bool → Read Tree
after_name_on one end a w true ts = Ok (tree.Reference a w (front ts), rest ts)
after_name_on one end a w false ts = several is_close one end ts >>= λ more. Ok (tree.Node a w more.0.0 more.0.1, more.1)

unfoldable pub after_name : Read Branch → ℕ → Span → Span → Read Tree
after_name one end a w ts = after_name_on one end a w (is_close (head_class ts)) ts

abbrev pub round_on : Read Branch → ℕ → Span → Option TokenClass → Read Tree
round_on one end a (Some (class.Word word.Number)) ts = one_of is_close end (rest ts) >>= λ b. Ok (tree.Number a (front ts) b.0, b.1)
round_on one end a (Some (class.Word word.Minus)) ts = one_of is_close end (rest ts) >>= λ b. Ok (tree.Number a (front ts) b.0, b.1)
round_on one end a (Some (class.Word word.Name)) ts = after_name one end a (front ts) (rest ts)
round_on one end a (Some class.Primed) ts = several is_close one end (rest ts) >>= λ more. Ok (tree.PrimedNode a (front ts) more.0.0 more.0.1, more.1)
round_on one end a _ ts = Err (here end ts)

unfoldable pub round : Read Branch → ℕ → Span → Read Tree
round one end a ts = round_on one end a (head_class ts) ts

abbrev pub square_on : Read Tree → ℕ → Span → Option TokenClass → Read Tree
square_on one end a (Some class.Plus) ts = several is_right_square one end (rest ts) >>= λ more. Ok (tree.Sum a (front ts) more.0.0 more.0.1, more.1)
square_on one end a (Some class.Star) ts = several is_right_square one end (rest ts) >>= λ more. Ok (tree.Product a (front ts) more.0.0 more.0.1, more.1)
square_on one end a (Some class.Hash) ts = Err (here_as ts kind.Unsupported)
square_on one end a (Some class.Slash) ts = Err (here_as ts kind.Unsupported)
square_on one end a (Some (class.Word word.Minus)) ts = Err (here_as ts kind.Unsupported)
square_on one end a _ ts = Err (here end ts)

unfoldable pub square : Read Tree → ℕ → Span → Read Tree
square one end a ts = square_on one end a (head_class ts) ts

-- inner reads a tree two levels in, next a tree one level in
abbrev pub tree_on : Read Tree → Read Tree → ℕ → ℕ → Option TokenClass → Read Tree
tree_on inner next end left (Some class.Open) ts = if left == 0 then Err (here_as ts kind.TooDeep) else round (branch inner end (left - 1)) end (front ts) (rest ts)
tree_on inner next end left (Some class.LeftSquare) ts = if left == 0 then Err (here_as ts kind.TooDeep) else square next end (front ts) (rest ts)
tree_on inner next end left _ ts = Err (here end ts)

-- a tree; the first number is one more than the brackets that may be opened
unfoldable pub tree_to : ℕ → ℕ → ℕ → Read Tree
tree_to zero end left ts = Err (here end ts)
tree_to (suc zero) end left ts = tree_on (tree_to zero end (left - 1 - 1)) (tree_to zero end (left - 1)) end left (head_class ts) ts
tree_to (suc (suc n)) end left ts = tree_on (tree_to n end (left - 1 - 1)) (tree_to (suc n) end (left - 1)) end left (head_class ts) ts

abbrev pub tree_at : ℕ → ℕ → Read Tree
tree_at end left = tree_to (suc left) end left

abbrev pub branch_at : ℕ → ℕ → Read Branch
branch_at end left = branch (tree_to left end (left - 1)) end left

-- a declaration
unfoldable pub declaration : ℕ → Read Declaration
declaration end ts = do
  a ← one_of is_open end ts
  name ← one_of is_name end a.1
  values ← several is_close (one_of is_word end) end name.1
  Ok (record { left = a.0; name = name.0; values = values.0.0; right = values.0.1 }, values.1)

-- the declarations behind their keyword
unfoldable pub declarations : ℕ → Span → Span → Read Declarations
declarations end a k ts =
    several is_close (declaration end) end ts >>= λ all. Ok (record { left = a; keyword = k; declarations = all.0.0; right = all.0.1 }, all.1)

-- an entry of an observe list
unfoldable pub observe_entry : ℕ → ℕ → Read Observed
observe_entry end left ts = do
  name ← one_of is_name end ts
  tree ← tree_at end left name.1
  Ok (record { name = name.0; tree = tree.0 }, tree.1)

abbrev pub item_on : ℕ → ℕ → Option TokenClass → Read Item
item_on end left (Some (class.Word word.Name)) ts = tree_at end left (rest ts) >>= λ t. Ok (item.Variable (front ts) t.0, t.1)
item_on end left (Some (class.Word word.Observe)) ts =
    many is_end_observe (observe_entry end left) end (length (rest ts)) [] (rest ts) >>= λ list. Ok (item.Observe (front ts) list.0.0 list.0.1, list.1)
item_on end left (Some (class.Word word.Cost)) ts = tree_at end left (rest ts) >>= λ t. Ok (item.Cost (front ts) t.0, t.1)
item_on end left _ ts = Err (here end ts)

-- an item of an action
unfoldable pub item_at : ℕ → ℕ → Read Item
item_at end left ts = item_on end left (head_class ts) ts

-- an action behind its keyword
unfoldable pub action : ℕ → ℕ → Span → Read Section
action end left k ts = do
  name ← one_of is_name end ts
  items ← many is_end_action (item_at end left) end (length name.1) [] name.1
  Ok (section.Action k name.0 items.0.0 items.0.1, items.1)

-- a dd behind its keyword
unfoldable pub dd : ℕ → ℕ → Span → Read Section
dd end left k ts = do
  name ← one_of is_name end ts
  tree ← tree_at end left name.1
  right ← one_of is_end_dd end tree.1
  Ok (section.Dd k name.0 tree.0 right.0, right.1)

abbrev pub section_on : ℕ → ℕ → Option TokenClass → Read Section
section_on end left (Some (class.Word word.Init)) ts = tree_at end left (rest ts) >>= λ t. Ok (section.Init (front ts) t.0, t.1)
section_on end left (Some (class.Word word.Dd)) ts = dd end left (front ts) (rest ts)
section_on end left (Some (class.Word word.Action)) ts = action end left (front ts) (rest ts)
section_on end left (Some (class.Word word.Reward)) ts = tree_at end left (rest ts) >>= λ t. Ok (section.Reward (front ts) t.0, t.1)
section_on end left (Some (class.Word word.Discount)) ts = one_of is_word end (rest ts) >>= λ w. Ok (section.Discount (front ts) w.0, w.1)
section_on end left (Some (class.Word word.Horizon)) ts = one_of is_word end (rest ts) >>= λ w. Ok (section.Horizon (front ts) w.0, w.1)
section_on end left (Some (class.Word word.Tolerance)) ts = one_of is_word end (rest ts) >>= λ w. Ok (section.Tolerance (front ts) w.0, w.1)
section_on end left (Some (class.Word word.Unnormalized)) ts = Err (here_as ts kind.Unsupported)
section_on end left _ ts = Err (here end ts)

unfoldable pub section_at : ℕ → ℕ → Read Section
section_at end left ts = section_on end left (head_class ts) ts

-- the sections behind some, up to the end; the third number bounds the turns
abbrev pub is_empty : List Classed → Bool
is_empty [] = true
is_empty (t ∷ ts) = false

abbrev pub sections_on : (List Section → Read (List Section)) → Read Section → Bool → List Section → Read (List Section)
sections_on more one true xs ts = Ok (xs, ts)
sections_on more one false xs ts = one ts >>= λ x. more (xs ++ (x.0 ∷ [])) x.1

unfoldable pub sections : ℕ → ℕ → ℕ → List Section → Read (List Section)
sections end left zero xs ts = Ok (xs, ts)
sections end left (suc n) xs ts = sections_on (sections end left n) (section_at end left) (is_empty ts) xs ts

-- a whole text
unfoldable pub text : ℕ → ℕ → Read Text
text end left ts = do
  a ← one_of is_open end ts
  k ← one_of is_variables end a.1
  variables ← declarations end a.0 k.0 k.1
  b ← one_of is_open end variables.1
  l ← one_of is_observations end b.1
  observations ← declarations end b.0 l.0 l.1
  all ← sections end left (length observations.1) [] observations.1
  Ok (record { variables = variables.0; observations = observations.0; sections = all.0 }, all.1)

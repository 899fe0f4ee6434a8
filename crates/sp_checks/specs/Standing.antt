-- Where the parts of a text stand, and what stands before each.
use Rattle.std.specs.Prelude.{◌≡◌, ℕ, ◌+◌, ◌⊎◌, Bool, true, false, List, [], ◌∷◌, ◌++◌, map, fold, Some}
use Rattle.sp_lex.specs.declared.lexeme.Span.{Span}
use Rattle.sp_syntax.specs.declared.text.Tree.{Tree, out-Tree}
use Rattle.sp_syntax.specs.declared.text.Tree.TheOpen.{Tree-F}
use Rattle.sp_syntax.specs.declared.text.Branch.{Branch}
use Rattle.sp_syntax.specs.declared.text.Declaration.{Declaration}
use Rattle.sp_syntax.specs.declared.text.Observed.{Observed}
use Rattle.sp_syntax.specs.declared.text.Item.{Item}
use Rattle.sp_syntax.specs.declared.text.Item.TheVariants as item_of
use Rattle.sp_syntax.specs.declared.text.Section.{Section}
use Rattle.sp_syntax.specs.declared.text.Section.TheVariants as section_of
use Rattle.sp_syntax.specs.declared.text.Text.{Text}
use Rattle.sp_rows.specs.declared.tables.Table.{Table}
use Rattle.sp_rows.specs.declared.tables.Table.TheVariants as table
use Rattle.sp_trees.specs.declared.env.Env.{Env}
use Rattle.sp_trees.specs.declared.nodes.Place.TheVariants.{Variable, Sight}
use Rattle.sp_trees.specs.declared.lists.Op.{Op}
use Rattle.sp_trees.specs.declared.lists.Op.TheVariants as op
use Rattle.sp_trees.specs.Words.{text}
use Rattle.sp_trees.specs.Nodes.{place_of}
use Rattle.sp_trees.specs.Rows.{Among, IsSubtree}
use Rattle.sp_checks.specs.declared.roles.Role.{Role}
use Rattle.sp_checks.specs.declared.roles.Role.TheVariants as role
use Rattle.sp_checks.specs.Initial.{factor_trees}
use Rattle.sp_checks.specs.Told.{env_of, env_after}

-- ---- lists
-- an item of a list, and the items before it
pub record StandsBehind {X : Type 0} (before : List X) (x : X) (list : List X) : Type 0 where
  pub after : List X
  pub is : list ≡ before ++ x ∷ after

-- two words are the same
abbrev pub IsSame : List ℕ → Span → Span → Type 0
IsSame source w v = text source v ≡ text source w

-- the second of two words of a list that are the same, and where it begins
pub record RepeatedWord (source : List ℕ) (words : List Span) (at : ℕ) : Type 0 where
  pub before : List Span
  pub word : Span
  pub stands : StandsBehind before word words
  pub same : Among (IsSame source word) before
  pub place : at ≡ word.start

-- ---- declarations
-- the variables and then the observation variables: one class of names
abbrev pub declarations_of : Text → List Declaration
declarations_of t = t.variables.declarations ++ t.observations.declarations

-- ---- sections
abbrev pub IsInit : Section → Type 0
IsInit (section_of.Init keyword t) = Unit {0}
IsInit _ = ⊥

abbrev pub IsRewardSection : Section → Type 0
IsRewardSection (section_of.Reward keyword t) = Unit {0}
IsRewardSection _ = ⊥

abbrev pub IsDiscount : Section → Type 0
IsDiscount (section_of.Discount keyword word) = Unit {0}
IsDiscount _ = ⊥

abbrev pub IsActionSection : Section → Type 0
IsActionSection (section_of.Action keyword name items end) = Unit {0}
IsActionSection _ = ⊥

-- an action of the name that this word is
abbrev pub IsActionNamed : List ℕ → Span → Section → Type 0
IsActionNamed source w (section_of.Action keyword name items end) = IsSame source w name
IsActionNamed source w _ = ⊥

-- a dd of the name that this word is
abbrev pub IsDdNamed : List ℕ → Span → Section → Type 0
IsDdNamed source w (section_of.Dd keyword name t end) = IsSame source w name
IsDdNamed source w _ = ⊥

abbrev pub one_action : Section → ℕ
one_action (section_of.Action keyword name items end) = 1
one_action _ = 0

-- how many actions there are
abbrev pub action_count : List Section → ℕ
action_count before = fold (λ n s. n + one_action s) 0 before

-- the names declared before a section: the variables, and the dds of the sections before it
abbrev pub env_before : List ℕ → Text → List Section → Env
env_before source t before = env_after source (env_of source t) before

-- an init section of a text
pub record InitOf (t : Text) : Type 0 where
  pub before : List Section
  pub keyword : Span
  pub tree : Tree
  pub stands : StandsBehind before (section_of.Init keyword tree) t.sections

-- a dd section of a text
pub record DdOf (t : Text) : Type 0 where
  pub before : List Section
  pub keyword : Span
  pub name : Span
  pub tree : Tree
  pub end : Span
  pub stands : StandsBehind before (section_of.Dd keyword name tree end) t.sections

-- a reward section of a text
pub record RewardOf (t : Text) : Type 0 where
  pub before : List Section
  pub keyword : Span
  pub tree : Tree
  pub stands : StandsBehind before (section_of.Reward keyword tree) t.sections

-- a discount section of a text
pub record DiscountOf (t : Text) : Type 0 where
  pub before : List Section
  pub keyword : Span
  pub word : Span
  pub stands : StandsBehind before (section_of.Discount keyword word) t.sections

-- an action of a text
pub record ActionOf (t : Text) : Type 0 where
  pub before : List Section
  pub keyword : Span
  pub name : Span
  pub items : List Item
  pub end : Span
  pub stands : StandsBehind before (section_of.Action keyword name items end) t.sections

-- ---- items of an action
abbrev pub IsObserve : Item → Type 0
IsObserve (item_of.Observe keyword list end) = Unit {0}
IsObserve _ = ⊥

abbrev pub IsCost : Item → Type 0
IsCost (item_of.Cost keyword t) = Unit {0}
IsCost _ = ⊥

abbrev pub words_in : Item → List Span
words_in (item_of.Variable name t) = name ∷ []
words_in (item_of.Observe keyword list end) = map (λ o. o.name) list
words_in (item_of.Cost keyword t) = []

-- the words NAME that items list, those of observe too
abbrev pub words_of : List Item → List Span
words_of items = fold (λ ws i. ws ++ words_in i) [] items

abbrev pub observed_in : Item → List Span
observed_in (item_of.Observe keyword list end) = map (λ o. o.name) list
observed_in _ = []

-- the words NAME that observe lists
abbrev pub observed_words : List Item → List Span
observed_words items = fold (λ ws i. ws ++ observed_in i) [] items

-- an item NAME tree
abbrev pub IsListed : List Item → Span → Tree → Type 0
IsListed items name tree = Among (λ x. x ≡ item_of.Variable name tree) items

-- a pair NAME tree of observe
pub record HasPair (items : List Item) (pair : Observed) : Type 0 where
  pub keyword : Span
  pub list : List Observed
  pub end : Span
  pub item : Among (λ x. x ≡ item_of.Observe keyword list end) items
  pub stands : Among (λ o. o ≡ pair) list

-- a cost of an action, and the items before it
pub record CostOf (items : List Item) : Type 0 where
  pub before : List Item
  pub keyword : Span
  pub tree : Tree
  pub stands : StandsBehind before (item_of.Cost keyword tree) items

-- an observe of an action, and the items before it
pub record ObserveOf (items : List Item) : Type 0 where
  pub before : List Item
  pub keyword : Span
  pub list : List Observed
  pub end : Span
  pub stands : StandsBehind before (item_of.Observe keyword list end) items

-- ---- trees
-- what a tree is made of
pub record NumberOf (t : Tree) : Type 0 where
  pub left : Span
  pub word : Span
  pub right : Span
  pub is : out-Tree t ≡ Tree-F.Number left word right

pub record ReferenceOf (t : Tree) : Type 0 where
  pub left : Span
  pub word : Span
  pub right : Span
  pub is : out-Tree t ≡ Tree-F.Reference left word right

abbrev pub node_form : Bool → Span → Span → List Branch → Span → Tree-F Tree Branch
node_form false left word branches right = Tree-F.Node left word branches right
node_form true left word branches right = Tree-F.PrimedNode left word branches right

pub record NodeOf (t : Tree) : Type 0 where
  pub is_primed : Bool
  pub left : Span
  pub word : Span
  pub branches : List Branch
  pub right : Span
  pub is : out-Tree t ≡ node_form is_primed left word branches right

abbrev pub list_form : Op → Span → Span → List Tree → Span → Tree-F Tree Branch
list_form op.Sum left sign trees right = Tree-F.Sum left sign trees right
list_form op.Product left sign trees right = Tree-F.Product left sign trees right

pub record ListOf (o : Op) (t : Tree) : Type 0 where
  pub left : Span
  pub sign : Span
  pub trees : List Tree
  pub right : Span
  pub is : out-Tree t ≡ list_form o left sign trees right

-- the tree of a table of the action of that number, where those names are declared before it
abbrev pub TableStands : List ℕ → Text → Env → ℕ → Table → Tree → Type 0
TableStands source t env action (table.Move i) tree =
    (a : ActionOf t) × (env ≡ env_before source t a.before) × (action ≡ action_count a.before)
    × ((name : Span) × IsListed a.items name tree × (place_of env (text source name) ≡ Some (Variable i)))
TableStands source t env action (table.Sight j) tree =
    (a : ActionOf t) × (env ≡ env_before source t a.before) × (action ≡ action_count a.before)
    × ((name : Span) × HasPair a.items (record { name = name; tree = tree }) × (place_of env (text source name) ≡ Some (Sight j)))

-- a tree of a text by what it is for, where those names are declared before it
abbrev pub TreeStands : List ℕ → Text → Env → Role → Tree → Type 0
TreeStands source t env role.Dd tree = (d : DdOf t) × (env ≡ env_before source t d.before) × (d.tree ≡ tree)
TreeStands source t env role.Init tree = (s : InitOf t) × (env ≡ env_before source t s.before) × Among (λ f. f ≡ tree) (factor_trees s.tree)
TreeStands source t env role.Reward tree =
    ((s : RewardOf t) × (env ≡ env_before source t s.before) × (s.tree ≡ tree))
    ⊎ ((a : ActionOf t) × (env ≡ env_before source t a.before) × ((c : CostOf a.items) × (c.tree ≡ tree)))
TreeStands source t env (role.Table k) tree = (action : ℕ) × TableStands source t env action k tree

-- a tree of a text, or one inside of it: the names declared before it, and what the whole tree is for
pub record TreeOf (source : List ℕ) (t : Text) : Type 0 where
  pub env : Env
  pub for : Role
  pub whole : Tree
  pub stands : TreeStands source t env for whole
  pub tree : Tree
  pub inside : IsSubtree tree whole

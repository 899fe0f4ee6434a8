-- The table of refusals for a tree: each row by itself, apart from the judging.
use Rattle.std.specs.Prelude.{◌≡◌, ℕ, ◌<◌, ◌&&◌, ◌⊎◌, unsigned_abs, ℤ, ◌≤◌, Bool, true, false, List, [], ◌∷◌, ◌++◌, map, length, Option, Some, None, Result, Err}
use Rattle.sp_lex.specs.declared.lexeme.Span.{Span}
use Rattle.sp_lex.specs.declared.decimal.NumError.{NumError}
use Rattle.sp_lex.specs.Decimal.{ticks_of}
use Rattle.sp_syntax.specs.declared.text.Tree.{Tree, out-Tree}
use Rattle.sp_syntax.specs.declared.text.Tree.TheOpen.{Tree-F}
use Rattle.sp_syntax.specs.declared.text.Branch.{Branch, out-Branch}
use Rattle.sp_dd.specs.Points.{IsPoint}
use Rattle.sp_dd.specs.Func.{Shape}
use Rattle.sp_trees.specs.declared.refusal.ModelKind.{ModelKind}
use Rattle.sp_trees.specs.declared.refusal.ModelKind.TheVariants as kind
use Rattle.sp_trees.specs.declared.refusal.Refusal.{Refusal}
use Rattle.sp_trees.specs.declared.slots.Slots.{Slots}
use Rattle.sp_trees.specs.declared.env.Env.{Env}
use Rattle.sp_trees.specs.declared.env.Dd.{Dd}
use Rattle.sp_trees.specs.declared.nodes.Place.{Place}
use Rattle.sp_trees.specs.declared.lists.Op.{Op}
use Rattle.sp_trees.specs.declared.lists.Op.TheVariants as op
use Rattle.sp_trees.specs.Refusals.{is_before}
use Rattle.sp_trees.specs.Slots.{has, is_among}
use Rattle.sp_trees.specs.Words.{text, name_span, number_of}
use Rattle.sp_trees.specs.Dds.{dd_of_name}
use Rattle.sp_trees.specs.Single.{number_kind}
use Rattle.sp_trees.specs.Lists.{greatest_partial}
use Rattle.sp_trees.specs.Nodes.{place_of, values_of, slot_of, is_sayable}
use Rattle.sp_trees.specs.Values.{Value, sum_of, product_of, tree_value}
use Rattle.sp_trees.specs.Judged.{refusal}
use Rattle.sp_trees.specs.Judge.{judgement}
use Rattle.sp_trees.specs.Good.{IsEnv}

-- ---- the refusal that comes first
-- nothing is refused, or this refusal is among those, and none of them is before it
abbrev pub IsFirstRefusal : (Refusal → Type 0) → Option Refusal → Type 0
IsFirstRefusal R None = (r : Refusal) → ¬ R r
IsFirstRefusal R (Some x) = R x × ((r : Refusal) → R r → is_before r x ≡ false)

-- it holds of one of these
abbrev pub Among : {X : Type 0} → (X → Type 0) → List X → Type 0
Among P [] = ⊥
Among P (x ∷ xs) = P x ⊎ Among P xs

abbrev pub IsRefusalAt : ℕ → ModelKind → Refusal → Type 0
IsRefusalAt at kind r = r ≡ record { at = at; kind = kind }

-- ---- trees inside a tree
abbrev pub word_of : Branch → Span
word_of b = (out-Branch b).value

abbrev pub IsTreeOfBranch : Tree → Branch → Type 0
IsTreeOfBranch s b = (out-Branch b).tree ≡ s

abbrev pub IsPartBy : Tree → Tree-F Tree Branch → Type 0
IsPartBy s (Tree-F.Number left word right) = ⊥
IsPartBy s (Tree-F.Reference left word right) = ⊥
IsPartBy s (Tree-F.Node left word bs right) = Among (IsTreeOfBranch s) bs
IsPartBy s (Tree-F.PrimedNode left word bs right) = Among (IsTreeOfBranch s) bs
IsPartBy s (Tree-F.Sum left plus ts right) = Among (λ t. t ≡ s) ts
IsPartBy s (Tree-F.Product left star ts right) = Among (λ t. t ≡ s) ts

-- it is the tree of a branch of the node, or a tree of the list
abbrev pub IsPart : Tree → Tree → Type 0
IsPart s t = IsPartBy s (out-Tree t)

-- it is the tree, or stands inside it
pub data IsSubtree : Tree → Tree → Type 0 where
  itself : {u t : Tree} → u ≡ t → IsSubtree u t
  within : {u t : Tree} (s : Tree) → IsPart s t → IsSubtree u s → IsSubtree u t

-- ---- rows on words
-- the word of a branch names that value
abbrev pub NamesValue : List ℕ → List (List ℕ) → ℕ → Branch → Type 0
NamesValue source values v b = number_of values (text source (word_of b)) ≡ Some v

-- a value is named by no branch: at the node's bracket
pub record IsValueMissing (source : List ℕ) (values : List (List ℕ)) (bs : List Branch) (left : ℕ) (r : Refusal) : Type 0 where
  pub value : ℕ
  pub below : value < length values
  pub nowhere : ¬ Among (NamesValue source values value) bs
  pub at_bracket : IsRefusalAt left kind.MissingValue r

-- the word of a branch names no value, or one that a branch before names: at the word
abbrev pub BranchRow : List ℕ → List (List ℕ) → List Branch → Branch → Refusal → Type 0
BranchRow source values before b r =
    ((number_of values (text source (word_of b)) ≡ None) × IsRefusalAt (word_of b).start kind.UnknownName r)
    ⊎ ((v : ℕ) × NamesValue source values v b × Among (NamesValue source values v) before × IsRefusalAt (word_of b).start kind.RepeatedName r)

-- a row of one of the branches that stand behind some
abbrev pub BranchRows : List ℕ → List (List ℕ) → List Branch → List Branch → Refusal → Type 0
BranchRows source values before [] r = ⊥
BranchRows source values before (b ∷ bs) r = BranchRow source values before b r ⊎ BranchRows source values (before ++ b ∷ []) bs r

-- the variable may not be mentioned here: at its word
abbrev pub IsVariableOutOfScope : Env → Slots → Bool → Span → Place → Refusal → Type 0
IsVariableOutOfScope env allowed is_primed word p r = ((is_sayable is_primed p && has allowed (slot_of env is_primed p)) ≡ false) × IsRefusalAt word.start kind.BadScope r

abbrev pub KnownRow : Env → List ℕ → Slots → Bool → Span → Span → List Branch → Place → Refusal → Type 0
KnownRow env source allowed is_primed left word bs p r =
    IsVariableOutOfScope env allowed is_primed word p r
    ⊎ (IsValueMissing source (values_of env p) bs left.start r ⊎ BranchRows source (values_of env p) [] bs r)

abbrev pub NodeRowBy : Env → List ℕ → Slots → Bool → Span → Span → List Branch → Option Place → Refusal → Type 0
NodeRowBy env source allowed is_primed left word bs None r = IsRefusalAt word.start kind.UnknownName r
NodeRowBy env source allowed is_primed left word bs (Some p) r = KnownRow env source allowed is_primed left word bs p r

abbrev pub NodeRow : Env → List ℕ → Slots → Bool → Span → Span → List Branch → Refusal → Type 0
NodeRow env source allowed is_primed left word bs r = NodeRowBy env source allowed is_primed left word bs (place_of env (text source (name_span is_primed word))) r

abbrev pub ReferenceRow : Slots → ℕ → Option Dd → Refusal → Type 0
ReferenceRow allowed at None r = IsRefusalAt at kind.UnknownName r
ReferenceRow allowed at (Some dd) r = (is_among dd.mentions allowed ≡ false) × IsRefusalAt at kind.BadScope r

abbrev pub NumberRow : ℕ → Result ℤ NumError → Refusal → Type 0
NumberRow at read r = (e : NumError) × (read ≡ Err e) × IsRefusalAt at (number_kind e) r

-- a row on the words of a tree itself
abbrev pub TreeWordRow : Env → List ℕ → Slots → Tree-F Tree Branch → Refusal → Type 0
TreeWordRow env source allowed (Tree-F.Number left word right) r = NumberRow word.start (ticks_of (text source word)) r
TreeWordRow env source allowed (Tree-F.Reference left word right) r = ReferenceRow allowed word.start (dd_of_name (text source word) env.dds) r
TreeWordRow env source allowed (Tree-F.Node left word bs right) r = NodeRow env source allowed false left word bs r
TreeWordRow env source allowed (Tree-F.PrimedNode left word bs right) r = NodeRow env source allowed true left word bs r
TreeWordRow env source allowed (Tree-F.Sum left plus ts right) r = ⊥
TreeWordRow env source allowed (Tree-F.Product left star ts right) r = ⊥

-- ---- rows on values
-- the sum or the product of two values, where there is one
abbrev pub operation : Op → Option ℤ → Option ℤ → Option ℤ
operation op.Sum = sum_of
operation op.Product = product_of

-- the partial result of two trees, at each point
abbrev pub partial_of : Op → Value → Value → Value
partial_of o a b x = operation o (a x) (b x)

-- a whole number of ticks at each point, and nowhere above 10^18 in magnitude
abbrev pub IsFine : Shape → Value → Type 0
IsFine s v = (x : List ℕ) → IsPoint s.sizes x → (z : ℤ) × (v x ≡ Some z) × (unsigned_abs z ≤ greatest_partial)

-- at some point no whole number of ticks
pub record IsPartial (s : Shape) (v : Value) : Type 0 where
  pub point : List ℕ
  pub inside : IsPoint s.sizes point
  pub none : v point ≡ None

-- a whole number of ticks at each point, and somewhere above 10^18 in magnitude
pub record IsLarge (s : Shape) (v : Value) : Type 0 where
  pub whole : (x : List ℕ) → IsPoint s.sizes x → (z : ℤ) × (v x ≡ Some z)
  pub point : List ℕ
  pub inside : IsPoint s.sizes point
  pub value : ℤ
  pub is : v point ≡ Some value
  pub large : greatest_partial < unsigned_abs value

-- a partial result is refused: at the list's bracket
abbrev pub IsBadPartial : Shape → ℕ → Value → Refusal → Type 0
IsBadPartial s at v r = (IsPartial s v × IsRefusalAt at kind.TooFine r) ⊎ (IsLarge s v × IsRefusalAt at kind.TooLarge r)

-- the partial results behind one, from left to right; where one is refused, no later one is formed
abbrev pub PartialRow : Op → Shape → ℕ → Value → List Value → Refusal → Type 0
PartialRow o s at v [] r = ⊥
PartialRow o s at v (w ∷ ws) r = IsBadPartial s at (partial_of o v w) r ⊎ (IsFine s (partial_of o v w) × PartialRow o s at (partial_of o v w) ws r)

-- the first partial result is the first tree
abbrev pub ListRow : Op → Shape → ℕ → List Value → Refusal → Type 0
ListRow o s at [] r = ⊥
ListRow o s at (v ∷ vs) r = PartialRow o s at v vs r

-- a row on the values of a tree's parts
abbrev pub ValueRow : Env → List ℕ → Tree-F Tree Branch → Refusal → Type 0
ValueRow env source (Tree-F.Sum left plus ts right) r = ListRow op.Sum env.scope left.start (map (tree_value env source) ts) r
ValueRow env source (Tree-F.Product left star ts right) r = ListRow op.Product env.scope left.start (map (tree_value env source) ts) r
ValueRow env source _ r = ⊥

-- ---- rows of a tree
-- a row of the tree itself: rows on values count only where no other row holds inside the tree
abbrev pub OwnRow : Env → List ℕ → Slots → Tree → Refusal → Type 0
OwnRow env source allowed t r =
    TreeWordRow env source allowed (out-Tree t) r
    ⊎ (ValueRow env source (out-Tree t) r × ((s u : Tree) → IsPart s t → IsSubtree u s → (q : Refusal) → ¬ (TreeWordRow env source allowed (out-Tree u) q ⊎ ValueRow env source (out-Tree u) q)))

-- a row of a tree, or of one inside it
abbrev pub TreeRow : Env → List ℕ → Slots → Tree → Refusal → Type 0
TreeRow env source allowed t r = (u : Tree) × IsSubtree u t × OwnRow env source allowed u r

-- ---- the law
-- judging a tree answers the row that comes first, and a function exactly where no row holds
abbrev pub TreeRowsAreRefusals : Type 0
TreeRowsAreRefusals = (env : Env) (source : List ℕ) (allowed : Slots) (tree : Tree) → IsEnv env → IsFirstRefusal (TreeRow env source allowed tree) (refusal (judgement env source allowed tree).outcome)

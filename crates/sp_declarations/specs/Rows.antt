-- The table of refusals for parts that stand one after another, and for declarations: each row by itself.
use Rattle.std.specs.Prelude.{◌≡◌, ◌≢◌, ℕ, ◌*◌, ◌<◌, ◌≤◌, ◌⊎◌, List, [], ◌∷◌, ◌++◌, length, fold, Option, Some, None, Result, Ok, Err}
use Rattle.sp_lex.specs.declared.lexeme.Span.{Span}
use Rattle.sp_syntax.specs.declared.text.Declaration.{Declaration}
use Rattle.sp_syntax.specs.declared.text.Text.{Text}
use Rattle.sp_trees.specs.declared.refusal.ModelKind.TheVariants as kind
use Rattle.sp_trees.specs.declared.refusal.Refusal.{Refusal}
use Rattle.sp_trees.specs.Words.{text}
use Rattle.sp_trees.specs.Rows.{IsFirstRefusal, Among, IsRefusalAt}
use Rattle.sp_syntax.specs.Spans.{AreRising, declarations_spans}
use Rattle.sp_declarations.specs.Declarations.{declarations_of}

-- a row of one of the parts that stand behind some: each part is judged by those before it
abbrev pub PartRow : {X : Type 0} → (List X → X → Refusal → Type 0) → List X → List X → Refusal → Type 0
PartRow Row before [] r = ⊥
PartRow Row before (x ∷ xs) r = Row before x r ⊎ PartRow Row (before ++ x ∷ []) xs r

-- one of these spans begins at that place
abbrev pub HasPlace : List Span → ℕ → Type 0
HasPlace ss p = Among (λ s. s.start ≡ p) ss

abbrev pub refusal_of : {X : Type 0} → Result X Refusal → Option Refusal
refusal_of (Ok x) = None
refusal_of (Err r) = Some r

-- ---- declarations
-- a value that was listed before, or the 65th
abbrev pub DeclarationWordRow : List ℕ → List Span → Span → Refusal → Type 0
DeclarationWordRow source before w r = (Among (λ v. text source v ≡ text source w) before × IsRefusalAt w.start kind.RepeatedName r) ⊎ ((length before ≡ 64) × IsRefusalAt w.start (kind.TooMany 64) r)

-- how many choices of a value for each variable there are
abbrev pub choices : List Declaration → ℕ
choices ds = fold (λ n d. n * length d.values) 1 ds

-- one variable too many, or else the first that makes too many choices: at its bracket
abbrev pub LimitRow : ℕ → ℕ → List Declaration → Declaration → Refusal → Type 0
LimitRow most points before d r =
    ((length before ≡ most) × IsRefusalAt d.left.start (kind.TooMany most) r)
    ⊎ ((length before ≢ most) × (choices before ≤ points) × (points < choices (before ++ d ∷ [])) × IsRefusalAt d.left.start (kind.TooMany points) r)

-- a name that was declared before, by another sort too: at the name
abbrev pub NameRow : List ℕ → List Declaration → List Declaration → Declaration → Refusal → Type 0
NameRow source others before d r = Among (λ e. text source e.name ≡ text source d.name) (others ++ before) × IsRefusalAt d.name.start kind.RepeatedName r

abbrev pub DeclarationRow : List ℕ → ℕ → ℕ → List Declaration → List Declaration → Declaration → Refusal → Type 0
DeclarationRow source most points others before d r = LimitRow most points before d r ⊎ (NameRow source others before d r ⊎ PartRow (DeclarationWordRow source) [] d.values r)

-- a row of the declarations of a text
abbrev pub DeclaredRow : List ℕ → Text → Refusal → Type 0
DeclaredRow source t r =
    PartRow (DeclarationRow source 24 16777216 []) [] t.variables.declarations r
    ⊎ PartRow (DeclarationRow source 8 4096 t.variables.declarations) [] t.observations.declarations r

-- reading the declarations answers the row that comes first, and Ok exactly where no row holds
abbrev pub DeclarationRowsAreRefusals : Type 0
DeclarationRowsAreRefusals = (source : List ℕ) (t : Text) (low high : ℕ) → AreRising low (declarations_spans t.variables ++ declarations_spans t.observations) high
    → IsFirstRefusal (DeclaredRow source t) (refusal_of (declarations_of source t))

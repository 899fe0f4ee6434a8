-- Parts of a text one after another, of which the first refused one decides.
use Rattle.std.specs.Prelude.{◌≡◌, ⊤, List, [], ◌∷◌, Option, Some, None, Result, Ok, Err}
use Rattle.sp_trees.specs.declared.refusal.Refusal.{Refusal}
use Rattle.sp_declarations.specs.declared.error.ModelError.{ModelError}
use Rattle.sp_declarations.specs.declared.error.ModelError.TheVariants as error

infixl 10 ◌>>=◌
-- what follows, unless it is refused
abbrev pub ◌>>=◌ : {A B : Type 0} → Result A Refusal → (A → Result B Refusal) → Result B Refusal
(Ok x) >>= f = f x
(Err e) >>= f = Err e

-- nothing, unless there is a refusal
abbrev pub unless_refused : Option Refusal → Result (Unit {0}) Refusal
unless_refused None = Ok tt
unless_refused (Some r) = Err r

-- each item in turn changes what was read so far; the first refused one decides
unfoldable pub in_turn : {S X : Type 0} → (S → X → Result S Refusal) → S → List X → Result S Refusal
in_turn step s [] = Ok s
in_turn step s (x ∷ xs) = step s x >>= λ t. in_turn step t xs

-- the code answers this, unless memory ran out
abbrev pub GivesOrRunsOut : {X : Type 0} → Result X Refusal → Result X ModelError → Type 0
GivesOrRunsOut s (Ok x) = s ≡ Ok x
GivesOrRunsOut s (Err (error.Fault at kind)) = s ≡ Err (record { at = at; kind = kind })
GivesOrRunsOut s (Err error.NoMemory) = ⊤

-- the answer of a call that changes what was read so far
abbrev pub answer_with : {X : Type 0} → Result (Unit {0}) ModelError → X → Result X ModelError
answer_with (Ok u) new = Ok new
answer_with (Err e) new = Err e

-- the code leaves this, unless memory ran out
abbrev pub Leaves : {X : Type 0} → Result X Refusal → Result (Unit {0}) ModelError → X → Type 0
Leaves s r new = GivesOrRunsOut s (answer_with r new)

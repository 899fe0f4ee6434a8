-- Parts one after another.
use Rattle.std.proofs.Common.{◌≡◌, ℕ, zero, suc, ◌+◌, ◌<◌, ◌≤◌, Bool, true, false, List, [], ◌∷◌, ◌++◌, Option, Some, None, Ok, Err, length, drop, get_or, refl, sym, ap, subst, ◌∙◌, add-one, arith, drop-cons, drop_of_length-le}
use Rattle.std.specs.Prelude.{Result, IsErrAnd, All}
use Rattle.sp_trees.specs.declared.refusal.Refusal.{Refusal}
use Rattle.sp_trees.specs.declared.refusal.ModelKind.{ModelKind}
use Rattle.sp_trees.specs.Refusals.{refused_if}
use Rattle.sp_declarations.specs.declared.error.ModelError.{ModelError}
use Rattle.sp_declarations.specs.declared.error.ModelError.TheVariants as error
use Rattle.sp_declarations.specs.Steps.{◌>>=◌, unless_refused, in_turn, GivesOrRunsOut, Leaves}

-- a turn of a loop over items
module _ {S X : Type 0} (step : S → X → Result S Refusal) (s : S) (xs : List X) (i : ℕ) where
  turn : (x : X) → i < length xs → in_turn step s (drop i xs) ≡ (step s (get_or xs i x) >>= λ t. in_turn step t (drop (i + 1) xs))
  unfolding in_turn
  turn x h = ap (in_turn step s) (let e : drop i xs ≡ get_or xs i x ∷ drop (i + 1) xs = rw (add-one, drop-cons xs i x) refl in e)

  pub turn_ok : (x : X) (t : S) → i < length xs → step s (get_or xs i x) ≡ Ok t → in_turn step t (drop (i + 1) xs) ≡ in_turn step s (drop i xs)
  turn_ok x t h e = sym (turn x h ∙ ap (λ r. r >>= λ t. in_turn step t (drop (i + 1) xs)) e)

  pub turn_at : (x : X) (t : S) → i < length xs → x ≡ get_or xs i x → step s x ≡ Ok t → in_turn step t (drop (i + 1) xs) ≡ in_turn step s (drop i xs)
  turn_at x t h is e = turn_ok x t h (ap (step s) (sym is) ∙ e)

  pub turn_err : (x : X) (r : Refusal) → i < length xs → step s (get_or xs i x) ≡ Err r → in_turn step s (drop i xs) ≡ Err r
  turn_err x r h e = turn x h ∙ ap (λ r. r >>= λ t. in_turn step t (drop (i + 1) xs)) e

  pub turns_over : length xs ≤ i → in_turn step s (drop i xs) ≡ Ok s
  unfolding in_turn
  turns_over h = ap (in_turn step s) (drop_of_length-le xs h)

-- a part that is refused refuses the whole, by the error that `?` passes on
pub exit_leaves : {A B : Type 0} (x : Result A Refusal) (f : A → Result B Refusal) (e : ModelError) (r : Result (Unit {0}) ModelError) (new : B) → GivesOrRunsOut x (Err e) → IsErrAnd r (λ d. d ≡ e) → Leaves (x >>= f) r new
exit_leaves x f e (Ok u) new h k = absurd k
exit_leaves x f e (Err error.NoMemory) new h k = tt
exit_leaves x f (error.Fault a q) (Err (error.Fault b r)) new h k = ap (λ x. x >>= f) h ∙ (let at : a ≡ b = cc in let kind : q ≡ r = cc in rw (at, kind) refl)
exit_leaves x f error.NoMemory (Err (error.Fault b r)) new h k = cc

pub exit_gives : {A B : Type 0} (x : Result A Refusal) (f : A → Result B Refusal) (e : ModelError) (r : Result B ModelError) → GivesOrRunsOut x (Err e) → IsErrAnd r (λ d. d ≡ e) → GivesOrRunsOut (x >>= f) r
exit_gives x f e (Ok u) h k = absurd k
exit_gives x f e (Err error.NoMemory) h k = tt
exit_gives x f (error.Fault a q) (Err (error.Fault b r)) h k = ap (λ x. x >>= f) h ∙ (let at : a ≡ b = cc in let kind : q ≡ r = cc in rw (at, kind) refl)
exit_gives x f error.NoMemory (Err (error.Fault b r)) h k = cc

-- what was read stands, and the rest follows
pub after : {A B : Type 0} (x : Result A Refusal) (f : A → Result B Refusal) (a : A) (r : Result B ModelError) → x ≡ Ok a → GivesOrRunsOut (f a) r → GivesOrRunsOut (x >>= f) r
after x f a r e h = subst (λ y. GivesOrRunsOut (y >>= f) r) (sym e) h

pub after_ok : {A B : Type 0} (x : Result A Refusal) (f : A → Result B Refusal) (a : A) (y : Result B Refusal) → x ≡ Ok a → f a ≡ y → (x >>= f) ≡ y
after_ok x f a y e h = ap (λ z. z >>= f) e ∙ h

-- ---- what stood before an answer
pub record Stood {A B : Type 0} (x : Result A Refusal) (f : A → Result B Refusal) (b : B) : Type 0 where
  pub value : A
  pub was : x ≡ Ok value
  pub then : f value ≡ Ok b

pub stood : {A B : Type 0} (x : Result A Refusal) (f : A → Result B Refusal) (b : B) → (x >>= f) ≡ Ok b → Stood x f b
stood (Ok a) f b h = record { value = a; was = refl; then = h }
stood (Err e) f b h = cc

pub nothing_refused : (o : Option Refusal) (u : Unit {0}) → unless_refused o ≡ Ok u → o ≡ None
nothing_refused None u h = refl
nothing_refused (Some r) u h = cc

pub not_if : (b : Bool) (at : ℕ) (k : ModelKind) → refused_if b at k ≡ None → b ≡ false
not_if true at k h = cc
not_if false at k h = refl

-- what each step keeps, all steps keep
pub turns_keep : {S X : Type 0} (step : S → X → Result S Refusal) (K : S → Type 0) (Q : X → Type 0) → ((s : S) (x : X) (t : S) → K s → Q x → step s x ≡ Ok t → K t)
    → (xs : List X) (s t : S) → All Q xs → K s → in_turn step s xs ≡ Ok t → K t
unfolding in_turn
turns_keep step K Q f [] s t q k h = subst K (let e : s ≡ t = cc in e) k
turns_keep step K Q f (x ∷ xs) s t q k h =
    let a = stood (step s x) (λ t. in_turn step t xs) t h in
    turns_keep step K Q f xs a.value t (λ i d l. q (suc i) d (omega arith)) (f s x a.value k (q 0 x (omega arith)) a.was) a.then

-- a fact of each item, and of one more
pub all_more : {X : Type 0} (P : X → Type 0) (xs : List X) (x : X) → All P xs → P x → All P (xs ++ x ∷ [])
all_more P [] x h p zero d l = p
all_more P [] x h p (suc k) d l = absurd (omega arith)
all_more P (y ∷ xs) x h p zero d l = h 0 y (omega arith)
all_more P (y ∷ xs) x h p (suc k) d l = all_more P xs x (λ i d l. h (suc i) d (omega arith)) p k d (omega arith)

-- A log with one more entry.
use Rattle.std.proofs.Common.{◌≡◌, ◌∙◌, sym, ap, subst, refl, ℕ, List, [], ◌∷◌, ◌++◌, append-nil, Option, Some, None}
use Rattle.std.specs.Prelude.{All, Contains, IsSome, IsNone, unwrap_or}
use Rattle.std.proofs.lemmas.List.{map-append}
use Rattle.std.proofs.lemmas.List.Elements.{All-append, All-cons, All-nil, Contains-append_left, Contains-push}
use Rattle.sp_theory.specs.Model.{Model}
use Rattle.sp_theory.specs.Values.{Weights, Edition}
use Rattle.sp_theory.specs.Agreement.{WeightsAgree, NextAgree}
use Rattle.sp_theory.specs.Logs.{Entry, told, act, observe, unseen, closing, Session, Published, seen_by, MayEnter, after_entry, IsLog, session_after}
use Rattle.sp_theory.proofs.LogLemmas.{log_of_more}
use Rattle.sp_value.specs.Editions.{EditionParts, members_in}
use Rattle.sp_session.specs.declared.logs.Entry as kept
use Rattle.sp_session.specs.Logs.{entry_of, entries_of}
use Rattle.sp_session.specs.Sessions.{shelf_of, answered_numbers}

pub session_after-append : (m : Model) (s : Session) (xs : List Entry) (x : Entry) → session_after m s (xs ++ x ∷ []) ≡ after_entry m (session_after m s xs) x
unfolding session_after
session_after-append m s [] x = refl
session_after-append m s (y ∷ ys) x = session_after-append m (after_entry m s y) ys x

pub log_append : (m : Model) (published : Published) (s : Session) (xs : List Entry) (x : Entry) → IsLog m published s xs → MayEnter m published (session_after m s xs) x → IsLog m published s (xs ++ x ∷ [])
unfolding IsLog session_after
log_append m published s [] x log may = (may, tt)
log_append m published s (y ∷ ys) x (here, rest) may = (here, log_append m published (after_entry m s y) ys x rest may)

-- one more entry, as it is kept
pub entries-push : (xs zs : List kept.Entry) (x : kept.Entry) → zs ≡ xs ++ x ∷ [] → entries_of zs ≡ entries_of xs ++ entry_of x ∷ []
entries-push xs zs x is = ap entries_of is ∙ map-append entry_of xs (x ∷ [])

pub one_more : {X : Type 0} (P : X → Type 0) (xs : List X) (x : X) → All P xs → P x → All P (xs ++ x ∷ [])
one_more P xs x all here = All-append P xs (x ∷ []) all (All-cons P x [] here (All-nil P))

pub numbers-append : (xs ys : List Entry) → answered_numbers (xs ++ ys) ≡ answered_numbers xs ++ answered_numbers ys
numbers-append [] ys = refl
numbers-append (told e ∷ xs) ys = numbers-append xs ys
numbers-append (act e id action ∷ xs) ys = ap (λ (ns : List ℕ). e ∷ ns) (numbers-append xs ys)
numbers-append (observe o ∷ xs) ys = numbers-append xs ys
numbers-append (unseen o ∷ xs) ys = numbers-append xs ys
numbers-append (closing e id action ∷ xs) ys = numbers-append xs ys

-- an entry that is no answer
pub numbers_stay : (xs : List Entry) (x : Entry) → answered_numbers (x ∷ []) ≡ [] → answered_numbers (xs ++ x ∷ []) ≡ answered_numbers xs
numbers_stay xs x none = numbers-append xs (x ∷ []) ∙ ap (λ (ns : List ℕ). answered_numbers xs ++ ns) none ∙ append-nil (answered_numbers xs)

-- with one more edition on the shelf a log stays one
pub log_on_more : (m : Model) (editions : List EditionParts) (e : EditionParts) (s : Session) (xs : List Entry) → IsLog m (seen_by (shelf_of editions)) s xs → IsLog m (seen_by (shelf_of (editions ++ e ∷ []))) s xs
log_on_more m editions e s xs log = log_of_more m (shelf_of editions) (shelf_of (editions ++ e ∷ [])) more s xs log
  where
    more : (n : ℕ) (edition : Edition) → Contains (shelf_of editions) (n, edition) → Contains (shelf_of (editions ++ e ∷ [])) (n, edition)
    more n edition there = subst (λ (shelf : List (ℕ × Edition)). Contains shelf (n, edition)) (sym (map-append (λ (d : EditionParts). (d.number, members_in d)) editions (e ∷ []))) (Contains-append_left (shelf_of editions) (shelf_of (e ∷ [])) (n, edition) there)

-- and that edition stands on it
pub last_on_shelf : (editions : List EditionParts) (e : EditionParts) → Contains (shelf_of (editions ++ e ∷ [])) (e.number, members_in e)
last_on_shelf editions e = subst (λ (shelf : List (ℕ × Edition)). Contains shelf (e.number, members_in e)) (sym (map-append (λ (d : EditionParts). (d.number, members_in d)) editions (e ∷ []))) (Contains-push (shelf_of editions) (e.number, members_in e))

-- ---- next weights that agree
pub next_trans : (m : Model) (o r t : Option Weights) → NextAgree m o r → NextAgree m r t → NextAgree m o t
next_trans m None None None h k = tt
next_trans m (Some u) (Some v) (Some w) h k = λ s p. h s p ∙ k s p
next_trans m None (Some v) t h k = absurd h
next_trans m (Some u) None t h k = absurd h
next_trans m None None (Some w) h k = absurd k
next_trans m (Some u) (Some v) None h k = absurd k

pub some_next : (m : Model) (o : Option Weights) (v w : Weights) → NextAgree m o (Some v) → IsSome o × WeightsAgree m (unwrap_or o w) v
some_next m (Some u) v w h = (refl, h)
some_next m None v w h = absurd h

pub no_next : (m : Model) (o : Option Weights) → NextAgree m o None → IsNone o
no_next m None h = refl
no_next m (Some u) h = absurd h

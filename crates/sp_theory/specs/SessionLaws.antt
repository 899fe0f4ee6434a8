-- The laws of sessions' logs, as the functions of this crate state them, and sessions that agree at all states.
use Rattle.std.proofs.Common.{◌≡◌, ◌≢◌, ℕ, suc, ◌≤◌, List, [], ◌∷◌, ◌++◌, length, Some}
use Rattle.std.specs.Prelude.{All, Contains, slice_get}
use Rattle.sp_theory.specs.Model.{Model}
use Rattle.sp_theory.specs.Values.{Edition}
use Rattle.sp_theory.specs.Agreement.{WeightsAgree, EditionsAgree, AllAgree}
use Rattle.sp_theory.specs.Logs.{Entry, told, act, observe, unseen, closing, Session, Published, all_of, seen_by, IsLog, IsLegalLog}

-- ---- agreement
-- sessions that differ at most in the weights of what is no state
pub record SessionsAgree (m : Model) (s t : Session) : Type 0 where
  pub weights : WeightsAgree m s.weights t.weights
  pub newest : s.newest ≡ t.newest
  pub acted : s.acted ≡ t.acted
  pub closed : s.closed ≡ t.closed

-- whatever may be named of the first may be named of the second, with an edition that agrees
pub record ServesFor (m : Model) (first second : Published) : Type 0 where
  pub has : (e : ℕ) (edition : Edition) → first.has e edition → (other : Edition) × second.has e other × EditionsAgree m edition other
  pub may_tell : (e : ℕ) → first.may_tell e → second.may_tell e
  pub is_last : (e : ℕ) → first.is_last e → second.is_last e

-- each number that an entry tells may be told
abbrev pub AllTold : Published → List Entry → Type 0
AllTold published [] = Unit {0}
AllTold published (told e ∷ xs) = published.may_tell e × AllTold published xs
AllTold published (act e id action ∷ xs) = AllTold published xs
AllTold published (observe o ∷ xs) = AllTold published xs
AllTold published (unseen o ∷ xs) = AllTold published xs
AllTold published (closing e id action ∷ xs) = AllTold published xs

-- each edition that was seen agrees with the run's of its number
abbrev pub AreOf : Model → List Edition → List (ℕ × Edition) → Type 0
AreOf m editions shelf = (e : ℕ) (edition : Edition) → Contains shelf (e, edition) → (other : Edition) × (slice_get editions e ≡ Some other) × EditionsAgree m edition other

-- ---- laws
-- a log is legal for a run's editions where it is legal for editions that agree with them
abbrev pub LegalLogsAgree : Type 0
LegalLogsAgree = (m : Model) (editions others : List Edition) → AllAgree m editions others → (xs : List Entry) → IsLegalLog m editions xs → IsLegalLog m others xs

-- a log over the editions that a session saw is a log over the run's, if these are the run's and each told number is of an edition of the run
abbrev pub SeenLogsAreOfRuns : Type 0
SeenLogsAreOfRuns = (m : Model) (editions : List Edition) (shelf : List (ℕ × Edition)) → AreOf m editions shelf → (s : Session) (xs : List Entry)
    → AllTold (all_of editions) xs → IsLog m (seen_by shelf) s xs → IsLog m (all_of editions) s xs

-- the editions that entries name, in order
abbrev pub numbers_of_editions : List Entry → List ℕ
numbers_of_editions [] = []
numbers_of_editions (told e ∷ xs) = e ∷ numbers_of_editions xs
numbers_of_editions (act e id action ∷ xs) = e ∷ numbers_of_editions xs
numbers_of_editions (observe o ∷ xs) = numbers_of_editions xs
numbers_of_editions (unseen o ∷ xs) = numbers_of_editions xs
numbers_of_editions (closing e id action ∷ xs) = e ∷ numbers_of_editions xs

-- numbers from n on, none below the one before it
abbrev pub AreNumbersRising : ℕ → List ℕ → Type 0
AreNumbersRising n [] = Unit {0}
AreNumbersRising n (e ∷ es) = (n ≤ e) × AreNumbersRising e es

-- a legal log never names an older edition than before
abbrev pub LogsNeverGoBack : Type 0
LogsNeverGoBack = (m : Model) (editions : List Edition) (xs : List Entry) → IsLegalLog m editions xs → AreNumbersRising 0 (numbers_of_editions xs)

-- the last entry is the closing answer, on the last edition, and there is no other
abbrev pub ClosesOnce : List Edition → List Entry → Type 0
ClosesOnce editions xs =
    (front : List Entry) × (e : ℕ) × (id : ℕ) × (action : ℕ) × (xs ≡ front ++ closing e id action ∷ []) × (suc e ≡ length editions)
    × All (λ x. (f other answer : ℕ) → x ≢ closing f other answer) front

-- of each legal log
abbrev pub LegalLogsCloseOnce : Type 0
LegalLogsCloseOnce = (m : Model) (editions : List Edition) (xs : List Entry) → IsLegalLog m editions xs → ClosesOnce editions xs

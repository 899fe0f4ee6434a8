-- Sessions that act on published editions: what a log may say, and legal logs.
use Rattle.std.proofs.Common.{◌≡◌, ℕ, suc, ◌<◌, ◌≤◌, List, [], ◌∷◌, length, Bool, true, false, Option, Some, None}
use Rattle.std.specs.Prelude.{All, Contains, IsSome, IsNone, slice_get, unwrap_or, option_and_then}
use Rattle.sp_theory.specs.Points.{count_of, point_of}
use Rattle.sp_theory.specs.Model.{Model}
use Rattle.sp_theory.specs.Values.{Weights, Edition, greatest_member}
use Rattle.sp_theory.specs.Beliefs.{initial_weights, next_weights}

-- an entry of a session's log. Editions, members, actions and joint observations stand by number
pub data Entry : Type 0 where
  -- the session was told of an edition
  told : ℕ → Entry
  -- an answer: the edition, the member's id, the action
  act : ℕ → ℕ → ℕ → Entry
  -- a joint observation that updated the belief
  observe : ℕ → Entry
  -- a joint observation that the belief rules out: nothing changes
  unseen : ℕ → Entry
  -- the last answer, on the last edition
  closing : ℕ → ℕ → ℕ → Entry

-- what a session knows
pub record Session : Type 0 where
  -- its belief
  pub weights : Weights
  -- the edition that was last answered on or told of; none is older than it was before
  pub newest : ℕ
  -- the action of the last answer, where nothing was observed since
  pub acted : Option ℕ
  -- whether the closing answer was given
  pub closed : Bool

-- the session before any entry: the initial belief, and edition 0
unfoldable pub opening_session : Model → Session
opening_session m = record { weights = initial_weights m; newest = 0; acted = None; closed = false }

-- the editions that a log may name
pub record Published : Type 1 where
  -- the edition of that number
  pub has : ℕ → Edition → Type 0
  -- a number that may be told
  pub may_tell : ℕ → Type 0
  -- the number of the last edition
  pub is_last : ℕ → Type 0

-- all editions of a run, numbered from 0
abbrev pub all_of : List Edition → Published
all_of editions = record {
  has = λ e edition. slice_get editions e ≡ Some edition;
  may_tell = λ e. e < length editions;
  is_last = λ e. suc e ≡ length editions;
}

-- the editions that a session answered on so far, each with its number: any number may be told, and none is the last
abbrev pub seen_by : List (ℕ × Edition) → Published
seen_by shelf = record { has = λ e edition. Contains shelf (e, edition); may_tell = λ e. Unit {0}; is_last = λ e. ⊥ }

-- an answer names the greatest member of its edition at the session's weights, and that member's action
abbrev pub IsAnswer : Model → Published → Weights → ℕ → ℕ → ℕ → Type 0
IsAnswer m published w e id action = (edition : Edition) × published.has e edition × (id ≡ (greatest_member m edition w).id) × (action ≡ (greatest_member m edition w).action)

-- the weights after a joint observation; none where no answer came before it or where it is unseen
abbrev pub weights_after_observation : Model → Session → ℕ → Option Weights
weights_after_observation m s o = option_and_then (λ a. next_weights m s.weights a (point_of m.sight_sizes o)) s.acted

-- whether the entry may come next
unfoldable pub MayEnter : Model → Published → Session → Entry → Type 0
MayEnter m published s (told e) = (s.closed ≡ false) × (s.newest ≤ e) × published.may_tell e
MayEnter m published s (act e id action) = (s.closed ≡ false) × (s.newest ≤ e) × IsAnswer m published s.weights e id action
MayEnter m published s (observe o) = (s.closed ≡ false) × (o < count_of m.sight_sizes) × IsSome (weights_after_observation m s o)
MayEnter m published s (unseen o) = (s.closed ≡ false) × (o < count_of m.sight_sizes) × IsSome s.acted × IsNone (weights_after_observation m s o)
MayEnter m published s (closing e id action) = (s.closed ≡ false) × (s.newest ≤ e) × published.is_last e × IsAnswer m published s.weights e id action

-- the session after the entry
unfoldable pub after_entry : Model → Session → Entry → Session
after_entry m s (told e) = record s { newest = e }
after_entry m s (act e id action) = record s { newest = e; acted = Some action }
after_entry m s (observe o) = record s { weights = unwrap_or (weights_after_observation m s o) s.weights; acted = None }
after_entry m s (unseen o) = s
after_entry m s (closing e id action) = record s { newest = e; closed = true }

-- each entry may come after those before it
unfoldable pub IsLog : Model → Published → Session → List Entry → Type 0
IsLog m published s [] = Unit {0}
IsLog m published s (x ∷ xs) = MayEnter m published s x × IsLog m published (after_entry m s x) xs

-- the session after the entries
unfoldable pub session_after : Model → Session → List Entry → Session
session_after m s [] = s
session_after m s (x ∷ xs) = session_after m (after_entry m s x) xs

-- a legal log of a run with these editions: each entry may come after those before it, and the last is the closing answer
abbrev pub IsLegalLog : Model → List Edition → List Entry → Type 0
IsLegalLog m editions xs = IsLog m (all_of editions) (opening_session m) xs × ((session_after m (opening_session m) xs).closed ≡ true)

-- a session's log by the session's name
pub record Log : Type 0 where
  pub name : List ℕ
  pub entries : List Entry

-- a legal transcript: each log is legal
abbrev pub IsLegalTranscript : Model → List Edition → List Log → Type 0
IsLegalTranscript m editions logs = All (λ log. IsLegalLog m editions log.entries) logs

-- The grammar of a line in its own words: a keyword, the session's name, and for an observation its values.
use Rattle.std.specs.Prelude.{◌≡◌, ℕ, true, List, [], ◌∷◌, length, codes, slice_get, Some}
use Rattle.sp_theory.specs.Points.{IsPoint, number}
use Rattle.sp_model.specs.declared.parts.Decl.{Decl}
use Rattle.sp_model.specs.Problem.{sizes_of}
use Rattle.sp_script.specs.declared.request.Verb.{Verb}
use Rattle.sp_script.specs.declared.request.Verb.TheVariants.{Opening, Asking, Observing, Syncing, Closing}
use Rattle.sp_script.specs.Requests.{is_session_name, observation_of}

-- the word that asks for it
abbrev pub keyword : Verb → List ℕ
keyword Opening = codes "open"
keyword Asking = codes "act"
keyword (Observing o) = codes "observe"
keyword Syncing = codes "sync"
keyword Closing = codes "close"

-- the words behind the session's name: for an observation one for each observation variable, and else none
abbrev pub AreValueWords : List Decl → Verb → List (List ℕ) → Type 0
AreValueWords sights (Observing o) values = (length values ≡ length sights) × (o ≡ observation_of sights values)
AreValueWords sights Opening values = values ≡ []
AreValueWords sights Asking values = values ≡ []
AreValueWords sights Syncing values = values ≡ []
AreValueWords sights Closing values = values ≡ []

-- words that ask for that, of the session of that name
abbrev pub WordsSay : List Decl → List (List ℕ) → Verb → List ℕ → Type 0
WordsSay sights words verb name = (values : List (List ℕ)) × (words ≡ keyword verb ∷ name ∷ values) × (is_session_name name ≡ true) × AreValueWords sights verb values

-- each value has the name, one observation variable after another
abbrev pub AreNamed : List Decl → List ℕ → List (List ℕ) → Type 0
AreNamed [] [] [] = Unit {0}
AreNamed (sight ∷ sights) (x ∷ xs) (value ∷ values) = (slice_get sight.values x ≡ Some value) × AreNamed sights xs values
AreNamed [] [] (value ∷ values) = ⊥
AreNamed [] (x ∷ xs) values = ⊥
AreNamed (sight ∷ sights) [] values = ⊥
AreNamed (sight ∷ sights) (x ∷ xs) [] = ⊥

-- the values of these names, one for each observation variable, are the joint observation of that number
abbrev pub IsObservation : List Decl → List (List ℕ) → ℕ → Type 0
IsObservation sights values o = (xs : List ℕ) × IsPoint (sizes_of sights) xs × AreNamed sights xs values × (o ≡ number (sizes_of sights) xs)

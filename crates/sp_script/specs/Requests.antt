-- What the words of a line ask for: the grammar of a line.
use Rattle.std.specs.Prelude.{ℕ, ◌+◌, ◌*◌, ◌==◌, ◌&&◌, Bool, List, [], ◌∷◌, length, position, codes, Option, Some, None, option_map, option_and_then, if◌then◌else◌, nat_lt, nat_le}
use Rattle.std.specs.List.{list_all}
use Rattle.std.specs.Str.{bytes_eq}
use Rattle.sp_model.specs.declared.parts.Decl.{Decl}
use Rattle.sp_model.specs.Words.{is_word_byte}
use Rattle.sp_script.specs.declared.request.Verb.{Verb}
use Rattle.sp_script.specs.declared.request.Verb.TheVariants.{Opening, Asking, Observing, Syncing, Closing}

-- whether a session may have that name: 1 to 64 ASCII letters, digits, `_`, `-` or `.`
abbrev pub is_session_name : List ℕ → Bool
is_session_name name = nat_lt 0 (length name) && (nat_le (length name) 64 && list_all is_word_byte name)

-- the number of a joint observation by the names of its values, behind those of earlier observation variables: the last one is the fastest
abbrev pub observation_from : ℕ → List Decl → List (List ℕ) → Option ℕ
observation_from number [] [] = Some number
observation_from number (sight ∷ sights) (value ∷ values) =
    option_and_then (λ place. observation_from (number * length sight.values + place) sights values) (position (λ name. bytes_eq name value) sight.values)
observation_from number [] (value ∷ values) = None
observation_from number (sight ∷ sights) [] = None

-- the number of the joint observation of these values, one for each observation variable; none where one isn't its variable's
abbrev pub observation_of : List Decl → List (List ℕ) → Option ℕ
observation_of sights values = observation_from 0 sights values

-- what the word asks for that stands with a session's name alone
abbrev pub plain_verb : List ℕ → Option Verb
plain_verb word =
    if bytes_eq word (codes "open") then Some Opening
    else if bytes_eq word (codes "act") then Some Asking
    else if bytes_eq word (codes "sync") then Some Syncing
    else if bytes_eq word (codes "close") then Some Closing
    else None

-- what the first word asks for, with the words behind the session's name
abbrev pub verb_by : List Decl → List ℕ → List (List ℕ) → Option Verb
verb_by sights word values =
    if bytes_eq word (codes "observe")
    then (if length values == length sights then Some (Observing (observation_of sights values)) else None)
    else (if length values == 0 then plain_verb word else None)

-- what is asked for, and the session's name
abbrev pub Request : Type 0
Request = Verb × List ℕ

-- what a line of these words asks for; none where it isn't of the grammar
abbrev pub request_of : List Decl → List (List ℕ) → Option Request
request_of sights [] = None
request_of sights (word ∷ []) = None
request_of sights (word ∷ name ∷ values) =
    if is_session_name name then option_map (λ verb. (verb, name)) (verb_by sights word values) else None

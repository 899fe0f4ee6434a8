-- The words behind a command: words by themselves, flags, and options with their values.
use Rattle.std.specs.Prelude.{◌≡◌, ℕ, ◌+◌, ◌<◌, ◌≤◌, ◌==◌, ◌++◌, List, [], ◌∷◌, length, Option, Some, None, Contains, bytes_eq, nat_eq, slice_index, Bool, true, false, cond, if◌then◌else◌}
use Rattle.std.specs.List.{list_any}
use Rattle.std.specs.Str.Parse.{AllDigits, digits_value}

-- a word that stands by itself, the name of a flag, or the name of an option with its value
pub data Item : Type 0 where
  placed : (word : List ℕ) → Item
  flagged : (name : List ℕ) → Item
  valued : (name value : List ℕ) → Item

-- the words that items take
abbrev pub words_of : List Item → List (List ℕ)
words_of [] = []
words_of (placed word ∷ items) = word ∷ words_of items
words_of (flagged name ∷ items) = name ∷ words_of items
words_of (valued name value ∷ items) = name ∷ value ∷ words_of items

-- the words that stand by themselves
abbrev pub places : List Item → List (List ℕ)
places [] = []
places (placed word ∷ items) = word ∷ places items
places (flagged name ∷ items) = places items
places (valued name value ∷ items) = places items

-- how often a flag stands there
abbrev pub times_flagged : List ℕ → List Item → ℕ
times_flagged flag [] = 0
times_flagged flag (placed word ∷ items) = times_flagged flag items
times_flagged flag (flagged name ∷ items) = if bytes_eq name flag then 1 + times_flagged flag items else times_flagged flag items
times_flagged flag (valued name value ∷ items) = times_flagged flag items

-- the values of an option
abbrev pub values : List ℕ → List Item → List (List ℕ)
values option [] = []
values option (placed word ∷ items) = values option items
values option (flagged name ∷ items) = values option items
values option (valued name value ∷ items) = if bytes_eq name option then value ∷ values option items else values option items

-- `-` begins the name of an option
abbrev pub is_name : List ℕ → Bool
is_name word = slice_index word 0 == 45

-- the names of a command's options, and of its flags
pub record OptionNames : Type 0 where
  pub options : List (List ℕ)
  pub flags : List (List ℕ)

-- a word can stand by itself: it isn't empty and isn't a name
abbrev pub IsPlaced : List ℕ → Type 0
IsPlaced word = (0 < length word) × (is_name word ≡ false)

-- a word by itself can stand so; a flag is one of the command's flags; an option's name is one of its options
abbrev pub IsWordItem : OptionNames → Item → Type 0
IsWordItem names (placed word) = IsPlaced word
IsWordItem names (flagged name) = (is_name name ≡ true) × (list_any (bytes_eq name) names.flags ≡ true)
IsWordItem names (valued name value) = (is_name name ≡ true) × (list_any (bytes_eq name) names.flags ≡ false) × Contains names.options name

-- one to twenty digits, and their number lies between these
pub record IsNumberWord (least greatest : ℕ) (text : List ℕ) (n : ℕ) : Type 0 where
  pub digits : AllDigits 10 text
  pub some : 0 < length text
  pub most : length text ≤ 20
  pub value : digits_value 10 text ≡ n
  pub low : least ≤ n
  pub high : n ≤ greatest

-- the option is there once, with a number between these
abbrev pub OptionHasNumber : List Item → List ℕ → ℕ → ℕ → ℕ → Type 0
OptionHasNumber items option least greatest n = (text : List ℕ) × (values option items ≡ text ∷ []) × IsNumberWord least greatest text n

-- the flag is there once, or not at all
abbrev pub HasFlag : List Item → List ℕ → Bool → Type 0
HasFlag items flag is = times_flagged flag items ≡ cond is 1 0

-- the option is there once, with the name of a file; or it is not there, and names none
abbrev pub HasFile : List Item → List ℕ → Option (List ℕ) → Type 0
HasFile items option None = values option items ≡ []
HasFile items option (Some file) = (values option items ≡ file ∷ []) × IsPlaced file

-- the items that words say, behind those that were read, with the name of an option that waits for its value
abbrev pub items_on : OptionNames → List Item → Option (List ℕ) → List (List ℕ) → Option (List Item)
items_on names read None [] = Some read
items_on names read (Some name) [] = None
items_on names read (Some name) (value ∷ words) = items_on names (read ++ (valued name value ∷ [])) None words
items_on names read None (word ∷ words) =
    if is_name word
    then (if list_any (bytes_eq word) names.flags
    then items_on names (read ++ (flagged word ∷ [])) None words
    else (if list_any (bytes_eq word) names.options then items_on names read (Some word) words else None))
    else (if nat_eq (length word) 0 then None else items_on names (read ++ (placed word ∷ [])) None words)

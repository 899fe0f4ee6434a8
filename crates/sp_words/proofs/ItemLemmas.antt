-- The items of words: reading them and writing them are inverse.
use Rattle.std.proofs.Common.{◌≡◌, ℕ, ◌<◌, Bool, true, false, List, [], ◌∷◌, ◌++◌, length, Option, Some, None, refl, ap, sym, ◌∙◌, bytes_eq, nat_eq, Contains, append_assoc, rules}
use Rattle.std.specs.Bool.{⊤}
use Rattle.std.specs.List.{list_any, AllByRecursion}
use Rattle.std.proofs.lemmas.List.{append-nil}
use Rattle.std.proofs.lemmas.Map.Views.{list_any-from_Contains, Contains-from_any}
use Rattle.std.proofs.lemmas.Cmp.{nat_list_eq_equiv}
use Rattle.std.proofs.lemmas.Slice.Eq.{bytes_eq-Decides}
use Rattle.sp_words.specs.Items.{Item, placed, flagged, valued, words_of, OptionNames, IsWordItem, items_on, is_name}

-- the words of items are read as these items
pub items_complete : (names : OptionNames) (read items : List Item) → AllByRecursion (IsWordItem names) items → items_on names read None (words_of items) ≡ Some (read ++ items)
items_complete names read [] all = ap Some (sym (append-nil read))
items_complete names read (placed word ∷ items) all =
    let name : is_name word ≡ false = all.0.1 in
    let some : nat_eq (length word) 0 ≡ false = let h : 0 < length word = all.0.0 in search rules in
    rw (name, some) (items_complete names (read ++ (placed word ∷ [])) items all.1 ∙ ap Some (append_assoc read (placed word ∷ []) items))
items_complete names read (flagged name ∷ items) all =
    let is : is_name name ≡ true = all.0.0 in
    let known : list_any (bytes_eq name) names.flags ≡ true = all.0.1 in
    rw (is, known) (items_complete names (read ++ (flagged name ∷ [])) items all.1 ∙ ap Some (append_assoc read (flagged name ∷ []) items))
items_complete names read (valued name value ∷ items) all =
    let is : is_name name ≡ true = all.0.0 in
    let no_flag : list_any (bytes_eq name) names.flags ≡ false = all.0.1 in
    let known : list_any (bytes_eq name) names.options ≡ true = list_any-from_Contains nat_list_eq_equiv name names.options all.0.2 in
    rw (is, no_flag, known) (items_complete names (read ++ (valued name value ∷ [])) items all.1 ∙ ap Some (append_assoc read (valued name value ∷ []) items))

-- the name that waits for its value
abbrev pub waiting : Option (List ℕ) → List (List ℕ)
waiting None = []
waiting (Some name) = name ∷ []

abbrev pub MayWait : OptionNames → Option (List ℕ) → Type 0
MayWait names None = ⊤
MayWait names (Some name) = (is_name name ≡ true) × (list_any (bytes_eq name) names.flags ≡ false) × Contains names.options name

-- words from here on say these items more
abbrev pub SaysMore : OptionNames → List Item → List (List ℕ) → List Item → Type 0
SaysMore names read words items = (new : List Item) × (items ≡ read ++ new) × (words ≡ words_of new) × AllByRecursion (IsWordItem names) new

says_more : (names : OptionNames) (read : List Item) (item : Item) (words : List (List ℕ)) (items : List Item) → IsWordItem names item → SaysMore names (read ++ (item ∷ [])) words items → (new : List Item) × (items ≡ read ++ (item ∷ new)) × (words ≡ words_of new) × AllByRecursion (IsWordItem names) (item ∷ new)
says_more names read item words items good s = (s.0, s.1 ∙ append_assoc read (item ∷ []) s.0, s.2, (good, s.3))

module _ (names : OptionNames) (word : List ℕ) (words : List (List ℕ)) (read items : List Item)
    (on : (read : List Item) (pending : Option (List ℕ)) → MayWait names pending → items_on names read pending words ≡ Some items → SaysMore names read (waiting pending ++ words) items) where
  says_word : (name flag known empty : Bool) → is_name word ≡ name → list_any (bytes_eq word) names.flags ≡ flag → list_any (bytes_eq word) names.options ≡ known → nat_eq (length word) 0 ≡ empty
      → items_on names read None (word ∷ words) ≡ Some items → SaysMore names read (word ∷ words) items
  says_word true true known empty n f k e h =
      let more = says_more names read (flagged word) words items (n, f) (on (read ++ (flagged word ∷ [])) None tt (rw (n, f) at h)) in
      (flagged word ∷ more.0, more.1, ap (λ l. word ∷ l) more.2, more.3)
  says_word true false true empty n f k e h = on read (Some word) (n, f, Contains-from_any (λ x y same. (bytes_eq-Decides x y).0 same) word names.options k) (rw (n, f, k) at h)
  says_word true false false empty n f k e h = let bad : ◌≡◌ {A = Option (List Item)} None (Some items) = rw (n, f, k) at h in cc
  says_word false flag known true n f k e h = let bad : ◌≡◌ {A = Option (List Item)} None (Some items) = rw (n, e) at h in cc
  says_word false flag known false n f k e h =
      let more = says_more names read (placed word) words items (search rules, n) (on (read ++ (placed word ∷ [])) None tt (rw (n, e) at h)) in
      (placed word ∷ more.0, more.1, ap (λ l. word ∷ l) more.2, more.3)

-- what is read of words says these words
pub items_sound : (names : OptionNames) (words : List (List ℕ)) (items read : List Item) (pending : Option (List ℕ)) → MayWait names pending → items_on names read pending words ≡ Some items → SaysMore names read (waiting pending ++ words) items
items_sound names [] items read None may h = let same : read ≡ items = cc in ([], sym same ∙ sym (append-nil read), refl, tt)
items_sound names [] items read (Some name) may h = cc
items_sound names (value ∷ words) items read (Some name) may h =
    let more = says_more names read (valued name value) words items may (items_sound names words items (read ++ (valued name value ∷ [])) None tt h) in
    (valued name value ∷ more.0, more.1, ap (λ l. name ∷ value ∷ l) more.2, more.3)
items_sound names (word ∷ words) items read None may h =
    says_word names word words read items (items_sound names words items) (is_name word) (list_any (bytes_eq word) names.flags) (list_any (bytes_eq word) names.options) (nat_eq (length word) 0) refl refl refl refl h

-- no other items have the same words
pub same_items : (names : OptionNames) (items others : List Item) → AllByRecursion (IsWordItem names) items → AllByRecursion (IsWordItem names) others → words_of items ≡ words_of others → items ≡ others
same_items names items others all all' e =
    let one = items_complete names [] items all in
    let two = items_complete names [] others all' in
    let both : Some items ≡ Some others = sym one ∙ ap (items_on names [] None) e ∙ two in
    cc

-- Names as texts.
use Rattle.std.proofs.Common.{◌≡◌, ℕ, Bool, true, false, List, [], ◌∷◌, ◌++◌, map, ◌+◌, refl, sym, ap, ◌∙◌}
use Rattle.std.specs.Prelude.{◌||◌, cond, not, suc, length, position, Option, Some, None, option_map, if◌then◌else◌}
use Rattle.std.specs.List.{list_any}
use Rattle.std.proofs.lemmas.List.{map-append}
use Rattle.std.specs.List.{position_or_len}
use Rattle.std.specs.Str.{bytes_eq}
use Rattle.std.specs.Borrow.{Bor}
use Rattle.sp_names.specs.Names.{texts, number_of, with_name}

any_texts : (test : List ℕ → Bool) (ks : List (Bor (List ℕ))) → list_any test (texts ks) ≡ list_any (λ k. test k.now) ks
any_texts test [] = refl
any_texts test (k ∷ ks) = ap (λ b. test k.now || b) (any_texts test ks)

pub is_declared : (name : Bor (List ℕ)) (ks : List (Bor (List ℕ))) → list_any (λ k. bytes_eq name.now k.now) ks ≡ list_any (bytes_eq name.now) (texts ks)
is_declared name ks = sym (any_texts (bytes_eq name.now) ks)

place_texts : (test : List ℕ → Bool) (ks : List (Bor (List ℕ))) → position_or_len test (texts ks) ≡ position_or_len (λ k. test k.now) ks
place_texts test [] = refl
place_texts test (k ∷ ks) = ap (λ n. cond (not (test k.now)) (1 + n) 0) (place_texts test ks)

length_texts : (ks : List (Bor (List ℕ))) → length (texts ks) ≡ length ks
length_texts [] = refl
length_texts (k ∷ ks) = ap suc (length_texts ks)

pub number_is : (name : List ℕ) (ks : List (Bor (List ℕ))) → position (λ k. bytes_eq name k.now) ks ≡ number_of (texts ks) name
number_is name ks = sym (rw (place_texts (bytes_eq name) ks, length_texts ks) refl)

pub names_are : (name : Bor (List ℕ)) (ks : List (Bor (List ℕ))) → texts (if list_any (λ k. bytes_eq name.now k.now) ks then ks else ks ++ name ∷ []) ≡ with_name (texts ks) name.now
names_are name ks = go (list_any (λ k. bytes_eq name.now k.now) ks) (is_declared name ks)
  where
    go : (b : Bool) → b ≡ list_any (bytes_eq name.now) (texts ks) → texts (if b then ks else ks ++ name ∷ []) ≡ with_name (texts ks) name.now
    go true e = rw (← e) refl
    go false e = rw (← e) (map-append _ ks (name ∷ []))

-- Names of a model are names of a text.
use Rattle.std.proofs.Common.{◌≡◌, ◌≢◌, ℕ, zero, suc, ◌+◌, ◌<◌, ◌==◌, ◌||◌, Bool, true, false, cond, List, [], ◌∷◌, length, get_or, Some, None, refl, ap, ◌∙◌, arith}
use Rattle.std.specs.Prelude.{IsTrue, All, not, nat_lt, codes, if◌then◌else◌}
use Rattle.std.specs.Str.{bytes_eq}
use Rattle.std.specs.Char.{is_ascii_alphabetic}
use Rattle.std.proofs.lemmas.Slice.Eq.{bytes_eq-Decides}
use Rattle.std.specs.List.{prefix_len}
use Rattle.std.proofs.lemmas.Bool.Decides.{nat_tests}
use Rattle.sp_syntax.specs.declared.class.WordClass.TheVariants as word
use Rattle.sp_syntax.specs.Classes.{word_class, section_keyword, inner_keyword, plain_class, or_else}
use Rattle.sp_model.specs.Words.{IsModelName, IsValueName, BeginsName, keywords}
use Rattle.sp_model.specs.Kept.{AreDifferent}
use Rattle.sp_spelled.specs.Signs.{IsWordText}
use Rattle.sp_trees.specs.Words.{number_of}
use Rattle.sp_spelled.specs.Written.{IsNameWord}
use Rattle.sp_written.specs.Meanings.{AreNamesFrom}

pub differs : (w k : List ℕ) → w ≢ k → bytes_eq w k ≡ false
differs w k h = go (bytes_eq w k) refl
  where
    go : (b : Bool) → bytes_eq w k ≡ b → bytes_eq w k ≡ false
    go true e = absurd (h ((bytes_eq-Decides w k).0 e))
    go false e = e

no_section : (w : List ℕ) → All (λ k. w ≢ k) keywords → section_keyword w ≡ None
unfolding section_keyword
no_section w h =
    let a = differs w (codes "init") (h 2 [] (omega arith)) in
    let b = differs w (codes "dd") (h 3 [] (omega arith)) in
    let c = differs w (codes "action") (h 5 [] (omega arith)) in
    let d = differs w (codes "reward") (h 10 [] (omega arith)) in
    let e = differs w (codes "discount") (h 11 [] (omega arith)) in
    let f = differs w (codes "horizon") (h 12 [] (omega arith)) in
    let g = differs w (codes "tolerance") (h 13 [] (omega arith)) in
    let u = differs w (codes "unnormalized") (h 14 [] (omega arith)) in
    (λ i. if a i then Some word.Init else (if b i then Some word.Dd else (if c i then Some word.Action else (if d i then Some word.Reward
    else (if e i then Some word.Discount else (if f i then Some word.Horizon else (if g i then Some word.Tolerance else (if u i then Some word.Unnormalized else None))))))))

no_inner : (w : List ℕ) → All (λ k. w ≢ k) keywords → inner_keyword w ≡ None
unfolding inner_keyword
no_inner w h =
    let a = differs w (codes "variables") (h 0 [] (omega arith)) in
    let b = differs w (codes "observations") (h 1 [] (omega arith)) in
    let c = differs w (codes "enddd") (h 4 [] (omega arith)) in
    let d = differs w (codes "endaction") (h 6 [] (omega arith)) in
    let e = differs w (codes "observe") (h 7 [] (omega arith)) in
    let f = differs w (codes "endobserve") (h 8 [] (omega arith)) in
    let g = differs w (codes "cost") (h 9 [] (omega arith)) in
    (λ i. if a i then Some word.Variables else (if b i then Some word.Observations else (if c i then Some word.EndDd else (if d i then Some word.EndAction
    else (if e i then Some word.Observe else (if f i then Some word.EndObserve else (if g i then Some word.Cost else None)))))))

begins : (w : List ℕ) → BeginsName w → plain_class w ≡ word.Name
begins [] h = absurd h
begins (b ∷ bs) h = go (is_ascii_alphabetic b || b == 95) h
  where
    go : (t : Bool) → IsTrue t → (if t then word.Name else (if bytes_eq (b ∷ bs) (codes "-") then word.Minus else word.Number)) ≡ word.Name
    go true e = refl
    go false e = cc

-- a model's name has the class of names
pub named : (w : List ℕ) → IsModelName w → IsNameWord w
unfolding word_class
named w h = record {
  text = record { some = h.value.some; bytes = h.value.bytes };
  name = ap (λ o. or_else o (or_else (inner_keyword w) (plain_class w))) (no_section w h.free) ∙ ap (λ o. or_else o (plain_class w)) (no_inner w h.free) ∙ begins w h.begins;
}

pub prefix_is : {X : Type 0} (p : X → Bool) (xs : List X) (k : ℕ) (d : X) → k < length xs → p (get_or xs k d) ≡ true → ((i : ℕ) → i < k → p (get_or xs i d) ≡ false) → prefix_len (λ x. not (p x)) xs ≡ k
prefix_is p [] k d l h e = absurd (omega arith)
prefix_is p (x ∷ xs) zero d l h e = ap (λ b. cond (not b) (1 + prefix_len (λ y. not (p y)) xs) 0) h
prefix_is p (x ∷ xs) (suc k) d l h e = ap (λ b. cond (not b) (1 + prefix_len (λ y. not (p y)) xs) 0) (e 0 (omega arith)) ∙ (let rest = prefix_is p xs k d (omega arith) h (λ i m. e (suc i) (omega arith)) in omega arith)

-- the place of a word among different words
position_is : (xs : List (List ℕ)) (k : ℕ) (d : List ℕ) → k < length xs → ((i j : ℕ) → i < j → j < length xs → get_or xs i d ≢ get_or xs j d) → number_of xs (get_or xs k d) ≡ Some k
position_is xs k d l h =
    let first : prefix_len (λ x. not (bytes_eq x (get_or xs k d))) xs ≡ k = prefix_is (λ x. bytes_eq x (get_or xs k d)) xs k d l ((bytes_eq-Decides (get_or xs k d) (get_or xs k d)).1 refl) (λ i m. differs (get_or xs i d) (get_or xs k d) (h i k m l)) in
    let within : nat_lt k (length xs) ≡ true = grind (arith, nat_tests) in
    ap (λ n. cond (nat_lt n (length xs)) (Some n) None) first ∙ ap (λ b. cond b (Some k) None) within

-- the values of a variable by number
numbered_from : (names : List (List ℕ)) (k : ℕ) (xs : List (List ℕ)) → ((i : ℕ) → i < length xs → IsWordText (get_or xs i []) × (number_of names (get_or xs i []) ≡ Some (k + i))) → AreNamesFrom names k xs
numbered_from names k [] h = tt
numbered_from names k (x ∷ xs) h =
    let first = h 0 (omega arith) in
    let here : k + 0 ≡ k = omega arith in
    (first.0, first.1 ∙ ap Some here, numbered_from names (k + 1) xs (λ i l. (let more = h (suc i) (omega arith) in let next : k + suc i ≡ k + 1 + i = omega arith in (more.0, more.1 ∙ ap Some next))))

pub numbered_values : (names : List (List ℕ)) → All IsValueName names → AreDifferent names → AreNamesFrom names 0 names
numbered_values names each different = numbered_from names 0 names (λ i l. (
  let is = each i [] l in record { some = is.some; bytes = is.bytes },
  position_is names i [] l (λ a b less m. different a b [] less m) ∙ (let e : i ≡ 0 + i = omega arith in ap Some e),
))

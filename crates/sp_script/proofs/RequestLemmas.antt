-- The number of a joint observation, one variable after another.
use Rattle.std.proofs.Common.{◌≡◌, ℕ, suc, ◌+◌, ◌*◌, ◌^◌, ◌<◌, ◌≤◌, List, [], ◌∷◌, length, drop, get_or, Option, Some, refl, sym, ap, ◌∙◌, subst, arith}
use Rattle.std.specs.Prelude.{All, position, option_and_then}
use Rattle.std.specs.Borrow.{Bor}
use Rattle.std.specs.Str.{bytes_eq}
use Rattle.std.proofs.Math.Nat.{mul-le-mul_left}
use Rattle.std.proofs.Math.Seq.{drop-cons, drop-length}
use Rattle.std.proofs.lemmas.List.{get_or-map}
use Rattle.std.proofs.lemmas.List.Quantifiers.{position-Some}
use Rattle.sp_theory.specs.Points.{count_of}
use Rattle.sp_model.specs.declared.parts.Decl.{Decl}
use Rattle.sp_model.specs.Kept.{IsDecl}
use Rattle.sp_model.specs.Problem.{sizes_of, no_decl}
use Rattle.sp_model.proofs.Counts.{count_of-drop, count_of-some, AllSome-drop, part-le, length-sizes_of}
use Rattle.sp_model.proofs.RowLaw.{some_sizes}
use Rattle.sp_script.specs.Lines.{texts}
use Rattle.sp_script.specs.Requests.{observation_from}

-- ---- the number fits
-- the number so far stands for so many that the sizes left don't lead past the count of all
abbrev pub IsWithin : List Decl → ℕ → ℕ → Type 0
IsWithin sights k number = (number + 1) * count_of (drop k (sizes_of sights)) ≤ count_of (sizes_of sights)

fits_rest : (number len place more all : ℕ) → place < len → (number + 1) * (len * more) ≤ all → ((number * len + place) + 1) * more ≤ all
fits_rest number len place more all less fits =
    let room : more * (place + 1) ≤ more * len = mul-le-mul_left more (let next : place + 1 ≤ len = omega arith in next) in
    omega (arith, room, fits)

pub within_more : (sights : List Decl) (k number place : ℕ) → k < length sights → place < length (get_or sights k no_decl).values → IsWithin sights k number → IsWithin sights (k + 1) (number * length (get_or sights k no_decl).values + place)
within_more sights k number place less low fits =
    let next : k + 1 ≡ suc k = omega arith in
    let here : k < length (sizes_of sights) = omega (arith, less, length-sizes_of sights) in
    let P : ℕ → Type 0 = λ n. (number + 1) * n ≤ count_of (sizes_of sights) in
    let whole : count_of (drop k (sizes_of sights)) ≡ length (get_or sights k no_decl).values * count_of (drop (k + 1) (sizes_of sights)) =
    count_of-drop (sizes_of sights) k here ∙ (λ i. get_or-map (λ (d : Decl). length d.values) sights k no_decl 0 less i * count_of (drop (sym next i) (sizes_of sights))) in
    fits_rest number (length (get_or sights k no_decl).values) place (count_of (drop (k + 1) (sizes_of sights))) (count_of (sizes_of sights)) low (subst P whole fits)

-- so it is below the count of all
pub within_count : (sights : List Decl) (k number : ℕ) → All IsDecl sights → IsWithin sights k number → number < count_of (sizes_of sights)
within_count sights k number declared fits =
    let some = count_of-some (drop k (sizes_of sights)) (AllSome-drop (sizes_of sights) k (some_sizes sights declared)) in
    let low = part-le (number + 1) (count_of (drop k (sizes_of sights))) some in
    omega (arith, low, fits)

pub small_product : (number len : ℕ) → number < 4096 → len ≤ 64 → number * len < 2 ^ 20
small_product number len low few = let most = mul-le-mul_left number few in omega (arith, most, low)

-- a place is that of a value
pub place_within : (names : List (List ℕ)) (v : List ℕ) (place : ℕ) → position (λ name. bytes_eq name v) names ≡ Some place → place < length names
place_within names v place is = (position-Some (λ name. bytes_eq name v) names place [] is).0

-- ---- what is read
pub texts-length : (values : List (Bor (List ℕ))) → length (texts values) ≡ length values
texts-length [] = refl
texts-length (v ∷ vs) = ap suc (texts-length vs)

-- the text of a word at a place
pub text_at : (values : List (Bor (List ℕ))) (k : ℕ) (v : Bor (List ℕ)) → k < length values → (get_or values k v).now ≡ get_or (texts values) k []
text_at values k v less = sym (get_or-map (λ (w : Bor (List ℕ)). w.now) values k v [] less)

at_place : {X : Type 0} (xs : List X) (k : ℕ) (d : X) → k < length xs → drop k xs ≡ get_or xs k d ∷ drop (k + 1) xs
at_place xs k d less = let next : k + 1 ≡ suc k = omega arith in drop-cons xs k d less ∙ ap (λ n. get_or xs k d ∷ drop n xs) (sym next)

-- the value of one variable more
pub observation_step : (sights : List Decl) (values : List (List ℕ)) (k number : ℕ) → k < length sights → k < length values
    → (place : Option ℕ) → place ≡ position (λ name. bytes_eq name (get_or values k [])) (get_or sights k no_decl).values
    → option_and_then (λ x. observation_from (number * length (get_or sights k no_decl).values + x) (drop (k + 1) sights) (drop (k + 1) values)) place ≡ observation_from number (drop k sights) (drop k values)
observation_step sights values k number less within place found =
    ap (option_and_then (λ x. observation_from (number * length (get_or sights k no_decl).values + x) (drop (k + 1) sights) (drop (k + 1) values))) found
    ∙ (λ i. observation_from number (sym (at_place sights k no_decl less) i) (sym (at_place values k [] within) i))

pub observation_end : (sights : List Decl) (values : List (Bor (List ℕ))) (k number : ℕ) → length values ≡ length sights → length values ≤ k → k ≤ length values → Some number ≡ observation_from number (drop k sights) (drop k (texts values))
observation_end sights values k number same low high =
    let one : length sights ≡ k = omega arith in
    let two : length (texts values) ≡ k = omega (arith, texts-length values) in
    let left : drop k sights ≡ [] = ap (λ n. drop n sights) (sym one) ∙ drop-length sights in
    let right : drop k (texts values) ≡ [] = ap (λ n. drop n (texts values)) (sym two) ∙ drop-length (texts values) in
    λ i. observation_from number (sym left i) (sym right i)

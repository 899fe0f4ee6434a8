-- Items of lists, as they were read.
use Rattle.std.proofs.Common.{◌≡◌, ◌∙◌, sym, ap, subst, arith, ℕ, zero, suc, ◌+◌, ◌<◌, List, [], ◌∷◌, ◌++◌, length, map, get_or, take, drop, Some}
use Rattle.std.specs.Prelude.{slice_get}
use Rattle.std.proofs.lemmas.Option.{slice_get-get_or}

-- one item more of a list that was read
pub more_taken : {X Y : Type 0} (f : X → Y) (xs : List X) (k : ℕ) (x : X) → slice_get xs k ≡ Some x → take (k + 1) (map f xs) ≡ take k (map f xs) ++ f x ∷ []
more_taken {X} {Y} f xs k x at = let step : suc k ≡ k + 1 = omega arith in subst (λ (n : ℕ). take n (map f xs) ≡ take k (map f xs) ++ f x ∷ []) step (by_list xs k at)
  where
    by_list : (xs : List X) (k : ℕ) → slice_get xs k ≡ Some x → take (suc k) (map f xs) ≡ take k (map f xs) ++ f x ∷ []
    by_list [] k at = absurd (cc)
    by_list (y ∷ ys) zero at = ap (λ (z : X). f z ∷ []) (let same : Some y ≡ Some x = at in cc)
    by_list (y ∷ ys) (suc k) at = ap (λ (zs : List Y). f y ∷ zs) (by_list ys k at)

-- the rest of a list from an item on
pub rest_from : {X Y : Type 0} (f : X → Y) (xs : List X) (k : ℕ) (x : X) → slice_get xs k ≡ Some x → (drop k (map f xs) ≡ f x ∷ drop (suc k) (map f xs)) × (k < length (map f xs))
rest_from f [] k x at = absurd (cc)
rest_from f (y ∷ ys) zero x at = (ap (λ z. f z ∷ map f ys) (let same : Some y ≡ Some x = at in cc), omega arith)
rest_from f (y ∷ ys) (suc k) x at = let (rest, less) = rest_from f ys k x at in (rest, omega (arith, less))

-- an item as it was read, by its place
pub found_at : {X : Type 0} (items : List X) (n : ℕ) (a : X) → n < length items → a ≡ get_or items n a → slice_get items n ≡ Some a
found_at items n a less is = slice_get-get_or items n a less ∙ ap Some (sym is)

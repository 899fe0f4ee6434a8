-- The pairs of a line from their pieces.
use Rattle.std.proofs.Common.{◌≡◌, ℕ, suc, ◌+◌, ◌<◌, List, ◌∷◌, ◌++◌, length, drop, get_or, Some, drop-cons, add-one, ◌∙◌, ap, sym, append_assoc}
use Rattle.std.specs.List.{slice_get}
use Rattle.std.proofs.lemmas.Option.{get_or_from_slice_get}
use Rattle.std.specs.Fmt.{decimal}
use Rattle.sp_lines.specs.Lines.{spaced_pairs}

-- the pair at a place comes first behind those before it
pair_at : (pairs : List (ℕ × ℕ)) (i : ℕ) (pair : ℕ × ℕ) → i < length pairs → slice_get pairs i ≡ Some pair → drop i pairs ≡ pair ∷ drop (i + 1) pairs
pair_at pairs i pair less is =
    let same : get_or pairs i pair ≡ pair = get_or_from_slice_get pairs i pair pair is in
    rw add-one (drop-cons pairs i pair less ∙ ap (λ y. y ∷ drop (suc i) pairs) same)

pub pair_step : (pairs : List (ℕ × ℕ)) (i : ℕ) (pair : ℕ × ℕ) (start text new : List ℕ) → i < length pairs → slice_get pairs i ≡ Some pair
    → start ++ spaced_pairs pairs ≡ text ++ spaced_pairs (drop i pairs)
    → new ≡ text ++ (32 ∷ (decimal pair.0 ++ (32 ∷ decimal pair.1)))
    → start ++ spaced_pairs pairs ≡ new ++ spaced_pairs (drop (i + 1) pairs)
pair_step pairs i pair start text new less is so_far e =
    let next = pair_at pairs i pair less is in
    so_far ∙ ap (λ l. text ++ spaced_pairs l) next
    ∙ ap (λ l. text ++ (32 ∷ l)) (sym (append_assoc (decimal pair.0) (32 ∷ decimal pair.1) (spaced_pairs (drop (i + 1) pairs))))
    ∙ sym (append_assoc text (32 ∷ (decimal pair.0 ++ (32 ∷ decimal pair.1))) (spaced_pairs (drop (i + 1) pairs)))
    ∙ ap (λ l. l ++ spaced_pairs (drop (i + 1) pairs)) (sym e)

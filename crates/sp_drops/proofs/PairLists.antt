-- Lists of pairs as they are gone through.
use Rattle.std.proofs.Common.{◌≡◌, ◌∙◌, sym, ap, ℕ, ◌+◌, List, [], ◌∷◌, ◌++◌, drop, Bool, true, false, cond, ◌&&◌, Some, append_assoc}
use Rattle.std.specs.Prelude.{slice_get}
use Rattle.std.proofs.lemmas.Option.{slice_get_within, get_or_from_slice_get}
use Rattle.std.proofs.lemmas.List.{drop_more}
use Rattle.sp_drops.specs.Drops.{has_id, without_id, applying_ids}

-- the rest of a list from an item that was read
pub drop_read : {X : Type 0} (xs : List X) (k : ℕ) (x : X) → slice_get xs k ≡ Some x → drop k xs ≡ x ∷ drop (k + 1) xs
drop_read {X} xs k x at = drop_more xs k x (slice_get_within xs k x at) ∙ ap (λ (y : X). y ∷ drop (k + 1) xs) (get_or_from_slice_get xs k x x at)

-- one more pair is judged
pub applied_more : (found all pairs : List (ℕ × ℕ)) (ids : List ℕ) (k : ℕ) (x y : ℕ) → slice_get pairs k ≡ Some (x, y) → found ++ applying_ids ids (drop k pairs) ≡ all
    → found ++ cond (has_id ids x && has_id ids y) ((x, y) ∷ []) [] ++ applying_ids (cond (has_id ids x && has_id ids y) (without_id ids x) ids) (drop (k + 1) pairs) ≡ all
applied_more found all pairs ids k x y at before =
    by_test (has_id ids x && has_id ids y) ∙ ap (λ (ps : List (ℕ × ℕ)). found ++ applying_ids ids ps) (sym (drop_read pairs k (x, y) at)) ∙ before
  where
    by_test : (b : Bool) → found ++ cond b ((x, y) ∷ []) [] ++ applying_ids (cond b (without_id ids x) ids) (drop (k + 1) pairs) ≡ found ++ cond b ((x, y) ∷ applying_ids (without_id ids x) (drop (k + 1) pairs)) (applying_ids ids (drop (k + 1) pairs))
    by_test true = append_assoc found ((x, y) ∷ []) (applying_ids (without_id ids x) (drop (k + 1) pairs))
    by_test false = append_assoc found [] (applying_ids ids (drop (k + 1) pairs))

-- as the code judges it
pub applied_step : (found all pairs : List (ℕ × ℕ)) (ids : List ℕ) (k x y : ℕ) → slice_get pairs k ≡ Some (x, y) → found ++ applying_ids ids (drop k pairs) ≡ all
    → (b : Bool) (found' : List (ℕ × ℕ)) (ids' : List ℕ) → b ≡ (has_id ids x && has_id ids y) → ids' ≡ cond b (without_id ids x) ids → found' ≡ found ++ cond b ((x, y) ∷ []) []
    → found' ++ applying_ids ids' (drop (k + 1) pairs) ≡ all
applied_step found all pairs ids k x y at before b found' ids' is is_ids is_found =
    (λ i. (is_found ∙ ap (λ (q : Bool). found ++ cond q ((x, y) ∷ []) []) is) i ++ applying_ids ((is_ids ∙ ap (λ (q : Bool). cond q (without_id ids x) ids) is) i) (drop (k + 1) pairs))
    ∙ applied_more found all pairs ids k x y at before

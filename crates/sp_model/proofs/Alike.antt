-- Lists and scopes that agree everywhere are the same.
use Rattle.std.proofs.Common.{◌≡◌, ℕ, suc, ◌<◌, refl, arith, List, [], ◌∷◌, length, get_or}
use Rattle.std.specs.Prelude.{slice_get}
use Rattle.std.proofs.lemmas.Grind.{same_number_lists}
use Rattle.sp_dd.specs.Func.{Shape}

pub lists_same : {X : Type 0} (xs ys : List X) → length xs ≡ length ys → ((k : ℕ) → k < length xs → slice_get xs k ≡ slice_get ys k) → xs ≡ ys
lists_same [] [] e same = refl
lists_same [] (y ∷ ys) e same = absurd (omega arith)
lists_same (x ∷ xs) [] e same = absurd (omega arith)
lists_same (x ∷ xs) (y ∷ ys) e same =
    let first = same 0 (omega arith) in
    let rest = lists_same xs ys (omega arith) (λ k h. same (suc k) (omega arith)) in
    cc (first, rest)

pub scopes_same : (s t : Shape) → length s.sizes ≡ length t.sizes → s.variables ≡ t.variables → ((k : ℕ) → k < length s.sizes → get_or s.sizes k 0 ≡ get_or t.sizes k 0) → s ≡ t
scopes_same s t e f same =
    let sizes = same_number_lists s.sizes t.sizes e same in
    (λ i. let r : Shape = record { sizes = sizes i; variables = f i } in r)

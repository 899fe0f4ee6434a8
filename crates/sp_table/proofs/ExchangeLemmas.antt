use Rattle.std.proofs.Common.{◌≡◌, ℕ, zero, suc, ◌<◌, ◌≤◌, ◌+◌, ◌*◌, ◌%◌, ◌⊎◌, inl, inr, refl, sym, ◌∙◌, ap, arith, List, [], ◌∷◌, length, map, get_or, set, subst, ◌^◌, ◌++◌, take, drop}
use Rattle.std.proofs.Math.Seq.{take-append_seam}
use Rattle.std.proofs.lemmas.List.{get_or-set_same, get_or-set_other, length-set}
use Rattle.std.proofs.lemmas.Nat.{mod_below}
use Rattle.std.proofs.lemmas.Bool.{cases_eq}
use Rattle.std.specs.Prelude.{ℤ, pos, ◌≢◌}
use Rattle.std.specs.List.{range_with_len}
use Rattle.std.proofs.lemmas.List.FromFn.{get_or-map-range_with_len, length-map-range_with_len}
use Rattle.sp_dd.specs.Points.{product, place, point_at, IsPoint, exchange}
use Rattle.sp_dd.specs.Func.{Shape, Func, value_of, IsIndependentOf}
use Rattle.sp_dd.specs.Operations.{exchange_of_slots}
use Rattle.sp_dd.proofs.FuncLemmas.{scope_some}
use Rattle.sp_dd.proofs.PointLemmas.{place-below}
use Rattle.sp_table.specs.Cells.{cell_at}
use Rattle.sp_table.specs.Widths.{AreWidthsOf, IsFrame, without_each, exchange_at, exchange_each}
use Rattle.sp_table.proofs.PlaceLemmas.{Mentions-length, Mentions-pos, Mentions-set, IsPoint-length}
use Rattle.sp_table.proofs.FrameLemmas.{Means, means, reads_less}

-- an exchange behind the first two
exchange_at-two : (j x y : ℕ) (ws : List ℕ) → exchange_at (suc (suc j)) (x ∷ y ∷ ws) ≡ x ∷ y ∷ exchange_at j ws
exchange_at-two j x y ws =
    let e : suc (suc j) + 1 ≡ suc (suc (j + 1)) = omega arith in
    ap (λ n. set (set (x ∷ y ∷ ws) (suc (suc j)) (get_or (x ∷ y ∷ ws) n 0)) n (get_or (x ∷ y ∷ ws) (suc (suc j)) 0)) e

-- the exchanges one after another are the exchange of all
exchange_each-two : (i x y : ℕ) (ws : List ℕ) → exchange_each (suc i) (x ∷ y ∷ ws) ≡ y ∷ x ∷ exchange_each i ws
exchange_each-two zero x y ws = refl
exchange_each-two (suc i) x y ws =
    let twice : 2 * suc i ≡ suc (suc (2 * i)) = omega arith in
    ap (exchange_at (2 * suc i)) (exchange_each-two i x y ws)
    ∙ ap (λ j. exchange_at j (y ∷ x ∷ exchange_each i ws)) twice
    ∙ exchange_at-two (2 * i) y x (exchange_each i ws)

pub exchange_each-all : (n : ℕ) (ws : List ℕ) → 2 * n ≤ length ws → exchange_each n ws ≡ exchange n ws
exchange_each-all zero ws h = refl
exchange_each-all (suc n) [] h = absurd (omega arith)
exchange_each-all (suc n) (x ∷ []) h = absurd (omega arith)
exchange_each-all (suc n) (x ∷ y ∷ ws) h = exchange_each-two n x y ws ∙ ap (λ l. y ∷ x ∷ l) (exchange_each-all n ws (omega arith))

-- one more exchange
pub exchange_each-more : (i : ℕ) (ws : List ℕ) → exchange_at (2 * i) (exchange_each i ws) ≡ exchange_each (i + 1) ws
exchange_each-more i ws = let e : suc i ≡ i + 1 = omega arith in ap (λ n. exchange_each n ws) e

-- the two slots of each pair have equal sizes
abbrev pub Paired : ℕ → List ℕ → Type 0
Paired zero ws = Unit {0}
Paired (suc n) [] = ⊥
Paired (suc n) (w ∷ []) = ⊥
Paired (suc n) (w ∷ v ∷ ws) = (w ≡ v) × Paired n ws

-- one of the two slots of each pair isn't mentioned
abbrev pub Lone : ℕ → List ℕ → Type 0
Lone zero ws = Unit {0}
Lone (suc n) [] = ⊥
Lone (suc n) (w ∷ []) = ⊥
Lone (suc n) (w ∷ v ∷ ws) = (w ≡ 1 ⊎ v ≡ 1) × Lone n ws

pub paired_from : (n : ℕ) (ws : List ℕ) → 2 * n ≤ length ws → ((i : ℕ) → i < n → get_or ws (2 * i) 0 ≡ get_or ws (2 * i + 1) 0) → Paired n ws
paired_from zero ws h e = tt
paired_from (suc n) [] h e = absurd (omega arith)
paired_from (suc n) (w ∷ []) h e = absurd (omega arith)
paired_from (suc n) (w ∷ v ∷ ws) h e = (
  e zero (omega arith),
  paired_from n ws (omega arith) (λ i less.
      let twice : 2 * suc i ≡ suc (suc (2 * i)) = omega arith in
      let more : 2 * suc i + 1 ≡ suc (suc (2 * i + 1)) = omega arith in
      sym (ap (λ j. get_or (w ∷ v ∷ ws) j 0) twice) ∙ e (suc i) (omega arith) ∙ ap (λ j. get_or (w ∷ v ∷ ws) j 0) more),
)

lone_head : (first w v : ℕ) (ws : List ℕ) → first ≤ 1 → get_or (w ∷ v ∷ ws) first 0 ≡ 1 → w ≡ 1 ⊎ v ≡ 1
lone_head zero w v ws h e = inl e
lone_head (suc zero) w v ws h e = inr e
lone_head (suc (suc k)) w v ws h e = absurd (omega arith)

pub lone_from : (n first : ℕ) (ws : List ℕ) → first ≤ 1 → 2 * n ≤ length ws → ((i : ℕ) → i < n → get_or ws (2 * i + first) 0 ≡ 1) → Lone n ws
lone_from zero first ws o h e = tt
lone_from (suc n) first [] o h e = absurd (omega arith)
lone_from (suc n) first (w ∷ []) o h e = absurd (omega arith)
lone_from (suc n) first (w ∷ v ∷ ws) o h e =
    let start : 2 * 0 + first ≡ first = omega arith in (
      lone_head first w v ws o (sym (ap (λ j. get_or (w ∷ v ∷ ws) j 0) start) ∙ e 0 (omega arith)),
      lone_from n first ws o (omega arith) (λ i less.
          let more : 2 * suc i + first ≡ suc (suc (2 * i + first)) = omega arith in
          sym (ap (λ j. get_or (w ∷ v ∷ ws) j 0) more) ∙ e (suc i) (omega arith)),
    )

-- exchanging keeps the product, the scope and the points
pub product-exchange : (n : ℕ) (ws : List ℕ) → product (exchange n ws) ≡ product ws
product-exchange zero ws = refl
product-exchange (suc n) [] = refl
product-exchange (suc n) (w ∷ []) = refl
product-exchange (suc n) (w ∷ v ∷ ws) = let e = product-exchange n ws in let t = ap (λ p. v * (w * p)) e in omega (arith, t)

pub length-exchange : (n : ℕ) (ws : List ℕ) → length (exchange n ws) ≡ length ws
length-exchange zero ws = refl
length-exchange (suc n) [] = refl
length-exchange (suc n) (w ∷ []) = refl
length-exchange (suc n) (w ∷ v ∷ ws) = ap (λ k. suc (suc k)) (length-exchange n ws)

half : (v a b : ℕ) → a ≡ b → v ≡ 1 ⊎ v ≡ b → v ≡ 1 ⊎ v ≡ a
half v a b e (inl h) = inl h
half v a b e (inr h) = inr (h ∙ sym e)

pub Mentions-exchange : (n : ℕ) (ws ss : List ℕ) → Paired n ss → AreWidthsOf ws ss → AreWidthsOf (exchange n ws) ss
Mentions-exchange zero ws ss e m = m
Mentions-exchange (suc n) ws [] e m = absurd e
Mentions-exchange (suc n) ws (s ∷ []) e m = absurd e
Mentions-exchange (suc n) [] (s ∷ t ∷ ss) e m = absurd m
Mentions-exchange (suc n) (w ∷ []) (s ∷ t ∷ ss) e m = absurd m.1
Mentions-exchange (suc n) (w ∷ v ∷ ws) (s ∷ t ∷ ss) e m = (half v s t e.0 m.1.0, (half w t s (sym e.0) m.0, Mentions-exchange n ws ss e.1 m.1.1))

pub IsPoint-exchange : (n : ℕ) (ss xs : List ℕ) → Paired n ss → IsPoint ss xs → IsPoint ss (exchange n xs)
IsPoint-exchange zero ss xs e p = p
IsPoint-exchange (suc n) [] xs e p = absurd e
IsPoint-exchange (suc n) (s ∷ []) xs e p = absurd e
IsPoint-exchange (suc n) (s ∷ t ∷ ss) [] e p = absurd p
IsPoint-exchange (suc n) (s ∷ t ∷ ss) (x ∷ []) e p = absurd p.1
IsPoint-exchange (suc n) (s ∷ t ∷ ss) (x ∷ y ∷ xs) e p = (omega (arith, p.1.0, e.0), (omega (arith, p.0, e.0), IsPoint-exchange n ss xs e.1 p.1.1))

pair_place : (w v x y p q r t : ℕ) → w ≡ 1 ⊎ v ≡ 1 → q ≡ p → r ≡ t → x % v * (w * q) + (y % w * q + r) ≡ y % w * (v * p) + (x % v * p + t)
pair_place w v x y p q r t (inl e) d c =
    let none : y % w ≡ 0 = ap (λ n. y % n) e ∙ (let b : y % 1 ≡ 0 = omega (arith, mod_below y 1 (omega arith)) in b) in
    rw (none, d, c, e) (omega arith)
pair_place w v x y p q r t (inr e) d c =
    let none : x % v ≡ 0 = ap (λ n. x % n) e ∙ (let b : x % 1 ≡ 0 = omega (arith, mod_below x 1 (omega arith)) in b) in
    rw (none, d, c, e) (omega arith)

-- the place of a point among exchanged widths is that of the exchanged point
pub place-exchange : (n : ℕ) (ws xs : List ℕ) → Lone n ws → length ws ≡ length xs → place (exchange n ws) xs ≡ place ws (exchange n xs)
place-exchange zero ws xs h e = refl
place-exchange (suc n) [] xs h e = absurd h
place-exchange (suc n) (w ∷ []) xs h e = absurd h
place-exchange (suc n) (w ∷ v ∷ ws) [] h e = absurd (omega arith)
place-exchange (suc n) (w ∷ v ∷ ws) (x ∷ []) h e = absurd (omega arith)
place-exchange (suc n) (w ∷ v ∷ ws) (x ∷ y ∷ xs) h e = pair_place w v x y (product ws) (product (exchange n ws)) _ _ h.0 (product-exchange n ws) (place-exchange n ws xs h.1 (omega arith))

-- widths without a slot of each variable
pub frame_without : (f : Func) (us : List ℕ) (first i : ℕ) → IsFrame f us → first ≤ 1 → i ≤ f.shape.variables → ((j : ℕ) → j < f.shape.variables → IsIndependentOf f (2 * j + first)) → IsFrame f (without_each first i us)
frame_without f us first zero frame o h free = frame
frame_without f us first (suc i) frame o h free =
    let before = frame_without f us first i frame o (omega arith) free in
    let within : 2 * i + first < length f.shape.sizes = omega (arith, frame.scope.paired, h, o) in
    record {
      scope = frame.scope;
      mentions = Mentions-set (without_each first i us) f.shape.sizes (2 * i + first) before.mentions;
      reads = reads_less f (without_each first i us) (2 * i + first) frame.scope within before.reads before.mentions (free i (omega arith));
    }

pub length-without : (first i : ℕ) (us : List ℕ) → length (without_each first i us) ≡ length us
length-without first zero us = refl
length-without first (suc i) us = length-set (without_each first i us) (2 * i + first) 1 ∙ length-without first i us

pub get_or-without : (first n i : ℕ) (us : List ℕ) → first ≤ 1 → 2 * n ≤ length us → i < n → get_or (without_each first n us) (2 * i + first) 0 ≡ 1
get_or-without first zero i us o h less = absurd (omega arith)
get_or-without first (suc n) i us o h less =
    elim (cases_eq i n) [
      | inl here ↦
          let long : 2 * n + first < length (without_each first n us) = omega (arith, length-without first n us, h, o) in
          ap (λ j. get_or (without_each first (suc n) us) (2 * j + first) 0) here ∙ get_or-set_same (without_each first n us) (2 * n + first) 1 0 long
      | inr there ↦
          let before : i < n = omega (arith, less, there) in
          let apart : 2 * i + first ≢ 2 * n + first = omega (arith, before) in
          get_or-set_other (without_each first n us) (2 * n + first) (2 * i + first) 1 0 apart ∙ get_or-without first n i us o (omega arith) before
    ]

-- the cells of a function at widths that mention one slot of each pair, under exchanged widths, mean the exchanged function
pub renamed_is : (f : Func) (s : Shape) (ws us vs to : List ℕ) (es : List ℤ) (n first : ℕ) → s ≡ f.shape → IsFrame f ws → first ≤ 1 → ((j : ℕ) → j < f.shape.variables → IsIndependentOf f (2 * j + first)) → us ≡ without_each first f.shape.variables ws → to ≡ us → vs ≡ exchange_each f.shape.variables us → n ≡ product to → n < 2 ^ 63 → es ≡ map (λ k. value_of f (point_at to k)) (range_with_len 0 n) → Means s vs es (exchange_of_slots f)
renamed_is f s ws us vs to es n first e own o free us_is d vs_is n_is fits es_is =
    let m = f.shape.variables in
    let F : List ℕ → Type 0 = λ l. IsFrame f l in
    let frame : IsFrame f us = subst F (sym us_is) (frame_without f ws first f.shape.variables own o (omega arith) free) in
    let long : length us ≡ length f.shape.sizes = Mentions-length us f.shape.sizes frame.mentions in
    let long_ws : length ws ≡ length f.shape.sizes = Mentions-length ws f.shape.sizes own.mentions in
    let enough : 2 * f.shape.variables ≤ length us = omega (arith, long, own.scope.paired) in
    let paired = paired_from f.shape.variables f.shape.sizes own.scope.paired own.scope.equal in
    let ones : (i : ℕ) → i < f.shape.variables → get_or us (2 * i + first) 0 ≡ 1 = λ i less. ap (λ l. get_or l (2 * i + first) 0) us_is ∙ get_or-without first f.shape.variables i ws o (omega (arith, long_ws, own.scope.paired)) less in
    let lone = lone_from f.shape.variables first us o enough ones in
    let all : vs ≡ exchange f.shape.variables us = vs_is ∙ exchange_each-all f.shape.variables us enough in
    let some = Mentions-pos us f.shape.sizes frame.mentions (scope_some f.shape own.scope) in
    let count : n ≡ product us = n_is ∙ ap product d in
    let cells : es ≡ map (λ k. value_of f (point_at us k)) (range_with_len 0 (product us)) = es_is ∙ ap (λ l. map (λ k. value_of f (point_at l k)) (range_with_len 0 n)) d ∙ ap (λ n. map (λ k. value_of f (point_at us k)) (range_with_len 0 n)) count in
    let whole : length es ≡ product (exchange f.shape.variables us) = ap length cells ∙ length-map-range_with_len (λ k. value_of f (point_at us k)) 0 (product us) ∙ sym (product-exchange f.shape.variables us) in
    let at : (x : List ℕ) → IsPoint f.shape.sizes x → cell_at (exchange f.shape.variables us) es x ≡ value_of f (exchange f.shape.variables x) = λ x p.
    ap (λ l. cell_at (exchange f.shape.variables us) l x) cells
    ∙ ap (λ k. get_or (map (λ k. value_of f (point_at us k)) (range_with_len 0 (product us))) k (pos 0)) (place-exchange f.shape.variables us x lone (long ∙ IsPoint-length f.shape.sizes x p))
    ∙ get_or-map-range_with_len (λ k. value_of f (point_at us k)) 0 (product us) (place us (exchange f.shape.variables x)) (place us (exchange f.shape.variables x)) (pos 0) (place-below us (exchange f.shape.variables x) some) (omega arith)
    ∙ frame.reads (exchange f.shape.variables x) (IsPoint-exchange f.shape.variables f.shape.sizes x paired p)
    in
    let P : List ℕ → Type 0 = λ l. Means s l es (exchange_of_slots f) in
    subst P (sym all)
    (means s f.shape (exchange f.shape.variables us) es (λ x. value_of f (exchange f.shape.variables x)) e own.scope (Mentions-exchange f.shape.variables us f.shape.sizes paired frame.mentions) whole (omega (arith, fits, count, product-exchange f.shape.variables us)) at)

-- a slice of a vector that was written in full
pub written_back : (new old : List ℕ) (n : ℕ) → n ≡ length new → take n (new ++ drop (length new) old) ≡ new
written_back new old n e = ap (λ k. take k (new ++ drop (length new) old)) e ∙ take-append_seam new (drop (length new) old)

pub length-exchange_each : (i : ℕ) (ws : List ℕ) → length (exchange_each i ws) ≡ length ws
length-exchange_each zero ws = refl
length-exchange_each (suc i) ws =
    length-set (set (exchange_each i ws) (2 * i) (get_or (exchange_each i ws) (2 * i + 1) 0)) (2 * i + 1) (get_or (exchange_each i ws) (2 * i) 0)
    ∙ length-set (exchange_each i ws) (2 * i) (get_or (exchange_each i ws) (2 * i + 1) 0)
    ∙ length-exchange_each i ws

-- widths after some were dropped, and after pairs were exchanged
pub dropped : (items slice new : List ℕ) (len first m n : ℕ) → len ≡ length items → slice ≡ items → new ≡ without_each first m slice → m ≡ n → take len (new ++ drop (length new) items) ≡ without_each first n items
dropped items slice new len first m n all same is e =
    written_back new items len (omega (arith, all, ap length is, length-without first m slice, ap length same))
    ∙ is ∙ ap (without_each first m) same ∙ ap (λ i. without_each first i items) e

pub exchanged_pairs : (items slice new : List ℕ) (len m n : ℕ) → len ≡ length items → slice ≡ items → new ≡ exchange_each m slice → m ≡ n → take len (new ++ drop (length new) items) ≡ exchange_each n items
exchanged_pairs items slice new len m n all same is e =
    written_back new items len (omega (arith, all, ap length is, length-exchange_each m slice, ap length same))
    ∙ is ∙ ap (exchange_each m) same ∙ ap (λ i. exchange_each i items) e

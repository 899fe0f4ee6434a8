use Rattle.std.proofs.Common.{◌≡◌, ℕ, zero, suc, ◌<◌, ◌+◌, ◌*◌, ◌%◌, ◌⊎◌, inl, inr, refl, sym, ◌∙◌, ap, arith, List, [], ◌∷◌, length, map, max, get_or, subst, take, ◌++◌, ◌^◌, set}
use Rattle.std.proofs.lemmas.List.{take_more, length-map, map-append}
use Rattle.std.proofs.Math.Nat.{mod-eq_of_lt}
use Rattle.std.proofs.lemmas.Nat.{mod_below}
use Rattle.sp_dd.proofs.ScopeLemmas.{AllSizes-get_or}
use Rattle.std.proofs.lemmas.List.{set-get_or}
use Rattle.std.specs.Prelude.{ℤ, pos, slice_set, replicate, ◌+ℤ◌, ◌*ℤ◌}
use Rattle.std.proofs.Common.{add-one}
use Rattle.sp_dd.specs.Floors.{sum_to, floored_mean, floor_div, ticks}
use Rattle.sp_dd.specs.Operations.{summed_out, weighed_out, restriction}
use Rattle.std.specs.List.{zip, range_with_len}
use Rattle.std.proofs.lemmas.List.FromFn.{get_or-map-range_with_len, map-range_with_len_more, length-map-range_with_len}
use Rattle.sp_dd.specs.Points.{product, place, point_at, IsPoint}
use Rattle.sp_dd.specs.Func.{Shape, Func, IsScope, IsFunc, function_of, value_of, IsPointOf, Everywhere, IsIndependentOf, size_of}
use Rattle.sp_dd.proofs.FuncLemmas.{value_of-function_of, same_function, scope_some, IsPoint-with, IsFunc-function_of}
use Rattle.sp_dd.proofs.PointLemmas.{place-below, place-point_at, point_at_is, parts_pos}
use Rattle.sp_dd.proofs.IndependenceLemmas.{point-below}
use Rattle.sp_table.specs.Cells.{cell_at, meaning, IsTable}
use Rattle.sp_table.specs.Widths.{AreWidthsOf, AreWidths, IgnoresUnmentioned, IsFrame, IsJoin, IsSlotFrame}
use Rattle.sp_table.proofs.PlaceLemmas.{Mentions-length, Mentions-pos, Mentions-refl, IsPoint-length, IsPoint-within, place-kept, MentionsBut, MentionsBut-set, Mentions-set, place-kept_but}

-- what a table's fields say of its function
pub record Holds (ws : List ℕ) (cs : List ℤ) (f : Func) : Type 0 where
  pub table : IsTable f.shape ws cs
  pub some : 0 < product ws
  pub value : (x : List ℕ) → IsPointOf f x → cell_at ws cs x ≡ value_of f x
  pub determined : IsFunc f

pub holds : (s : Shape) (ws : List ℕ) (cs : List ℤ) (f : Func) → IsTable s ws cs → meaning s ws cs ≡ f → Holds ws cs f
holds s ws cs f h e =
    let some = scope_some s h.scope in
    let P : Func → Type 0 = λ g. Holds ws cs g in
    subst P e
    (record {
      table = h;
      some = Mentions-pos ws s.sizes h.mentions some;
      value = λ x p. sym (value_of-function_of s (cell_at ws cs) x some p);
      determined = IsFunc-function_of s (cell_at ws cs) h.scope;
    })

-- the scope of a table is its function's
pub scope_is : (s : Shape) (ws : List ℕ) (cs : List ℤ) (f : Func) → meaning s ws cs ≡ f → s ≡ f.shape
scope_is s ws cs f e = ap (λ (g : Func). g.shape) e

-- a point of some widths is a point of the scope
pub point_within : (s : Shape) (us : List ℕ) (k : ℕ) → IsScope s → AreWidthsOf us s.sizes → IsPoint s.sizes (point_at us k)
point_within s us k h m =
    let some = scope_some s h in
    IsPoint-within us s.sizes _ m some (point_at_is us k (Mentions-pos us s.sizes m some))

-- widths have a point
pub widths_some : (s : Shape) (us : List ℕ) → AreWidths s us → 0 < product us
widths_some s us h = Mentions-pos us s.sizes h.mentions (scope_some s h.scope)

-- a function reads its own widths
pub reads_own : (ws : List ℕ) (cs : List ℤ) (f : Func) → Holds ws cs f → IgnoresUnmentioned ws f
reads_own ws cs f h x p =
    let point = point_within f.shape ws (place ws x) h.table.scope h.table.mentions in
    let kept = place-kept ws ws x (Mentions-refl ws) h.some (Mentions-length ws f.shape.sizes h.table.mentions ∙ IsPoint-length f.shape.sizes x p) in
    sym (h.value _ point) ∙ ap (λ n. get_or cs n (pos 0)) kept ∙ h.value x p

-- it reads more widths
pub reads_more : (f : Func) (us vs : List ℕ) → IsScope f.shape → AreWidthsOf us vs → AreWidthsOf vs f.shape.sizes → IgnoresUnmentioned us f → IgnoresUnmentioned vs f
reads_more f us vs scope m n reads x p =
    let point = point_within f.shape vs (place vs x) scope n in
    let some = Mentions-pos vs f.shape.sizes n (scope_some f.shape scope) in
    let kept = place-kept us vs x m some (Mentions-length vs f.shape.sizes n ∙ IsPoint-length f.shape.sizes x p) in
    sym (reads _ point) ∙ ap (λ k. value_of f (point_at us k)) kept ∙ reads x p

-- with a value in one slot, it reads that slot from nowhere else
pub reads_set : (f : Func) (us vs : List ℕ) (slot v : ℕ) (x : List ℕ) → IsScope f.shape → IgnoresUnmentioned us f → MentionsBut slot us vs → AreWidthsOf vs f.shape.sizes → IsPointOf f x → v < size_of f.shape slot → value_of f (slice_set (point_at vs (place vs x)) slot v) ≡ value_of f (slice_set x slot v)
reads_set f us vs slot v x scope reads m n p less =
    let some = Mentions-pos vs f.shape.sizes n (scope_some f.shape scope) in
    let there : IsPointOf f (slice_set (point_at vs (place vs x)) slot v) = IsPoint-with f.shape.sizes _ slot v (point_within f.shape vs (place vs x) scope n) less in
    let here : IsPointOf f (slice_set x slot v) = IsPoint-with f.shape.sizes x slot v p less in
    let kept = place-kept_but us vs x slot v m some (Mentions-length vs f.shape.sizes n ∙ IsPoint-length f.shape.sizes x p) in
    sym (reads _ there) ∙ ap (λ k. value_of f (point_at us k)) kept ∙ reads _ here

-- a slot on which it doesn't depend need not be mentioned
pub reads_less : (f : Func) (us : List ℕ) (slot : ℕ) → IsScope f.shape → slot < length f.shape.sizes → IgnoresUnmentioned us f → AreWidthsOf us f.shape.sizes → IsIndependentOf f slot → IgnoresUnmentioned (slice_set us slot 1) f
reads_less f us slot scope within reads n free x p =
    let vs = slice_set us slot 1 in
    let m : AreWidthsOf (slice_set us slot 1) f.shape.sizes = Mentions-set us f.shape.sizes slot n in
    let less : get_or x slot 0 < size_of f.shape slot = point-below f.shape.sizes x slot p within in
    let point = point_within f.shape (slice_set us slot 1) (place (slice_set us slot 1) x) scope m in
    let moved = reads_set f us (slice_set us slot 1) slot (get_or x slot 0) x scope reads (MentionsBut-set us us slot 1 (Mentions-refl us)) m p less in
    sym (free _ (get_or x slot 0) point less) ∙ moved ∙ ap (value_of f) (set-get_or x slot 0)

-- the table is whole, and it means f
pub record Means (s : Shape) (ws : List ℕ) (cs : List ℤ) (f : Func) : Type 0 where
  pub table : IsTable s ws cs
  pub is : meaning s ws cs ≡ f

-- cells that mean a function at each point
pub means : (s r : Shape) (us : List ℕ) (es : List ℤ) (g : List ℕ → ℤ) → s ≡ r → IsScope r → AreWidthsOf us r.sizes → length es ≡ product us → product us < 2 ^ 63 → ((x : List ℕ) → IsPoint r.sizes x → cell_at us es x ≡ g x) → Means s us es (function_of r g)
means s r us es g e scope m whole fits at =
    let P : Shape → Type 0 = λ t. Means t us es (function_of r g) in
    subst P (sym e)
    (record {
      table = record { scope = scope; mentions = m; whole = whole; fits = fits };
      is = same_function r _ _ (scope_some r scope) at;
    })

-- cells that were made at each point of some widths
pub made : (s r : Shape) (us : List ℕ) (es : List ℤ) (h g : List ℕ → ℤ) (n : ℕ) → s ≡ r → IsScope r → AreWidthsOf us r.sizes → n ≡ product us → n < 2 ^ 63 → es ≡ map (λ k. h (point_at us k)) (range_with_len 0 n) → ((x : List ℕ) → IsPoint r.sizes x → h (point_at us (place us x)) ≡ g x) → Means s us es (function_of r g)
made s r us es h g n e scope m n_is fits es_is at =
    let some = Mentions-pos us r.sizes m (scope_some r scope) in
    let cells : es ≡ map (λ k. h (point_at us k)) (range_with_len 0 (product us)) = es_is ∙ ap (λ n. map (λ k. h (point_at us k)) (range_with_len 0 n)) n_is in
    let whole : length es ≡ product us = ap length cells ∙ length-map-range_with_len (λ k. h (point_at us k)) 0 (product us) in
    means s r us es g e scope m whole (omega (arith, n_is, fits))
    (λ x p.
    ap (λ l. cell_at us l x) cells
    ∙ get_or-map-range_with_len (λ k. h (point_at us k)) 0 (product us) (place us x) (place us x) (pos 0) (place-below us x some) (omega arith)
    ∙ at x p)

-- one more cell
pub made_more : (f : ℕ → ℤ) (old new : List ℤ) (k : ℕ) (v : ℤ) → old ≡ map f (range_with_len 0 k) → new ≡ old ++ v ∷ [] → v ≡ f k → new ≡ map f (range_with_len 0 (k + 1))
made_more f old new k v before after value = after ∙ ap (λ l. l ++ v ∷ []) before ∙ ap (λ w. map f (range_with_len 0 k) ++ w ∷ []) value ∙ sym (map-range_with_len_more f 0 k k (omega arith))

-- equal numbers combine to the same
pub op_same : (op : ℤ → ℤ → ℤ) (a a2 b b2 : ℤ) → a ≡ a2 → b ≡ b2 → op a b ≡ op a2 b2
op_same op a a2 b b2 e d = ap (λ x. op x b) e ∙ ap (op a2) d

-- a function's own widths are a frame
pub frame_own : (ws us : List ℕ) (cs : List ℤ) (f : Func) → Holds ws cs f → us ≡ ws → IsFrame f us
frame_own ws us cs f h e =
    let P : List ℕ → Type 0 = λ l. IsFrame f l in
    subst P (sym e) (record { scope = h.table.scope; mentions = h.table.mentions; reads = reads_own ws cs f h })

-- the greater of each two widths
abbrev pub joined_widths : List ℕ → List ℕ → List ℕ
joined_widths ws vs = map (λ (p : ℕ × ℕ). max p.0 p.1) (zip ws vs)

join_each : (w v s : ℕ) → 0 < s → w ≡ 1 ⊎ w ≡ s → v ≡ 1 ⊎ v ≡ s → (max w v ≡ 1 ⊎ max w v ≡ s) × (w ≡ 1 ⊎ w ≡ max w v) × (v ≡ 1 ⊎ v ≡ max w v)
join_each w v s h (inl e) (inl d) = (inl (omega arith), inl e, inl d)
join_each w v s h (inl e) (inr d) = (inr (omega arith), inl e, inr (omega arith))
join_each w v s h (inr e) (inl d) = (inr (omega arith), inr (omega arith), inl d)
join_each w v s h (inr e) (inr d) = (inr (omega arith), inr (omega arith), inr (omega arith))

-- widths that are joined from two
pub record Joins (ws vs us ss : List ℕ) : Type 0 where
  pub scope : AreWidthsOf us ss
  pub left : AreWidthsOf ws us
  pub right : AreWidthsOf vs us

pub Joins-joined : (ws vs ss : List ℕ) → 0 < product ss → AreWidthsOf ws ss → AreWidthsOf vs ss → Joins ws vs (joined_widths ws vs) ss
Joins-joined [] [] [] h m n = record { scope = tt; left = tt; right = tt }
Joins-joined [] vs (s ∷ ss) h m n = absurd m
Joins-joined (w ∷ ws) vs [] h m n = absurd m
Joins-joined [] (v ∷ vs) [] h m n = absurd n
Joins-joined (w ∷ ws) [] (s ∷ ss) h m n = absurd n
Joins-joined (w ∷ ws) (v ∷ vs) (s ∷ ss) h m n =
    let parts = parts_pos s (product ss) h in
    let head = join_each w v s parts.0 m.0 n.0 in
    let rest = Joins-joined ws vs ss parts.1 m.1 n.1 in
    record { scope = (head.0, rest.scope); left = (head.1, rest.left); right = (head.2, rest.right) }

-- joined widths mention what a function reads
pub frame_joined : (ws vs us gs : List ℕ) (cs : List ℤ) (f : Func) → Holds vs cs f → AreWidthsOf ws f.shape.sizes → gs ≡ vs → us ≡ joined_widths ws gs → IsJoin f ws us
frame_joined ws vs us gs cs f h m d e =
    let joins = Joins-joined ws vs f.shape.sizes (scope_some f.shape h.table.scope) m h.table.mentions in
    let P : List ℕ → Type 0 = λ l. IsJoin f ws l in
    subst P (sym (e ∙ ap (joined_widths ws) d))
    (record {
      frame = record {
        scope = h.table.scope;
        mentions = joins.scope;
        reads = reads_more f vs (joined_widths ws vs) h.table.scope joins.right joins.scope (reads_own vs cs f h);
      };
      grown = joins.left;
    })

-- widths of 1 mention no slot
pub Mentions-ones : (ss : List ℕ) → AreWidthsOf (replicate (length ss) 1) ss
Mentions-ones [] = tt
Mentions-ones (s ∷ ss) = (inl refl, Mentions-ones ss)

pub product-ones : (n : ℕ) → product (replicate n 1) ≡ 1
product-ones zero = refl
product-ones (suc n) = omega (arith, product-ones n)

pub place-ones : (n : ℕ) (x : List ℕ) → place (replicate n 1) x ≡ 0
place-ones n x = let h : 0 < product (replicate n 1) = omega (arith, product-ones n) in omega (arith, place-below (replicate n 1) x h, product-ones n)

-- a table of one cell
pub one_cell : (s : Shape) (ws : List ℕ) (cs : List ℤ) (n : ℕ) (v : ℤ) → IsScope s → n ≡ length s.sizes → ws ≡ replicate n 1 → cs ≡ v ∷ [] → Means s ws cs (function_of s (λ x. v))
one_cell s ws cs n v h len widths_are cells_are =
    let ones : ws ≡ replicate (length s.sizes) 1 = widths_are ∙ ap (λ k. replicate k 1) len in
    rw (ones, cells_are)
    (means s s (replicate (length s.sizes) 1) (v ∷ []) (λ x. v) refl h (Mentions-ones s.sizes) (sym (product-ones (length s.sizes))) (omega (arith, product-ones (length s.sizes)))
    (λ x p. ap (λ k. get_or (v ∷ []) k (pos 0)) (place-ones (length s.sizes) x)))

-- what holds of each value holds of that at a point of some widths
pub small_at : (P : ℤ → Type 0) (f : Func) (us : List ℕ) (k : ℕ) (v : ℤ) → AreWidths f.shape us → Everywhere f P → v ≡ value_of f (point_at us k) → P v
small_at P f us k v h all e = subst P (sym e) (all _ (point_within f.shape us k h.scope h.mentions))

-- with another value in one slot
pub small_with : (P : ℤ → Type 0) (f : Func) (us : List ℕ) (k slot u : ℕ) (v : ℤ) → AreWidths f.shape us → u < size_of f.shape slot → Everywhere f P → v ≡ value_of f (slice_set (point_at us k) slot u) → P v
small_with P f us k slot u v h less all e = subst P (sym e) (all _ (IsPoint-with f.shape.sizes _ slot u (point_within f.shape us k h.scope h.mentions) less))

-- one more cell of a list that is mapped
pub mapped_more : (h : ℤ → ℤ) (cells old new : List ℤ) (i : ℕ) (v : ℤ) → i < length cells → old ≡ map h (take i cells) → new ≡ old ++ v ∷ [] → v ≡ h (get_or cells i (pos 0)) → new ≡ map h (take (i + 1) cells)
mapped_more h cells old new i v less before after value =
    let next : map h (take (i + 1) cells) ≡ map h (take i cells) ++ h (get_or cells i (pos 0)) ∷ [] = ap (map h) (take_more cells i (pos 0) less) ∙ map-append h (take i cells) _ in
    after ∙ ap (λ l. l ++ v ∷ []) before ∙ ap (λ w. map h (take i cells) ++ w ∷ []) value ∙ sym next

-- a cell of a list that is mapped
pub get_or-mapped : (h : ℤ → ℤ) (cells : List ℤ) (i : ℕ) → i < length cells → get_or (map h cells) i (pos 0) ≡ h (get_or cells i (pos 0))
get_or-mapped h [] i less = absurd (omega arith)
get_or-mapped h (c ∷ cells) zero less = refl
get_or-mapped h (c ∷ cells) (suc i) less = get_or-mapped h cells i (omega arith)

-- the cells of a function, each changed in the same way, mean that function changed so
pub mapped : (h : ℤ → ℤ) (s : Shape) (ws us : List ℕ) (cs es : List ℤ) (f : Func) → IsTable s ws cs → meaning s ws cs ≡ f → us ≡ ws → es ≡ map h cs → Means s us es (function_of f.shape (λ x. h (value_of f x)))
mapped h s ws us cs es f table is e d =
    let held = holds s ws cs f table is in
    let whole : length (map h cs) ≡ product ws = length-map cs h ∙ table.whole in
    rw (e, d)
    (means s f.shape ws (map h cs) (λ x. h (value_of f x)) (scope_is s ws cs f is) held.table.scope held.table.mentions whole table.fits
    (λ x p. get_or-mapped h cs (place ws x) (omega (arith, place-below ws x held.some, table.whole)) ∙ ap h (held.value x p)))

-- what holds of each value of a function holds of each cell
pub all_cells : (P : ℤ → Type 0) (s : Shape) (ws : List ℕ) (cs : List ℤ) (f : Func) (k : ℕ) → IsTable s ws cs → meaning s ws cs ≡ f → Everywhere f P → k < length cs → P (get_or cs k (pos 0))
all_cells P s ws cs f k table is all less =
    let held = holds s ws cs f table is in
    let point = point_within f.shape ws k held.table.scope held.table.mentions in
    let here : place ws (point_at ws k) ≡ k = place-point_at ws k held.some ∙ mod-eq_of_lt (omega (arith, less, table.whole)) in
    subst P (sym (held.value _ point) ∙ ap (λ n. get_or cs n (pos 0)) here) (all _ point)

-- a point of two functions of one scope
pub point_too : (f g : Func) (x : List ℕ) → f.shape ≡ g.shape → IsPointOf f x → IsPointOf g x
point_too f g x e p = let P : Shape → Type 0 = λ s. IsPoint s.sizes x in subst P e p

-- a frame with few enough points
pub are_widths : (f : Func) (us to : List ℕ) (n : ℕ) → IsFrame f us → to ≡ us → n ≡ product to → n < 2 ^ 63 → AreWidths f.shape to
are_widths f us to n frame e n_is fits =
    let P : List ℕ → Type 0 = λ l. AreWidths f.shape l in
    subst P (sym e) (record { scope = frame.scope; mentions = frame.mentions; fits = omega (arith, n_is, fits, ap product e) })

-- cells that were made of a frame's points mean the same at each point
pub framed : (h g : List ℕ → ℤ) (f : Func) (s : Shape) (us to : List ℕ) (es : List ℤ) (n : ℕ) → s ≡ f.shape → IsScope f.shape → AreWidthsOf us f.shape.sizes → to ≡ us → n ≡ product to → n < 2 ^ 63 → es ≡ map (λ k. h (point_at to k)) (range_with_len 0 n) → ((x : List ℕ) → IsPointOf f x → h (point_at us (place us x)) ≡ g x) → Means s us es (function_of f.shape g)
framed h g f s us to es n e scope m d n_is fits es_is at =
    made s f.shape us es h g n e scope m (n_is ∙ ap product d) fits (es_is ∙ ap (λ l. map (λ k. h (point_at l k)) (range_with_len 0 n)) d) at

-- two functions combined at each point of a frame
pub combined : (op : ℤ → ℤ → ℤ) (f g : Func) (s : Shape) (us to : List ℕ) (es : List ℤ) (n : ℕ) → s ≡ f.shape → f.shape ≡ g.shape → IsFrame f us → IsFrame g us → to ≡ us → n ≡ product to → n < 2 ^ 63 → es ≡ map (λ k. op (value_of f (point_at to k)) (value_of g (point_at to k))) (range_with_len 0 n) → Means s us es (function_of f.shape (λ x. op (value_of f x) (value_of g x)))
combined op f g s us to es n e shapes left right d n_is fits es_is =
    framed (λ x. op (value_of f x) (value_of g x)) (λ x. op (value_of f x) (value_of g x)) f s us to es n e left.scope left.mentions d n_is fits es_is
    (λ x p. op_same op _ _ _ _ (left.reads x p) (right.reads x (point_too f g x shapes p)))

-- widths of one slot
pub Mentions-one : (ss : List ℕ) (slot : ℕ) → AreWidthsOf (set (replicate (length ss) 1) slot (get_or ss slot 0)) ss
Mentions-one [] slot = tt
Mentions-one (s ∷ ss) zero = (inr refl, Mentions-ones ss)
Mentions-one (s ∷ ss) (suc i) = (inl refl, Mentions-one ss i)

pub product-one : (n slot v : ℕ) → slot < n → product (set (replicate n 1) slot v) ≡ v
product-one zero slot v h = absurd (omega arith)
product-one (suc n) zero v h = omega (arith, ap (λ t. v * t) (product-ones n))
product-one (suc n) (suc i) v h = omega (arith, product-one n i v (omega arith))

pub place-one : (ss x : List ℕ) (slot : ℕ) → slot < length ss → IsPoint ss x → place (set (replicate (length ss) 1) slot (get_or ss slot 0)) x ≡ get_or x slot 0
place-one [] x slot h p = absurd (omega arith)
place-one (s ∷ ss) [] slot h p = absurd p
place-one (s ∷ ss) (y ∷ ys) zero h p =
    let head = ap (λ t. t * product (replicate (length ss) 1)) (mod-eq_of_lt p.0) in
    let unit = ap (λ t. y * t) (product-ones (length ss)) in
    omega (arith, head, unit, place-ones (length ss) ys)
place-one (s ∷ ss) (y ∷ ys) (suc i) h p =
    let none : y % 1 ≡ 0 = omega (arith, mod_below y 1 (omega arith)) in
    let head = ap (λ t. t * product (set (replicate (length ss) 1) i (get_or ss i 0))) none in
    omega (arith, head, place-one ss ys i (omega arith) p.1)

-- a table of one leaf for each value of a slot
pub by_leaf : (s : Shape) (ws us : List ℕ) (cs leaves : List ℤ) (n slot v : ℕ) → IsScope s → n ≡ length s.sizes → slot < length s.sizes → ws ≡ replicate n 1 → v ≡ get_or s.sizes slot 0 → us ≡ set ws slot v → cs ≡ leaves → length leaves ≡ get_or s.sizes slot 0 → Means s us cs (function_of s (λ x. get_or leaves (get_or x slot 0) (pos 0)))
by_leaf s ws us cs leaves n slot v h len within widths_are v_is set_is cells_are long =
    let one : us ≡ set (replicate (length s.sizes) 1) slot (get_or s.sizes slot 0) = set_is ∙ ap (λ l. set l slot v) (widths_are ∙ ap (λ k. replicate k 1) len) ∙ ap (set (replicate (length s.sizes) 1) slot) v_is in
    let whole = product-one (length s.sizes) slot (get_or s.sizes slot 0) within in
    let most = AllSizes-get_or s.sizes slot h.each in
    rw (one, cells_are)
    (means s s (set (replicate (length s.sizes) 1) slot (get_or s.sizes slot 0)) leaves (λ x. get_or leaves (get_or x slot 0) (pos 0)) refl h (Mentions-one s.sizes slot) (long ∙ sym whole) (omega (arith, whole, most))
    (λ x p. ap (λ k. get_or leaves k (pos 0)) (place-one s.sizes x slot within p)))

-- widths that another function's were joined to
pub frame_grown : (f g : Func) (us ks vs : List ℕ) → f.shape ≡ g.shape → IsFrame f us → ks ≡ us → IsJoin g ks vs → IsFrame f vs
frame_grown f g us ks vs shapes frame e join =
    let P : Shape → Type 0 = λ s. AreWidthsOf vs s.sizes in
    let Q : List ℕ → Type 0 = λ l. AreWidthsOf l vs in
    let m : AreWidthsOf vs f.shape.sizes = subst P (sym shapes) join.frame.mentions in
    record { scope = frame.scope; mentions = m; reads = reads_more f us vs frame.scope (subst Q e join.grown) m frame.reads }

-- a frame of one function fits the scope of another
pub mentions_too : (f g : Func) (us ks : List ℕ) → f.shape ≡ g.shape → IsFrame f us → ks ≡ us → AreWidthsOf ks g.shape.sizes
mentions_too f g us ks shapes frame e =
    let P : Shape → Type 0 = λ s. AreWidthsOf ks s.sizes in
    let Q : List ℕ → Type 0 = λ l. AreWidthsOf l f.shape.sizes in
    subst P shapes (subst Q (sym e) frame.mentions)

-- a frame without one slot
pub slot_frame : (f : Func) (us vs : List ℕ) (slot : ℕ) → IsFrame f us → vs ≡ set us slot 1 → IsSlotFrame f slot vs
slot_frame f us vs slot frame e =
    let m : AreWidthsOf (set us slot 1) f.shape.sizes = Mentions-set us f.shape.sizes slot frame.mentions in
    let P : List ℕ → Type 0 = λ l. IsSlotFrame f slot l in
    subst P (sym e)
    (record {
      scope = frame.scope;
      mentions = m;
      reads = λ x p v less. reads_set f us (set us slot 1) slot v x frame.scope frame.reads (MentionsBut-set us us slot 1 (Mentions-refl us)) m p less;
    })

-- a slot of the scope is one of the widths
pub slot_in : (f : Func) (us : List ℕ) (slot : ℕ) → IsFrame f us → slot < length f.shape.sizes → slot < length us
slot_in f us slot frame h = omega (arith, h, Mentions-length us f.shape.sizes frame.mentions)

-- a frame without a slot, with few enough points
pub are_slot_widths : (f : Func) (slot : ℕ) (us to : List ℕ) (n : ℕ) → IsSlotFrame f slot us → to ≡ us → n ≡ product to → n < 2 ^ 63 → AreWidths f.shape to
are_slot_widths f slot us to n frame e n_is fits =
    let P : List ℕ → Type 0 = λ l. AreWidths f.shape l in
    subst P (sym e) (record { scope = frame.scope; mentions = frame.mentions; fits = omega (arith, n_is, fits, ap product e) })

-- one more term of a sum
pub sum_to_more : (n : ℕ) (f : ℕ → ℤ) → sum_to (n + 1) f ≡ sum_to n f +ℤ f n
sum_to_more n f = rw add-one refl

-- sums of equal terms
pub sum_to-same : (n : ℕ) (f g : ℕ → ℤ) → ((v : ℕ) → v < n → f v ≡ g v) → sum_to n f ≡ sum_to n g
sum_to-same zero f g h = refl
sum_to-same (suc n) f g h = op_same (λ a b. a +ℤ b) _ _ _ _ (sum_to-same n f g (λ v k. h v (omega arith))) (h n (omega arith))

-- a sum over a slot's values at each point of a frame without it
pub slot_summed : (f : Func) (s : Shape) (slot size : ℕ) (us to : List ℕ) (es : List ℤ) (n : ℕ) → s ≡ f.shape → IsSlotFrame f slot us → size ≡ size_of f.shape slot → to ≡ us → n ≡ product to → n < 2 ^ 63 → es ≡ map (λ k. sum_to size (λ v. value_of f (slice_set (point_at to k) slot v))) (range_with_len 0 n) → Means s us es (summed_out f slot)
slot_summed f s slot size us to es n e frame size_is d n_is fits es_is =
    framed (λ x. sum_to size (λ v. value_of f (slice_set x slot v))) (λ x. sum_to (size_of f.shape slot) (λ v. value_of f (slice_set x slot v))) f s us to es n e frame.scope frame.mentions d n_is fits es_is
    (λ x p.
    sum_to-same size _ _ (λ v b. frame.reads x p v (omega (arith, b, size_is)))
    ∙ ap (λ m. sum_to m (λ v. value_of f (slice_set x slot v))) size_is)

-- a weighed mean over a slot's values at each point of a frame without it
pub slot_weighed : (f g : Func) (s : Shape) (slot size : ℕ) (us to : List ℕ) (es : List ℤ) (n : ℕ) → s ≡ f.shape → f.shape ≡ g.shape → IsSlotFrame f slot us → IsSlotFrame g slot us → size ≡ size_of f.shape slot → to ≡ us → n ≡ product to → n < 2 ^ 63 → es ≡ map (λ k. floored_mean ticks size (λ v. value_of g (slice_set (point_at to k) slot v)) (λ v. value_of f (slice_set (point_at to k) slot v))) (range_with_len 0 n) → Means s us es (weighed_out f slot g)
slot_weighed f g s slot size us to es n e shapes left right size_is d n_is fits es_is =
    framed (λ x. floored_mean ticks size (λ v. value_of g (slice_set x slot v)) (λ v. value_of f (slice_set x slot v))) (λ x. floored_mean ticks (size_of f.shape slot) (λ v. value_of g (slice_set x slot v)) (λ v. value_of f (slice_set x slot v))) f s us to es n e left.scope left.mentions d n_is fits es_is
    (λ x p.
    ap (λ z. floor_div z ticks) (sum_to-same size _ _ (λ v b.
    op_same (λ a b. a *ℤ b) _ _ _ _
    (right.reads x (point_too f g x shapes p) v (omega (arith, b, size_is, ap (λ (t : Shape). size_of t slot) shapes)))
    (left.reads x p v (omega (arith, b, size_is)))))
    ∙ ap (λ m. floored_mean ticks m (λ v. value_of g (slice_set x slot v)) (λ v. value_of f (slice_set x slot v))) size_is)

-- the value with one slot at a value, at each point of a frame without it
pub slot_restricted : (f : Func) (s : Shape) (slot value : ℕ) (us to : List ℕ) (es : List ℤ) (n : ℕ) → s ≡ f.shape → IsSlotFrame f slot us → value < size_of f.shape slot → to ≡ us → n ≡ product to → n < 2 ^ 63 → es ≡ map (λ k. value_of f (slice_set (point_at to k) slot value)) (range_with_len 0 n) → Means s us es (restriction f slot value)
slot_restricted f s slot value us to es n e frame less d n_is fits es_is =
    framed (λ x. value_of f (slice_set x slot value)) (λ x. value_of f (slice_set x slot value)) f s us to es n e frame.scope frame.mentions d n_is fits es_is
    (λ x p. frame.reads x p value less)

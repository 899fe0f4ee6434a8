use Rattle.std.proofs.Common.{◌≡◌, ℕ, zero, suc, ◌<◌, ◌≤◌, ◌+◌, ◌%◌, ◌^◌, inr, refl, sym, ◌∙◌, ap, arith, List, [], ◌∷◌, length, map, get_or, set, subst, below_more}
use Rattle.std.specs.Prelude.{ℤ, pos, All, replicate}
use Rattle.std.specs.List.{range_with_len}
use Rattle.std.proofs.lemmas.List.{get_or_default}
use Rattle.std.proofs.lemmas.List.Elements.{All-get_or}
use Rattle.std.proofs.lemmas.Nat.{mod_below, div-mul-add}
use Rattle.std.proofs.lemmas.List.{get_or-set_same}
use Rattle.std.proofs.Math.Nat.{mod-eq_of_lt}
use Rattle.sp_dd.specs.Points.{product, place, point_at, IsPoint}
use Rattle.sp_dd.specs.Func.{Shape, Func, IsScope, value_of, IsPointOf, size_of}
use Rattle.sp_dd.specs.Operations.{everywhere, part_chosen}
use Rattle.sp_dd.proofs.FuncLemmas.{scope_some}
use Rattle.sp_dd.proofs.PointLemmas.{parts_pos, place-below, point_at-turn}
use Rattle.sp_dd.proofs.IndependenceLemmas.{point-below}
use Rattle.sp_table.specs.Widths.{AreWidthsOf, AreWidths, IgnoresUnmentioned, IsJoin, IsPartFrame, ArePartWidths, part_of}
use Rattle.sp_table.proofs.PlaceLemmas.{Mentions-length, Mentions-pos, Mentions-refl, IsPoint-length}
use Rattle.sp_table.proofs.FrameLemmas.{Means, made, reads_more, Mentions-ones}

-- widths of 1 fit any scope
pub mentions_ones : (ss us : List ℕ) (n : ℕ) → us ≡ replicate n 1 → n ≡ length ss → AreWidthsOf us ss
mentions_ones ss us n e long = let P : List ℕ → Type 0 = λ l. AreWidthsOf l ss in subst P (sym (e ∙ ap (λ k. replicate k 1) long)) (Mentions-ones ss)

-- a part has the scope
pub part_shape : (s : Shape) (parts : List Func) (j : ℕ) → All (λ (p : Func). p.shape ≡ s) parts → j < length parts → (part_of s parts j).shape ≡ s
part_shape s parts j all less = All-get_or (λ (p : Func). p.shape ≡ s) parts j (everywhere s (pos 0)) less all

-- the part at a place
pub part_is : (s : Shape) (parts : List Func) (j : ℕ) (part : Func) → j < length parts → part ≡ get_or parts j part → part ≡ part_of s parts j
part_is s parts j part less e = e ∙ get_or_default parts j part (everywhere s (pos 0)) less

-- widths that are joined with those of one more part
pub record ReadsParts (s : Shape) (parts : List Func) (n : ℕ) (us : List ℕ) : Type 0 where
  pub mentions : AreWidthsOf us s.sizes
  pub reads : (j : ℕ) → j < n → IgnoresUnmentioned us (part_of s parts j)

reads_grown : (s : Shape) (f : Func) (old new : List ℕ) → IsScope s → f.shape ≡ s → AreWidthsOf old new → AreWidthsOf new s.sizes → IgnoresUnmentioned old f → IgnoresUnmentioned new f
reads_grown s f old new h e m n reads =
    let P : Shape → Type 0 = λ t. AreWidthsOf new t.sizes in
    let Q : Shape → Type 0 = λ t. IsScope t in
    reads_more f old new (subst Q (sym e) h) m (subst P (sym e) n) reads

pub parts_more : (s : Shape) (parts : List Func) (i : ℕ) (part : Func) (old ks new : List ℕ) → IsScope s → All (λ (p : Func). p.shape ≡ s) parts → i < length parts → part ≡ get_or parts i part → ReadsParts s parts i old → ks ≡ old → IsJoin part ks new → ReadsParts s parts (i + 1) new
parts_more s parts i part old ks new h all less e before same join =
    let is = part_is s parts i part less e in
    let shape : part.shape ≡ s = ap (λ (f : Func). f.shape) is ∙ part_shape s parts i all less in
    let P : Shape → Type 0 = λ t. AreWidthsOf new t.sizes in
    let Q : List ℕ → Type 0 = λ l. AreWidthsOf l new in
    let R : Func → Type 0 = λ f. IgnoresUnmentioned new f in
    let m : AreWidthsOf new s.sizes = subst P shape join.frame.mentions in
    let grown : AreWidthsOf old new = subst Q same join.grown in
    record {
      mentions = m;
      reads = below_more _ _ (λ j b. reads_grown s (part_of s parts j) old new h (part_shape s parts j all (omega arith)) grown m (before.reads j b)) (subst R is join.frame.reads);
    }

-- one slot mentioned in full
pub Mentions-full : (us ss : List ℕ) (slot : ℕ) → AreWidthsOf us ss → AreWidthsOf (set us slot (get_or ss slot 0)) ss
Mentions-full [] [] slot m = tt
Mentions-full [] (s ∷ ss) slot m = absurd m
Mentions-full (u ∷ us) [] slot m = absurd m
Mentions-full (u ∷ us) (s ∷ ss) zero m = (inr refl, m.1)
Mentions-full (u ∷ us) (s ∷ ss) (suc i) m = (m.0, Mentions-full us ss i m.1)

pub Mentions-grown : (us ss : List ℕ) (slot : ℕ) → AreWidthsOf us ss → AreWidthsOf us (set us slot (get_or ss slot 0))
Mentions-grown [] [] slot m = tt
Mentions-grown [] (s ∷ ss) slot m = absurd m
Mentions-grown (u ∷ us) [] slot m = absurd m
Mentions-grown (u ∷ us) (s ∷ ss) zero m = (m.0, Mentions-refl us)
Mentions-grown (u ∷ us) (s ∷ ss) (suc i) m = (inr refl, Mentions-grown us ss i m.1)

pub part_frame : (s : Shape) (parts : List Func) (slot : ℕ) (us : List ℕ) (n v : ℕ) → IsScope s → All (λ (p : Func). p.shape ≡ s) parts → slot < length s.sizes → length parts ≤ n → ReadsParts s parts n us → v ≡ size_of s slot → IsPartFrame s slot parts (set us slot v)
part_frame s parts slot us n v h all within enough before e =
    let full : AreWidthsOf (set us slot (size_of s slot)) s.sizes = Mentions-full us s.sizes slot before.mentions in
    let grown : AreWidthsOf us (set us slot (size_of s slot)) = Mentions-grown us s.sizes slot before.mentions in
    let long : slot < length us = omega (arith, within, Mentions-length us s.sizes before.mentions) in
    let P : ℕ → Type 0 = λ w. IsPartFrame s slot parts (set us slot w) in
    subst P (sym e)
    (record {
      scope = h;
      mentions = full;
      full = get_or-set_same us slot (size_of s slot) 0 long;
      reads = λ j b. reads_grown s (part_of s parts j) us (set us slot (size_of s slot)) h (part_shape s parts j all b) grown full (before.reads j (omega arith));
    })

pub part_widths_from : (s : Shape) (parts : List Func) (slot : ℕ) (us to : List ℕ) (n : ℕ) → IsPartFrame s slot parts us → All (λ (p : Func). p.shape ≡ s) parts → slot < length s.sizes → length parts ≡ size_of s slot → to ≡ us → n ≡ product to → n < 2 ^ 63 → ArePartWidths s slot parts to
part_widths_from s parts slot us to n frame all within enough e n_is fits =
    let P : List ℕ → Type 0 = λ l. ArePartWidths s slot parts l in
    subst P (sym e)
    (record {
      widths_of = record { scope = frame.scope; mentions = frame.mentions; fits = omega (arith, n_is, fits, ap product e) };
      within = omega (arith, within, Mentions-length us s.sizes frame.mentions);
      full = frame.full ∙ sym enough;
      scopes = λ j b. part_shape s parts j all b;
    })

-- the widths fit the scope of a part
pub part_widths_of : (s : Shape) (parts : List Func) (slot : ℕ) (us : List ℕ) (j : ℕ) (part : Func) → ArePartWidths s slot parts us → j < length parts → part ≡ get_or parts j part → AreWidths part.shape us
part_widths_of s parts slot us j part h less e =
    let shape : part.shape ≡ s = ap (λ (f : Func). f.shape) (part_is s parts j part less e) ∙ h.scopes j less in
    let P : Shape → Type 0 = λ t. AreWidths t us in
    subst P (sym shape) h.widths_of

-- a coordinate of the point that some widths name
pub get_or-kept : (us x : List ℕ) (i : ℕ) → 0 < product us → length us ≡ length x → i < length us → get_or (point_at us (place us x)) i 0 ≡ get_or x i 0 % get_or us i 0
get_or-kept [] x i h e less = absurd (omega arith)
get_or-kept (w ∷ ws) [] i h e less = absurd (omega arith)
get_or-kept (w ∷ ws) (y ∷ ys) zero h e less =
    let parts = parts_pos w (product ws) h in
    let behind = place-below ws ys parts.1 in
    ap (λ n. n % w) (div-mul-add (y % w) (product ws) (place ws ys) behind) ∙ mod-eq_of_lt (mod_below y w parts.0)
get_or-kept (w ∷ ws) (y ∷ ys) (suc i) h e less =
    let parts = parts_pos w (product ws) h in
    ap (λ l. get_or l i 0) (point_at-turn ws (y % w) (place ws ys) parts.1) ∙ get_or-kept ws ys i parts.1 (omega arith) (omega arith)

-- a slot that is mentioned in full keeps its coordinate
pub full_kept : (s : Shape) (us x : List ℕ) (slot : ℕ) → IsScope s → AreWidthsOf us s.sizes → get_or us slot 0 ≡ size_of s slot → slot < length s.sizes → IsPoint s.sizes x → get_or (point_at us (place us x)) slot 0 ≡ get_or x slot 0
full_kept s us x slot h m full within p =
    let long = Mentions-length us s.sizes m in
    get_or-kept us x slot (Mentions-pos us s.sizes m (scope_some s h)) (long ∙ IsPoint-length s.sizes x p) (omega (arith, within, long))
    ∙ ap (λ w. get_or x slot 0 % w) full
    ∙ mod-eq_of_lt (point-below s.sizes x slot p within)

-- the values of the parts at each point of their widths mean the part of the slot's value
pub branched : (s : Shape) (parts : List Func) (slot : ℕ) (us to : List ℕ) (es : List ℤ) (n : ℕ) → IsPartFrame s slot parts us → All (λ (p : Func). p.shape ≡ s) parts → slot < length s.sizes → length parts ≡ size_of s slot → to ≡ us → n ≡ product to → n < 2 ^ 63 → es ≡ map (λ k. value_of (part_of s parts (get_or (point_at to k) slot 0)) (point_at to k)) (range_with_len 0 n) → Means s us es (part_chosen s slot parts)
branched s parts slot us to es n frame all within enough d n_is fits es_is =
    made s s us es (λ x. value_of (part_of s parts (get_or x slot 0)) x) (λ x. value_of (part_of s parts (get_or x slot 0)) x) n refl frame.scope frame.mentions (n_is ∙ ap product d) fits
    (es_is ∙ ap (λ l. map (λ k. value_of (part_of s parts (get_or (point_at l k) slot 0)) (point_at l k)) (range_with_len 0 n)) d)
    (λ x p.
    (let less : get_or x slot 0 < length parts = omega (arith, point-below s.sizes x slot p within, enough) in
    let Q : Shape → Type 0 = λ t. IsPoint t.sizes x in
    let there : IsPointOf (part_of s parts (get_or x slot 0)) x = subst Q (sym (part_shape s parts (get_or x slot 0) all less)) p in
    ap (λ j. value_of (part_of s parts j) (point_at us (place us x))) (full_kept s us x slot frame.scope frame.mentions frame.full within p)
    ∙ frame.reads (get_or x slot 0) less x there))

-- widths of the scope fit a part
pub fits_part : (s : Shape) (parts : List Func) (i : ℕ) (part : Func) (us ks : List ℕ) → All (λ (p : Func). p.shape ≡ s) parts → i < length parts → part ≡ get_or parts i part → ks ≡ us → AreWidthsOf us s.sizes → AreWidthsOf ks part.shape.sizes
fits_part s parts i part us ks all less e same m =
    let shape : part.shape ≡ s = ap (λ (f : Func). f.shape) (part_is s parts i part less e) ∙ part_shape s parts i all less in
    let P : Shape → Type 0 = λ t. AreWidthsOf ks t.sizes in
    let Q : List ℕ → Type 0 = λ l. AreWidthsOf l s.sizes in
    subst P (sym shape) (subst Q (sym same) m)

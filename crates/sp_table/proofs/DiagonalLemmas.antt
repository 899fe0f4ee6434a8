use Rattle.std.proofs.Common.{◌≡◌, ℕ, ◌<◌, ◌≤◌, ◌-◌, ◌*◌, ◌^◌, sym, ◌∙◌, ap, arith, List, length, map, get_or, set, subst}
use Rattle.std.specs.Prelude.{ℤ}
use Rattle.std.specs.List.{range_with_len}
use Rattle.std.proofs.lemmas.List.{get_or-set_same}
use Rattle.sp_dd.specs.Points.{product, place, point_at}
use Rattle.sp_dd.specs.Func.{Shape, Func, IsScope, value_of, size_of}
use Rattle.sp_dd.specs.Operations.{on_diagonal, IsPrimedSlot}
use Rattle.sp_dd.proofs.FuncLemmas.{scope_some}
use Rattle.sp_dd.proofs.IndependenceLemmas.{point-below}
use Rattle.sp_table.specs.Widths.{AreWidthsOf, IsSlotFrame, IsDiagonalFrame}
use Rattle.sp_table.proofs.PlaceLemmas.{Mentions-length, Mentions-pos, IsPoint-length, place-kept}
use Rattle.sp_table.proofs.FrameLemmas.{Means, framed, point_within}
use Rattle.sp_table.proofs.BranchLemmas.{Mentions-full, Mentions-grown, full_kept}

-- more widths without a slot
slot_grown : (f : Func) (slot : ℕ) (us vs : List ℕ) → IsSlotFrame f slot us → AreWidthsOf us vs → AreWidthsOf vs f.shape.sizes → IsSlotFrame f slot vs
slot_grown f slot us vs frame m n =
    let some = Mentions-pos vs f.shape.sizes n (scope_some f.shape frame.scope) in
    record {
      scope = frame.scope;
      mentions = n;
      reads = λ x p v less.
          (let point = point_within f.shape vs (place vs x) frame.scope n in
          let kept = place-kept us vs x m some (Mentions-length vs f.shape.sizes n ∙ IsPoint-length f.shape.sizes x p) in
          sym (frame.reads _ point v less) ∙ ap (λ k. value_of f (set (point_at us k) slot v)) kept ∙ frame.reads x p v less);
    }

-- the slot before a primed one
pub primed_within : (f : Func) (primed : ℕ) → IsScope f.shape → IsPrimedSlot f.shape primed → (primed < length f.shape.sizes) × (1 ≤ primed) × (size_of f.shape (primed - 1) ≡ size_of f.shape primed)
primed_within f primed h slot =
    let before : primed - 1 ≡ 2 * slot.variable = omega (arith, slot.is) in
    let same = ap (size_of f.shape) before ∙ h.equal slot.variable slot.within ∙ ap (size_of f.shape) (sym slot.is) in
    (omega (arith, slot.is, slot.within, h.paired), omega (arith, slot.is), same)

pub diagonal_frame : (f : Func) (primed : ℕ) (us : List ℕ) (v : ℕ) → IsPrimedSlot f.shape primed → IsSlotFrame f primed us → v ≡ size_of f.shape (primed - 1) → IsDiagonalFrame f primed (set us (primed - 1) v)
diagonal_frame f primed us v slot frame e =
    let facts = primed_within f primed frame.scope slot in
    let full = Mentions-full us f.shape.sizes (primed - 1) frame.mentions in
    let grown = Mentions-grown us f.shape.sizes (primed - 1) frame.mentions in
    let long : primed - 1 < length us = omega (arith, facts.0, Mentions-length us f.shape.sizes frame.mentions) in
    let P : ℕ → Type 0 = λ w. IsDiagonalFrame f primed (set us (primed - 1) w) in
    subst P (sym e)
    (record {
      frame = slot_grown f primed us (set us (primed - 1) (size_of f.shape (primed - 1))) frame grown full;
      full = get_or-set_same us (primed - 1) (size_of f.shape (primed - 1)) 0 long;
      within = facts.0;
      sizes = facts.2;
    })

-- the frame, seen through a slice
pub diagonal_too : (f : Func) (primed : ℕ) (us to : List ℕ) → IsDiagonalFrame f primed us → to ≡ us → IsDiagonalFrame f primed to
diagonal_too f primed us to frame e = let P : List ℕ → Type 0 = λ l. IsDiagonalFrame f primed l in subst P (sym e) frame

-- the values on the diagonal at each point of the frame
pub diagonal_is : (f : Func) (s : Shape) (primed : ℕ) (us to : List ℕ) (es : List ℤ) (n : ℕ) → s ≡ f.shape → IsDiagonalFrame f primed us → to ≡ us → n ≡ product to → n < 2 ^ 63 → es ≡ map (λ k. value_of f (set (point_at to k) primed (get_or (point_at to k) (primed - 1) 0))) (range_with_len 0 n) → Means s us es (on_diagonal f primed)
diagonal_is f s primed us to es n e frame d n_is fits es_is =
    framed (λ x. value_of f (set x primed (get_or x (primed - 1) 0))) (λ x. value_of f (set x primed (get_or x (primed - 1) 0))) f s us to es n e frame.frame.scope frame.frame.mentions d n_is fits es_is
    (λ x p.
    (let before : primed - 1 < length f.shape.sizes = omega (arith, frame.within) in
    let less : get_or x (primed - 1) 0 < size_of f.shape primed = omega (arith, point-below f.shape.sizes x (primed - 1) p before, frame.sizes) in
    ap (λ v. value_of f (set (point_at us (place us x)) primed v)) (full_kept f.shape us x (primed - 1) frame.frame.scope frame.frame.mentions frame.full before p)
    ∙ frame.frame.reads x p (get_or x (primed - 1) 0) less))

-- Nodes, branch by branch.
use Rattle.std.proofs.Common.{◌≡◌, ℕ, zero, suc, ◌+◌, ◌<◌, ◌≤◌, ◌||◌, ◌&&◌, not, Bool, true, false, List, [], ◌∷◌, ◌++◌, length, take, drop, get_or, Option, Some, None, refl, sym, ap, ◌∙◌, subst, arith, add-one, drop-cons, drop_of_length-le, length-append}
use Rattle.std.specs.Prelude.{Result, Ok, Err, IfSome, IfOk, All, if◌then◌else◌}
use Rattle.std.specs.List.{list_all, range_with_len}
use Rattle.std.proofs.lemmas.List.{take_more}
use Rattle.std.proofs.lemmas.List.Folds.{list_any_more}
use Rattle.std.proofs.lemmas.List.FromFn.{length-range_with_len, get_or-range_with_len}
use Rattle.sp_dd.specs.Func.{Shape, Func}
use Rattle.sp_trees.specs.declared.refusal.Refusal.{Refusal}
use Rattle.sp_trees.specs.declared.refusal.ModelKind.TheVariants as kind
use Rattle.sp_trees.specs.declared.slots.Slots.{Slots}
use Rattle.sp_trees.specs.declared.judged.Listed.{Listed}
use Rattle.sp_trees.specs.declared.nodes.Branching.{Branching}
use Rattle.sp_trees.specs.Refusals.{lesser, refused_if}
use Rattle.sp_trees.specs.Slots.{one, has}
use Rattle.sp_trees.specs.Judged.{inside_branches}
use Rattle.sp_trees.specs.Nodes.{is_value, lists, value_row_by, value_row, value_rows, lists_all, node_rows, with_value, IsSmallValue, part, part_by, branch_at, then_part, parts_from}
use Rattle.sp_trees.specs.Good.{IsGood, IfGood}
use Rattle.sp_trees.proofs.SlotLemmas.{has_one, has_union}

-- ---- the rows of branches' words

row_same : (p q : ℕ → Bool) (at : ℕ) (value : Option ℕ) → ((v : ℕ) → v < 64 → p v ≡ q v) → IfSome value (λ v. v < 64) → value_row_by p at value ≡ value_row_by q at value
row_same p q at None h l = refl
row_same p q at (Some v) h l = ap (λ b. refused_if b at kind.RepeatedName) (h v l)

with_same : (p : ℕ → Bool) (set : Slots) (value : Option ℕ) (v : ℕ) → has set v ≡ p v → has (with_value set value) v ≡ (p v || is_value v value)
with_same p set None v h = h ∙ sym (or_false (p v))
  where
    or_false : (b : Bool) → (b || false) ≡ b
    or_false true = refl
    or_false false = refl
with_same p set (Some k) v h = has_union set (one k) v ∙ ap (λ b. b || has (one k) v) h ∙ ap (λ b. p v || b) (has_one k v)

pub record IsRowsTo (ls : List Listed) (i : ℕ) (first : Option Refusal) (set : Slots) : Type 0 where
  pub rows : value_rows (take i ls) (drop i ls) first ≡ value_rows [] ls None
  pub listed : (v : ℕ) → v < 64 → has set v ≡ lists (take i ls) v

rows_turn : (ls : List Listed) (i : ℕ) (first : Option Refusal) (d : Listed) → i < length ls
    → value_rows (take i ls) (drop i ls) first ≡ value_rows (take (i + 1) ls) (drop (i + 1) ls) (lesser first (value_row (take i ls) (get_or ls i d)))
unfolding value_rows
rows_turn ls i first d h =
    ap (λ r. value_rows (take i ls) r first) (let e : drop i ls ≡ get_or ls i d ∷ drop (i + 1) ls = rw (add-one, drop-cons ls i d) refl in e)
    ∙ ap (λ b. value_rows b (drop (i + 1) ls) (lesser first (value_row (take i ls) (get_or ls i d)))) (sym (take_more ls i d h))

pub rows_more : (ls : List Listed) (i : ℕ) (first : Option Refusal) (set : Slots) (l : Listed) (row next : Option Refusal) (more : Slots) → All IsSmallValue ls → i < length ls
    → l ≡ get_or ls i l → value_rows (take i ls) (drop i ls) first ≡ value_rows [] ls None → ((v : ℕ) → v < 64 → has set v ≡ lists (take i ls) v)
    → row ≡ value_row_by (has set) l.at l.value → next ≡ lesser first row → more ≡ with_value set l.value → IsRowsTo ls (i + 1) next more
rows_more ls i first set l row next more small h e rows listed r n m =
    let here : IsSmallValue l = subst IsSmallValue (sym e) (small i l h) in
    let same : row ≡ value_row (take i ls) (get_or ls i l) = r ∙ row_same (has set) (lists (take i ls)) l.at l.value listed here ∙ ap (value_row (take i ls)) e in
    record {
      rows = ap (value_rows (take (i + 1) ls) (drop (i + 1) ls)) (n ∙ ap (lesser first) same) ∙ sym (rows_turn ls i first l h) ∙ rows;
      listed = λ v w. ap (λ s. has s v) m ∙ with_same (lists (take i ls)) set l.value v (listed v w) ∙ ap (λ (x : Listed). lists (take i ls) v || is_value v x.value) e
          ∙ sym (list_any_more (λ (x : Listed). is_value v x.value) ls i l h);
    }

pub rows_over : (ls : List Listed) (i : ℕ) (first : Option Refusal) → length ls ≤ i → value_rows (take i ls) (drop i ls) first ≡ value_rows [] ls None → first ≡ value_rows [] ls None
unfolding value_rows
rows_over ls i first h e = sym (ap (λ r. value_rows (take i ls) r first) (drop_of_length-le ls h)) ∙ e

-- ---- the rows of a node

range_same : (p q : ℕ → Bool) (a n m : ℕ) → a + n ≤ m → ((v : ℕ) → v < m → p v ≡ q v) → list_all p (range_with_len a n) ≡ list_all q (range_with_len a n)
range_same p q a zero m l h = refl
range_same p q a (suc n) m l h = ap (λ b. b && list_all p (range_with_len (a + 1) n)) (h a (omega arith)) ∙ ap (λ b. q a && b) (range_same p q (a + 1) n m (omega arith) h)

pub node_rows_is : (allowed : Slots) (n : Branching) (ls : List Listed) (words : Option Refusal) (set : Slots) (is_allowed all : Bool) → n.count ≤ 64
    → words ≡ value_rows [] ls None → ((v : ℕ) → v < 64 → has set v ≡ lists ls v) → is_allowed ≡ (n.is_sayable && has allowed n.slot) → all ≡ list_all (has set) (range_with_len 0 n.count)
    → lesser (refused_if (not is_allowed) n.at kind.BadScope) (lesser (refused_if (not all) n.left kind.MissingValue) (lesser words (inside_branches ls))) ≡ node_rows allowed n ls
node_rows_is allowed n ls words set is_allowed all small w listed a e =
    let every : all ≡ lists_all n.count ls = e ∙ range_same (has set) (lists ls) 0 n.count 64 (omega arith) listed in
    (λ i. lesser (refused_if (not (a i)) n.at kind.BadScope) (lesser (refused_if (not (every i)) n.left kind.MissingValue) (lesser (w i) (inside_branches ls))))

-- ---- the functions of the values

module _ (left : ℕ) (ls : List Listed) (fs : List Func) (n i : ℕ) where
  part_turn : i < n → parts_from left ls fs (drop i (range_with_len 0 n)) ≡ then_part (λ gs. parts_from left ls gs (drop (i + 1) (range_with_len 0 n))) fs (part left ls i)
  unfolding parts_from
  part_turn h =
      let long = length-range_with_len 0 n in
      let here : i < length (range_with_len 0 n) = omega arith in
      let e : drop i (range_with_len 0 n) ≡ get_or (range_with_len 0 n) i 0 ∷ drop (i + 1) (range_with_len 0 n) = rw (add-one, drop-cons (range_with_len 0 n) i 0) refl in
      ap (parts_from left ls fs) e ∙ ap (λ v. then_part (λ gs. parts_from left ls gs (drop (i + 1) (range_with_len 0 n))) fs (part left ls v)) (get_or-range_with_len 0 n i 0 h ∙ (let e : 0 + i ≡ i = omega arith in e))

  pub part_ok : (r : Result Func Refusal) (f : Func) → i < n → r ≡ part left ls i → r ≡ Ok f
      → parts_from left ls (fs ++ f ∷ []) (drop (i + 1) (range_with_len 0 n)) ≡ parts_from left ls fs (drop i (range_with_len 0 n))
  part_ok r f h e q = sym (part_turn h ∙ ap (then_part (λ gs. parts_from left ls gs (drop (i + 1) (range_with_len 0 n))) fs) (sym e ∙ q))

  pub part_err : (r : Result Func Refusal) (x : Refusal) → i < n → r ≡ part left ls i → r ≡ Err x → parts_from left ls fs (drop i (range_with_len 0 n)) ≡ Err x
  part_err r x h e q = part_turn h ∙ ap (then_part (λ gs. parts_from left ls gs (drop (i + 1) (range_with_len 0 n))) fs) (sym e ∙ q)

  pub parts_over : n ≤ i → parts_from left ls fs (drop i (range_with_len 0 n)) ≡ Ok fs
  unfolding parts_from
  parts_over h = let long = length-range_with_len 0 n in ap (parts_from left ls fs) (drop_of_length-le (range_with_len 0 n) (omega arith))

-- what all functions keep
All-push : (P : Func → Type 0) (fs : List Func) (f : Func) → All P fs → P f → All P (fs ++ f ∷ [])
All-push P [] f h p zero d l = p
All-push P [] f h p (suc k) d l = absurd (omega arith)
All-push P (g ∷ fs) f h p zero d l = h 0 g (omega arith)
All-push P (g ∷ fs) f h p (suc k) d l = All-push P fs f (λ i e m. h (suc i) e (omega arith)) p k d (omega arith)

part_keeps : (P : Func → Type 0) (left : ℕ) (ls : List Listed) (v : ℕ) → All (λ l. IfOk l.judged.outcome P) ls → IfOk (part left ls v) P
part_keeps P left [] v k = tt
part_keeps P left (l ∷ ls) v k = go (is_value v l.value) (part_keeps P left ls v (λ i d m. k (suc i) d (omega arith)))
  where
    go : (b : Bool) → IfOk (part left ls v) P → IfOk (part_by left (if b then Some l else branch_at ls v)) P
    go true h = k 0 l (omega arith)
    go false h = h

pub parts_keep : (P : Func → Type 0) (left : ℕ) (ls : List Listed) (fs : List Func) (vs : List ℕ) → All P fs → All (λ l. IfOk l.judged.outcome P) ls → IfOk (parts_from left ls fs vs) (λ gs. All P gs × (length gs ≡ length fs + length vs))
unfolding parts_from
parts_keep P left ls fs [] h k = (h, omega arith)
parts_keep P left ls fs (v ∷ vs) h k = go (part left ls v) (part_keeps P left ls v k) (λ f p. parts_keep P left ls (fs ++ f ∷ []) vs (All-push P fs f h p) k)
  where
    go : (r : Result Func Refusal) → IfOk r P → ((f : Func) → P f → IfOk (parts_from left ls (fs ++ f ∷ []) vs) (λ gs. All P gs × (length gs ≡ length (fs ++ f ∷ []) + length vs)))
        → IfOk (then_part (λ gs. parts_from left ls gs vs) fs r) (λ gs. All P gs × (length gs ≡ length fs + length (v ∷ vs)))
    go (Err e) p more = tt
    go (Ok f) p more = longer (parts_from left ls (fs ++ f ∷ []) vs) (more f p)
      where
        longer : (r : Result (List Func) Refusal) → IfOk r (λ gs. All P gs × (length gs ≡ length (fs ++ f ∷ []) + length vs)) → IfOk r (λ gs. All P gs × (length gs ≡ length fs + length (v ∷ vs)))
        longer (Err e) h = tt
        longer (Ok gs) h = (h.0, (let e = h.1 in omega (arith, e, length-append fs (f ∷ []))))

shape_of_good : (s : Shape) (m : Slots) (r : Result Func Refusal) → IfOk r (IsGood s m) → IfOk r (λ f. f.shape ≡ s)
shape_of_good s m (Ok f) h = h.fit.shape
shape_of_good s m (Err e) h = tt

pub record ArePartsOf (s : Shape) (n : ℕ) (gs : List Func) : Type 0 where
  pub scopes : All (λ g. g.shape ≡ s) gs
  pub long : length gs ≡ n

pub are_parts : (s : Shape) (left : ℕ) (ls : List Listed) (n : ℕ) (r : Result (List Func) Refusal) (v gs : List Func) → All (λ l. IfGood s l.judged) ls
    → r ≡ parts_from left ls [] (range_with_len 0 n) → r ≡ Ok v → gs ≡ v → ArePartsOf s n gs
are_parts s left ls n r v gs good e q is =
    let all : IfOk (parts_from left ls [] (range_with_len 0 n)) (λ gs. All (λ g. g.shape ≡ s) gs × (length gs ≡ length {A = Func} [] + length (range_with_len 0 n))) =
    parts_keep (λ g. g.shape ≡ s) left ls [] (range_with_len 0 n) (λ k d l. absurd (omega arith)) (λ k d l. shape_of_good s _ _ (good k d l)) in
    let here : parts_from left ls [] (range_with_len 0 n) ≡ Ok gs = sym e ∙ q ∙ ap Ok (sym is) in
    let p = subst (λ x. IfOk x (λ gs. All (λ g. g.shape ≡ s) gs × (length gs ≡ length {A = Func} [] + length (range_with_len 0 n)))) here all in
    let wide = p.1 in
    let long = length-range_with_len 0 n in
    record { scopes = p.0; long = omega arith }

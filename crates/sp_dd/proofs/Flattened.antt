-- Nodes whose parts stand in one buffer.
use Rattle.std.proofs.Common.{◌≡◌, ℕ, suc, ◌+◌, ◌-◌, ◌≤◌, List, [], ◌∷◌, ◌++◌, length, take, drop, get_or, set, ◌≢◌, ◌<◌, ◌↔◌, IsTrue, Bool, false, subst, sym, ◌∙◌, ap, ap₂, refl, arith}
use Rattle.std.proofs.lemmas.List.{length-drop, length-map, get_or-map, get_or_default, map-append, drop-append-le, take-append-le, take_all, length-take-le}
use Rattle.std.proofs.lemmas.Bool.{false≢true}
use Rattle.std.proofs.Math.Seq.{drop-append_seam, map-set_same}
use Rattle.sp_dd.specs.declared.part.Part.{Part}
use Rattle.sp_dd.specs.declared.nodes.Head.{Head}
use Rattle.sp_dd.specs.NodeLists.{Node, made_node}
use Rattle.sp_dd.specs.Ordered.{no_node, node_at}
use Rattle.sp_dd.specs.Flat.{node_of, nodes_of, no_head, head_at, ArePartsInBuffer}
use Rattle.std.proofs.Common.{Result, Ok, Err, OnErr}

-- more parts in the buffer change no node
pub node_of-append : (ps qs : List Part) (h : Head) → h.from + h.count ≤ length ps → node_of (ps ++ qs) h ≡ node_of ps h
node_of-append ps qs h l =
    let size : length (drop h.from ps) ≡ length ps - h.from = length-drop h.from ps in
    let e : drop h.from (ps ++ qs) ≡ drop h.from ps ++ qs = drop-append-le h.from ps qs (omega arith) in
    ap (made_node h.slot) (ap (take h.count) e ∙ take-append-le h.count (drop h.from ps) qs (omega arith))

within_rest : (n : ℕ) (h : Head) (heads : List Head) → ArePartsInBuffer n (h ∷ heads) → ArePartsInBuffer n heads
within_rest n h heads w k l = w (suc k) (omega arith)

pub nodes_of-append : (ps qs : List Part) (heads : List Head) → ArePartsInBuffer (length ps) heads → nodes_of (ps ++ qs) heads ≡ nodes_of ps heads
nodes_of-append ps qs [] w = refl
nodes_of-append ps qs (h ∷ heads) w =
    ap₂ (λ x xs. x ∷ xs) (node_of-append ps qs h (w 0 (omega arith))) (nodes_of-append ps qs heads (within_rest (length ps) h heads w))

last_node : (ps qs : List Part) (s u f c : ℕ) → f ≡ length ps → c ≡ length qs → (let h : Head = record { slot = s; uses = u; from = f; count = c } in node_of (ps ++ qs) h ≡ made_node s qs)
last_node ps qs s u f c e k =
    ap (made_node s) (ap (λ n. take c (drop n (ps ++ qs))) e ∙ ap (take c) (drop-append_seam ps qs) ∙ take_all c qs (omega arith))

-- one more node
pub nodes_of-push : (ps qs all : List Part) (heads more : List Head) (view : List Node) (s u f c : ℕ) → nodes_of ps heads ≡ view → ArePartsInBuffer (length ps) heads → f ≡ length ps → c ≡ length qs → all ≡ ps ++ qs → (let h : Head = record { slot = s; uses = u; from = f; count = c } in more ≡ heads ++ h ∷ []) → nodes_of all more ≡ view ++ made_node s qs ∷ []
nodes_of-push ps qs all heads more view s u f c v w e k a m =
    let h : Head = record { slot = s; uses = u; from = f; count = c } in
    ap₂ (λ x y. nodes_of x y) a m
    ∙ map-append (node_of (ps ++ qs)) heads (h ∷ [])
    ∙ ap₂ (λ x y. x ++ y ∷ []) (nodes_of-append ps qs heads w ∙ v) (last_node ps qs s u f c e k)

pub on_err : {A E : Type 0} (r : Result A E) (P : Type 0) → P → OnErr r P
on_err (Ok a) P h = tt
on_err (Err e) P h = h

-- the node of a head

pub node_here : (ps : List Part) (heads : List Head) (view : List Node) (k : ℕ) (h : Head) → nodes_of ps heads ≡ view → k < length view → h ≡ get_or heads k h → node_at view k ≡ node_of ps h
node_here ps heads view k h v l e =
    let size : length view ≡ length heads = ap length (sym v) ∙ length-map heads (node_of ps) in
    ap (λ x. node_at x k) (sym v) ∙ get_or-map (node_of ps) heads k h no_node (omega (arith, size, l)) ∙ ap (node_of ps) (sym e)

pub within_here : (ps : List Part) (heads : List Head) (view : List Node) (k : ℕ) (h : Head) → nodes_of ps heads ≡ view → ArePartsInBuffer (length ps) heads → k < length view → h ≡ get_or heads k h → h.from + h.count ≤ length ps
within_here ps heads view k h v w l e =
    let size : length view ≡ length heads = ap length (sym v) ∙ length-map heads (node_of ps) in
    let low : k < length heads = omega (arith, size, l) in
    let same : get_or heads k no_head ≡ h = get_or_default heads k no_head h low ∙ sym e in
    let P : Head → Type 0 = λ x. x.from + x.count ≤ length ps in
    subst P same (w k low)

pub other_slot : (ps : List Part) (heads : List Head) (view : List Node) (k : ℕ) (h : Head) (s : ℕ) (qs : List Part) → nodes_of ps heads ≡ view → k < length view → h ≡ get_or heads k h → h.slot ≢ s → IsTrue false ↔ node_at view k ≡ made_node s qs
other_slot ps heads view k h s qs v l e n = (λ t. absurd (false≢true t), λ q. absurd (n (ap (λ x. x.slot) (sym (node_here ps heads view k h v l e) ∙ q))))

pub other_count : (ps : List Part) (heads : List Head) (view : List Node) (k : ℕ) (h : Head) (s : ℕ) (qs : List Part) → nodes_of ps heads ≡ view → ArePartsInBuffer (length ps) heads → k < length view → h ≡ get_or heads k h → length qs ≢ h.count → IsTrue false ↔ node_at view k ≡ made_node s qs
other_count ps heads view k h s qs v w l e n = (
  λ t. absurd (false≢true t),
  λ q. absurd (n (
      let same : take h.count (drop h.from ps) ≡ qs = ap (λ (x : Node). x.parts) (sym (node_here ps heads view k h v l e) ∙ q) in
      let in_list : h.from + h.count ≤ length ps = within_here ps heads view k h v w l e in
      sym (ap length same) ∙ length-take-le h.count (drop h.from ps) (omega (arith, length-drop h.from ps, in_list)))),
)

pub all_same : (ps : List Part) (heads : List Head) (view : List Node) (k : ℕ) (h : Head) (s n : ℕ) (qs : List Part) (b : Bool) → nodes_of ps heads ≡ view → k < length view → h ≡ get_or heads k h → h.slot ≡ s → h.count ≡ n → IsTrue b ↔ take n (drop h.from ps) ≡ qs → IsTrue b ↔ node_at view k ≡ made_node s qs
all_same ps heads view k h s n qs b v l e f g r =
    let here : node_at view k ≡ node_of ps h = node_here ps heads view k h v l e in (
      λ t. here ∙ ap₂ made_node f (ap (λ m. take m (drop h.from ps)) g ∙ r.0 t),
      λ q. r.1 (ap (λ m. take m (drop h.from ps)) (sym g) ∙ ap (λ (x : Node). x.parts) (sym here ∙ q)),
    )

-- a head that changes in nothing of its node
pub heads_set : (heads : List Head) (k : ℕ) (h : Head) → k < length heads → h.slot ≡ (head_at heads k).slot → h.from ≡ (head_at heads k).from → h.count ≡ (head_at heads k).count → (ps : List Part) → nodes_of ps (set heads k h) ≡ nodes_of ps heads
heads_set heads k h l s f c ps =
    let same : node_of ps h ≡ node_of ps (head_at heads k) = ap₂ made_node s (ap₂ (λ n m. take n (drop m ps)) c f) in
    map-set_same (node_of ps) heads k h no_head same

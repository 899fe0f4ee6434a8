-- Nodes with two parts, and short walks.
use Rattle.std.proofs.Common.{◌≡◌, ◌≢◌, ℕ, suc, ◌+◌, ◌<◌, ◌≤◌, List, [], ◌∷◌, length, get_or, take, drop, Bool, true, false, ◌&&◌, ◌↔◌, IsTrue, Option, None, Some, IfSome, Result, Ok, Err, IfOk, ℤ, pos, sym, ◌∙◌, ap, ap₂, refl, arith, add-one}
use Rattle.std.proofs.lemmas.Bool.{false≢true}
use Rattle.std.proofs.lemmas.List.{get_or_push, length_push}
use Rattle.sp_dd.specs.declared.part.Part.{Part}
use Rattle.sp_dd.specs.declared.part.Part.TheVariants.{Leaf}
use Rattle.sp_dd.specs.declared.memo.State.{State}
use Rattle.sp_dd.specs.declared.memo.Entry.{Entry}
use Rattle.sp_dd.specs.NodeLists.{Node, made_node, same_part, all_are, first_part, node_of_parts, gathered}
use Rattle.sp_dd.specs.Wording.{word_part, parts_of, IsPlain, IsWordOf}
use Rattle.sp_dd.specs.Walks.{whole, IsWalked}
use Rattle.sp_dd.specs.Hashes.{IsPut}
use Rattle.sp_dd.specs.Kept.{AreKnown}
use Rattle.sp_dd.proofs.Indexing.{joined_one, joined_put}
use Rattle.sp_dd.proofs.Known.{known_extends}
use Rattle.sp_dd.proofs.Ranges.{no_part}
use Rattle.sp_dd.proofs.Settled.{Extends, same_part_refl, same_part_is}
use Rattle.sp_dd.proofs.Steps.{gathered_none, gathered_more, gathered_all}
use Rattle.sp_dd.proofs.Worded.{drop_first, plain_within, plain_is, plain_same, word_from, word_at}

-- ---- two parts

and_end : (x : Bool) → (x && true) ≡ x
and_end true = refl
and_end false = refl

pub two_one : (a b : Part) → all_are (first_part (a ∷ b ∷ [])) (a ∷ b ∷ []) ≡ same_part a b
two_one a b = ap (λ t. t && (same_part a b && true)) (same_part_refl a) ∙ and_end (same_part a b)

take_none : (xs : List Part) → take 0 xs ≡ []
take_none [] = refl
take_none (x ∷ xs) = refl

two_at : (xs : List Part) (i : ℕ) → i + 2 ≤ length xs → take 2 (drop i xs) ≡ get_or xs i no_part ∷ get_or xs (i + 1) no_part ∷ []
two_at xs i l =
    let x : Part = get_or xs i no_part in
    let y : Part = get_or xs (suc i) no_part in
    ap (take 2) (drop_first xs i (omega arith) ∙ ap (λ r. x ∷ r) (drop_first xs (suc i) (omega arith)))
    ∙ ap (λ r. x ∷ y ∷ r) (take_none (drop (suc (suc i)) xs))
    ∙ ap (λ n. x ∷ get_or xs n no_part ∷ []) (sym (add-one i))

pub two_apart : (xs : List Part) (i : ℕ) (a b : Part) (r : Bool) → i + 2 ≤ length xs → IsTrue r ↔ get_or xs i no_part ≡ a → r ≡ false → IsTrue false ↔ take 2 (drop i xs) ≡ a ∷ b ∷ []
two_apart xs i a b r l k f = (
  λ t. absurd (false≢true t),
  λ q. absurd (false≢true (sym f ∙ k.1 (ap first_part (sym (two_at xs i l) ∙ q)))),
)

pub two_same : (xs : List Part) (i : ℕ) (a b : Part) (r : Bool) → i + 2 ≤ length xs → get_or xs i no_part ≡ a → IsTrue r ↔ get_or xs (i + 1) no_part ≡ b → IsTrue r ↔ take 2 (drop i xs) ≡ a ∷ b ∷ []
two_same xs i a b r l h k = (
  λ t. two_at xs i l ∙ ap₂ (λ p q. p ∷ q ∷ []) h (k.0 t),
  λ q. k.1 (ap (λ l. get_or l 1 no_part) (sym (two_at xs i l) ∙ q)),
)

-- one word says one part

pub joined_equal : (slot : ℕ) (ns : List Node) (w v : ℕ) → w ≡ v → node_of_parts slot (ns, word_part [] w ∷ word_part [] v ∷ []) ≡ (ns, word_part [] w)
joined_equal slot ns w v e =
    let a : Part = word_part [] w in
    let b : Part = word_part [] v in
    joined_one slot ns (a ∷ b ∷ []) true a refl (sym (two_one a b ∙ ap (same_part a) (ap (word_part []) (sym e)) ∙ same_part_refl a)) refl

pub joined_apart : (slot : ℕ) (ns ms : List Node) (w v k : ℕ) → w ≢ v → IsPlain w → IsPlain v → k < 4294967296 → IsPut (made_node slot (word_part [] w ∷ word_part [] v ∷ [])) ns ms k → node_of_parts slot (ns, word_part [] w ∷ word_part [] v ∷ []) ≡ (ms, word_part [] k)
joined_apart slot ns ms w v k n h p l put =
    let a : Part = word_part [] w in
    let b : Part = word_part [] v in
    joined_put slot ns ms (a ∷ b ∷ []) (same_part a b) k (sym (two_one a b)) (apart (same_part a b) refl) put
    ∙ ap (λ x. (ms, x)) (sym (word_at [] k l))
  where
    apart : (r : Bool) → same_part (word_part [] w) (word_part [] v) ≡ r → r ≡ false
    apart true e = absurd (n (plain_same [] [] w v h p (same_part_is (word_part [] w) (word_part [] v) e)))
    apart false e = refl

pub plain_of : (wide : List ℤ) (w : ℕ) → IsPlain w → IsWordOf wide (word_part [] w) w
plain_of wide w h = record { within = plain_within (length wide) w h; is = plain_is wide [] w h }

-- a word that says its part by itself stands at a place exactly where its part does
pub plain_here : (wide : List ℤ) (ws : List ℕ) (view : List Part) (k w v : ℕ) → parts_of wide ws ≡ view → k < length view → w ≡ get_or ws k w → IsPlain w → IsPlain v → (w ≡ v) ↔ (get_or view k (Leaf (pos 0)) ≡ word_part [] v)
plain_here wide ws view k w v e l f h p =
    let here : IsWordOf [] (get_or view k (Leaf (pos 0))) w = word_from [] wide ws view k w e l f h in
    (λ q. sym here.is ∙ ap (word_part []) q, λ q. plain_same [] [] w v h p (here.is ∙ q))

pub low_plain : (w : ℕ) → w < 4294967296 → IsPlain w
low_plain w l = record { apart = λ m. absurd (omega arith) }

-- ---- walks

pub two_gathered : (g : ℕ → List Node → List Node × Part) (slot n : ℕ) (ns ms ls os : List Node) (a b c : Part) → n ≡ 2 → g 0 ns ≡ (ms, a) → g 1 ms ≡ (ls, b) → node_of_parts slot (ls, a ∷ b ∷ []) ≡ (os, c) → node_of_parts slot (gathered g n ns) ≡ (os, c)
two_gathered g slot n ns ms ls os a b c e h k j =
    let none : gathered g 0 ns ≡ (ns, []) = gathered_none g ns [] refl in
    let one : gathered g 1 ns ≡ (ms, a ∷ []) = gathered_more g 0 ns ns ms [] (a ∷ []) a none h refl in
    let two : gathered g 2 ns ≡ (ls, a ∷ b ∷ []) = gathered_more g 1 ns ms ls (a ∷ []) (a ∷ b ∷ []) b one k refl in
    gathered_all g slot n 2 ns ls os (a ∷ b ∷ []) (a ∷ b ∷ []) c (sym e) two refl j

pub walked_last : (sizes : List ℕ) (ψ : (ℕ → ℕ) → ℤ) (ns ms : List Node) (stack more : List Part) (start : ℕ) (root : Part) → IsWalked sizes ψ ns ms stack more → start ≡ length stack → root ≡ get_or more start (Leaf (pos 0)) → whole sizes ψ ns ≡ (ms, root)
walked_last sizes ψ ns ms stack more start root w e r =
    let is : root ≡ w.part = r ∙ ap (λ l. get_or l start (Leaf (pos 0))) w.pushed ∙ get_or_push stack w.part (Leaf (pos 0)) start (sym e) in
    w.made ∙ ap (λ a. (ms, a)) (sym is)

pub last_within : (sizes : List ℕ) (ψ : (ℕ → ℕ) → ℤ) (ns ms : List Node) (stack more : List Part) (start : ℕ) → IsWalked sizes ψ ns ms stack more → start ≡ length stack → start < length more
last_within sizes ψ ns ms stack more start w e = omega (arith, e, ap length w.pushed, length_push stack w.part)

-- what a walk makes, where one more is known of its answer

pub with_root : {q : List Node × Part} (ns : List Node) (a b : Part) → q ≡ (ns, a) → b ≡ a → q ≡ (ns, b)
with_root ns a b e f = e ∙ ap (λ x. (ns, x)) (sym f)

pub leaf_made : {E : Type 0} (r : Result ℕ E) (q : List Node × Part) (ns : List Node) (x z : ℤ) → q ≡ (ns, Leaf z) → x ≡ z → IfOk r (λ w. word_part [] w ≡ Leaf x) → IfOk r (λ w. q ≡ (ns, word_part [] w))
leaf_made (Ok w) q ns x z e f h = e ∙ ap (λ y. (ns, y)) (sym (h ∙ ap Leaf f))
leaf_made (Err s) q ns x z e f h = tt

pub next_made : {E : Type 0} (r : Result ℕ E) (q p : List Node × Part) (ns : List Node) → q ≡ p → IfOk r (λ w. p ≡ (ns, word_part [] w)) → IfOk r (λ w. q ≡ (ns, word_part [] w))
next_made (Ok w) q p ns e h = e ∙ h
next_made (Err s) q p ns e h = tt

-- what tables remember stays as more nodes come
pub known_later : {A : Type 0} (memo : A → List Entry) (tables : Option A) (sizes : List ℕ) (μ : State → (ℕ → ℕ) → ℤ) (ns ms : List Node) → Extends ns ms → IfSome tables (λ t. AreKnown sizes μ (memo t) ns) → IfSome tables (λ t. AreKnown sizes μ (memo t) ms)
known_later memo None sizes μ ns ms x k = k
known_later memo (Some t) sizes μ ns ms x k = known_extends sizes μ (memo t) ns ms x k

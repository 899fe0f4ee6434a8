-- Parts in words.
use Rattle.std.proofs.Common.{subst, ◌≡◌, ℕ, suc, ◌-◌, ◌+◌, ◌<◌, ◌≤◌, List, [], ◌∷◌, ◌++◌, length, get_or, take, drop, zero, ℤ, pos, ◌-ℤ◌, ◌+ℤ◌, ◌≤ℤ◌, ◌%◌, ◌⊎◌, inl, inr, ◌↔◌, unsigned_abs, negsuc, cond, nat_lt, Bool, true, false, ⊎_elim, sym, ◌∙◌, ap, ap₂, refl, arith, append-nil}
use Rattle.std.proofs.lemmas.Bool.{lt-ltb, le-ltb, cases_lt, false≢true}
use Rattle.std.proofs.lemmas.Int.{ints}
use Rattle.std.proofs.lemmas.List.{get_or_append_left, get_or_push, length_push, map-append, get_or-map, length-map, take-map, get_or_default, length-append}
use Rattle.sp_dd.specs.declared.part.Part.{Part}
use Rattle.sp_dd.specs.declared.part.Part.TheVariants.{Leaf, At}
use Rattle.sp_dd.specs.Hashes.{mixed, leaf_hash, part_hash}
use Rattle.sp_dd.specs.Wording.{word_part, parts_of, IsPlain, IsWideLeafWithin, AreWordsWithin, AreLeavesGrown, IsWordOf}

-- the part of each kind of word

pub word_at : (wide : List ℤ) (w : ℕ) → w < 4294967296 → word_part wide w ≡ At w
unfolding word_part
word_at wide w l = ap (λ b. cond b (At w) (cond (nat_lt w 8589934592) (Leaf (get_or wide (w - 4294967296) (pos 0))) (Leaf (pos w -ℤ pos 9223372036854775808)))) (lt-ltb w 4294967296 l)

pub word_wide : (wide : List ℤ) (w : ℕ) → 4294967296 ≤ w → w < 8589934592 → word_part wide w ≡ Leaf (get_or wide (w - 4294967296) (pos 0))
unfolding word_part
word_wide wide w l m =
    ap (λ b. cond b (At w) (cond (nat_lt w 8589934592) (Leaf (get_or wide (w - 4294967296) (pos 0))) (Leaf (pos w -ℤ pos 9223372036854775808)))) (le-ltb w 4294967296 l)
    ∙ ap (λ b. cond b (Leaf (get_or wide (w - 4294967296) (pos 0))) (Leaf (pos w -ℤ pos 9223372036854775808))) (lt-ltb w 8589934592 m)

pub word_leaf : (wide : List ℤ) (w : ℕ) → 8589934592 ≤ w → word_part wide w ≡ Leaf (pos w -ℤ pos 9223372036854775808)
unfolding word_part
word_leaf wide w l =
    ap (λ b. cond b (At w) (cond (nat_lt w 8589934592) (Leaf (get_or wide (w - 4294967296) (pos 0))) (Leaf (pos w -ℤ pos 9223372036854775808)))) (le-ltb w 4294967296 (omega (arith, l)))
    ∙ ap (λ b. cond b (Leaf (get_or wide (w - 4294967296) (pos 0))) (Leaf (pos w -ℤ pos 9223372036854775808))) (le-ltb w 8589934592 l)

-- a word whose wide leaf is there keeps its part as more wide leaves come

pub word_grows : (wide more : List ℤ) (w : ℕ) → IsWideLeafWithin (length wide) w → word_part (wide ++ more) w ≡ word_part wide w
word_grows wide more w h =
    ⊎_elim
    (λ (l : w < 4294967296). word_at (wide ++ more) w l ∙ sym (word_at wide w l))
    (λ (l : 4294967296 ≤ w).
    ⊎_elim
    (λ (m : w < 8589934592). word_wide (wide ++ more) w l m ∙ ap Leaf (get_or_append_left wide more (pos 0) (w - 4294967296) (h l m)) ∙ sym (word_wide wide w l m))
    (λ (m : 8589934592 ≤ w). word_leaf (wide ++ more) w m ∙ sym (word_leaf wide w m))
    (cases_lt w 8589934592))
    (cases_lt w 4294967296)

within_rest : (n w : ℕ) (ws : List ℕ) → AreWordsWithin n (w ∷ ws) → AreWordsWithin n ws
within_rest n w ws h k l = h (suc k) (omega arith)

pub parts_grow : (wide more : List ℤ) (ws : List ℕ) → AreWordsWithin (length wide) ws → parts_of (wide ++ more) ws ≡ parts_of wide ws
parts_grow wide more [] h = refl
parts_grow wide more (w ∷ ws) h =
    ap₂ (λ x xs. x ∷ xs) (word_grows wide more w (h 0 (omega arith))) (parts_grow wide more ws (within_rest (length wide) w ws h))

-- one more word

pub within_push : (n m : ℕ) (ws more : List ℕ) (w : ℕ) → n ≤ m → AreWordsWithin n ws → IsWideLeafWithin m w → more ≡ ws ++ w ∷ [] → AreWordsWithin m more
within_push n m ws more w l h x e k j =
    let P : List ℕ → Type 0 = λ v. IsWideLeafWithin m (get_or v k 0) in
    let size : k < length (ws ++ w ∷ []) = omega (arith, j, ap length e) in
    subst P (sym e) (
    ⊎_elim
    (λ (low : k < length ws). (let Q : ℕ → Type 0 = λ v. IsWideLeafWithin m v in subst Q (sym (get_or_append_left ws (w ∷ []) 0 k low)) (λ a b. (let o : get_or ws k 0 - 4294967296 < n = h k low a b in omega (arith, o, l)))))
    (λ (high : length ws ≤ k). (let last : length ws ≡ k = omega (arith, size, length_push ws w) in let Q : ℕ → Type 0 = λ v. IsWideLeafWithin m v in subst Q (sym (get_or_push ws w 0 k last)) x))
    (cases_lt k (length ws)))

pub plain_within : (n w : ℕ) → IsPlain w → IsWideLeafWithin n w
plain_within n w h l m = absurd (omega (arith, h.apart l, m))

pub parts_push : (wide : List ℤ) (ws more : List ℕ) (w : ℕ) (view : List Part) (a : Part) → parts_of wide ws ≡ view → more ≡ ws ++ w ∷ [] → word_part wide w ≡ a → parts_of wide more ≡ view ++ a ∷ []
parts_push wide ws more w view a v e p = ap (parts_of wide) e ∙ map-append (word_part wide) ws (w ∷ []) ∙ ap₂ (λ x y. x ++ y ∷ []) v p

pub parts_take : (wide : List ℤ) (ws less : List ℕ) (view : List Part) (n : ℕ) → parts_of wide ws ≡ view → less ≡ take n ws → parts_of wide less ≡ take n view
parts_take wide ws less view n v e = ap (parts_of wide) e ∙ sym (take-map (word_part wide) n ws) ∙ ap (take n) v

pub part_of_word : (wide : List ℤ) (ws : List ℕ) (view : List Part) (k w : ℕ) (a : Part) → parts_of wide ws ≡ view → k < length view → w ≡ get_or ws k w → word_part wide w ≡ a → a ≡ get_or view k (Leaf (pos 0))
part_of_word wide ws view k w a v l e p =
    let size : length view ≡ length ws = ap length (sym v) ∙ length-map ws (word_part wide) in
    sym p ∙ ap (word_part wide) e ∙ sym (get_or-map (word_part wide) ws k w (Leaf (pos 0)) (omega (arith, size, l))) ∙ ap (λ x. get_or x k (Leaf (pos 0))) v

pub within_at : (wide : List ℤ) (ws : List ℕ) (view : List Part) (n k w : ℕ) → parts_of wide ws ≡ view → AreWordsWithin n ws → k < length view → w ≡ get_or ws k w → 4294967296 ≤ w → w < 8589934592 → w - 4294967296 < n
within_at wide ws view n k w v h l e a b =
    let size : length view ≡ length ws = ap length (sym v) ∙ length-map ws (word_part wide) in
    let low : k < length ws = omega (arith, size, l) in
    let f : w ≡ get_or ws k 0 = e ∙ get_or_default ws k w 0 low in
    let there : get_or ws k 0 - 4294967296 < n = h k low (omega (arith, f, a)) (omega (arith, f, b)) in
    omega (arith, f, there)

pub plain_at : (part : Part) (w : ℕ) → part ≡ At w → w < 4294967296 → IsPlain w × ((wide : List ℤ) → word_part wide w ≡ part)
plain_at part w e l = (record { apart = λ m. absurd (omega (arith, l, m)) }, λ wide. word_at wide w l ∙ sym e)

pub plain_leaf : (part : Part) (w : ℕ) (z : ℤ) → part ≡ Leaf z → pos w ≡ z +ℤ pos 9223372036854775808 → negsuc 9223372028264841215 ≤ℤ z → IsPlain w × ((wide : List ℤ) → word_part wide w ≡ part)
plain_leaf part w z e f l =
    let high : 8589934592 ≤ w = omega (arith, ints, f, l) in
    let same : pos w -ℤ pos 9223372036854775808 ≡ z = omega (arith, ints, f) in
    (record { apart = λ m. high }, λ wide. word_leaf wide w high ∙ ap Leaf same ∙ sym e)

pub wide_is : (wide vals : List ℤ) (z y : ℤ) (k : ℕ) → vals ≡ wide → k < length vals → y ≡ get_or vals k y → y ≡ z → k < 4294967295 → IsWordOf wide (Leaf z) (4294967296 + k)
wide_is wide vals z y k v l e f m =
    let low : k < length wide = omega (arith, l, ap length v) in
    record {
      within = λ a b. omega (arith, low);
      is = word_wide wide (4294967296 + k) (omega arith) (omega (arith, m)) ∙ ap Leaf (ap (λ i. get_or wide i (pos 0)) (omega arith) ∙ get_or_default wide k (pos 0) y low ∙ ap (λ x. get_or x k y) (sym v) ∙ sym e ∙ f);
    }

pub wide_added : (old new : List ℤ) (z : ℤ) (k : ℕ) → new ≡ old ++ z ∷ [] → k ≡ length old → k < 4294967295 → AreLeavesGrown old new × IsWordOf new (Leaf z) (4294967296 + k)
wide_added old new z k e n m =
    let size : length new ≡ suc (length old) = omega (arith, ap length e, length_push old z) in (
      record { rest = z ∷ []; is = e },
      record {
        within = λ a b. omega (arith, size, n);
        is = word_wide new (4294967296 + k) (omega arith) (omega (arith, m)) ∙ ap Leaf (ap₂ (λ x y. get_or x y (pos 0)) e (omega arith) ∙ get_or_push old z (pos 0) k (sym n));
      },
    )

pub plain_word_of : (wide : List ℤ) (part : Part) (w : ℕ) → IsPlain w × ((wide : List ℤ) → word_part wide w ≡ part) → IsWordOf wide part w
plain_word_of wide part w h = record { within = plain_within (length wide) w h.0; is = h.1 wide }

pub grown_none : (wide : List ℤ) → AreLeavesGrown wide wide
grown_none wide = record { rest = []; is = sym (append-nil wide) }

pub within_of_word : (wide : List ℤ) (ws : List ℕ) (view : List Part) (n k w : ℕ) → parts_of wide ws ≡ view → AreWordsWithin n ws → k < length view → w ≡ get_or ws k w → IsWideLeafWithin n w
within_of_word wide ws view n k w v h l e a b = within_at wide ws view n k w v h l e a b

pub grown_size : (wide more : List ℤ) → AreLeavesGrown wide more → length wide ≤ length more
grown_size wide more g = omega (arith, ap length g.is, length-append wide g.rest)

pub parts_same : (wide more : List ℤ) (ws same : List ℕ) (view : List Part) → parts_of wide ws ≡ view → AreWordsWithin (length wide) ws → AreLeavesGrown wide more → same ≡ ws → parts_of more same ≡ view
parts_same wide more ws same view v h g f = ap₂ parts_of g.is f ∙ parts_grow wide g.rest ws h ∙ v

pub parts_kept : (wide more : List ℤ) (ws next : List ℕ) (view : List Part) (w : ℕ) (a : Part) → parts_of wide ws ≡ view → AreWordsWithin (length wide) ws → AreLeavesGrown wide more → next ≡ ws ++ w ∷ [] → IsWordOf more a w → parts_of more next ≡ view ++ a ∷ []
parts_kept wide more ws next view w a v h g f x = parts_push more ws next w view a (parts_same wide more ws ws view v h g refl) f x.is

pub within_same : (wide more : List ℤ) (ws : List ℕ) → AreWordsWithin (length wide) ws → AreLeavesGrown wide more → AreWordsWithin (length more) ws
within_same wide more ws h g k l a b = (let o : get_or ws k 0 - 4294967296 < length wide = h k l a b in omega (arith, o, grown_size wide more g))

pub within_kept : (wide more : List ℤ) (ws next : List ℕ) (w : ℕ) (a : Part) → AreWordsWithin (length wide) ws → AreLeavesGrown wide more → next ≡ ws ++ w ∷ [] → IsWordOf more a w → AreWordsWithin (length more) next
within_kept wide more ws next w a h g f x = within_push (length wide) (length more) ws next w (grown_size wide more g) h x.within f

pub drop_first : (xs : List Part) (i : ℕ) → i < length xs → drop i xs ≡ get_or xs i (Leaf (pos 0)) ∷ drop (suc i) xs
drop_first [] i l = absurd (omega arith)
drop_first (x ∷ xs) zero l = refl
drop_first (x ∷ xs) (suc i) l = drop_first xs i (omega arith)

-- words that say their parts by themselves

either : (w : ℕ) → IsPlain w → (w < 4294967296) ⊎ (8589934592 ≤ w)
either w h = ⊎_elim (λ l. inl l) (λ l. inr (h.apart l)) (cases_lt w 4294967296)

pub plain_is : (wide more : List ℤ) (w : ℕ) → IsPlain w → word_part wide w ≡ word_part more w
plain_is wide more w h =
    ⊎_elim
    (λ (l : w < 4294967296). word_at wide w l ∙ sym (word_at more w l))
    (λ (l : 8589934592 ≤ w). word_leaf wide w l ∙ sym (word_leaf more w l))
    (either w h)

pub plain_low : (wide : List ℤ) (w : ℕ) → IsPlain w → w < 8589934592 → word_part wide w ≡ At w
plain_low wide w h l =
    ⊎_elim
    (λ (m : w < 4294967296). word_at wide w m)
    (λ (m : 8589934592 ≤ w). absurd (omega arith))
    (either w h)

abbrev place_of : Part → ℕ
place_of (Leaf z) = 0
place_of (At i) = i

abbrev value_of : Part → ℤ
value_of (Leaf z) = z
value_of (At i) = pos 0

abbrev is_node : Part → Bool
is_node (Leaf z) = false
is_node (At i) = true

pub plain_same : (wide more : List ℤ) (w v : ℕ) → IsPlain w → IsPlain v → word_part wide w ≡ word_part more v → w ≡ v
plain_same wide more w v h k e =
    ⊎_elim
    (λ (l : w < 4294967296).
    ⊎_elim
    (λ (m : v < 4294967296). ap place_of (sym (word_at wide w l) ∙ e ∙ word_at more v m))
    (λ (m : 8589934592 ≤ v). absurd (false≢true (sym (ap is_node (sym (word_at wide w l) ∙ e ∙ word_leaf more v m)))))
    (either v k))
    (λ (l : 8589934592 ≤ w).
    ⊎_elim
    (λ (m : v < 4294967296). absurd (false≢true (ap is_node (sym (word_leaf wide w l) ∙ e ∙ word_at more v m))))
    (λ (m : 8589934592 ≤ v).
    (let same : pos w -ℤ pos 9223372036854775808 ≡ pos v -ℤ pos 9223372036854775808 = ap value_of (sym (word_leaf wide w l) ∙ e ∙ word_leaf more v m) in
    omega (arith, ints, same)))
    (either v k))
    (either w h)

-- the part at a place whose word says it by itself
pub word_from : (wide more : List ℤ) (ws : List ℕ) (view : List Part) (k w : ℕ) → parts_of more ws ≡ view → k < length view → w ≡ get_or ws k w → IsPlain w → IsWordOf wide (get_or view k (Leaf (pos 0))) w
word_from wide more ws view k w v l e h = record {
  within = plain_within (length wide) w h;
  is = plain_is wide more w h ∙ part_of_word more ws view k w (word_part more w) v l e refl;
}

pub same_words : (wide more : List ℤ) (ws vs : List ℕ) (view other : List Part) (i j w v : ℕ) → parts_of wide ws ≡ view → parts_of more vs ≡ other → i < length view → j < length other → w ≡ get_or ws i w → v ≡ get_or vs j v → IsPlain w → IsPlain v → (w ≡ v) ↔ (get_or view i (Leaf (pos 0)) ≡ get_or other j (Leaf (pos 0)))
same_words wide more ws vs view other i j w v a b l m e f h k =
    let left : word_part wide w ≡ get_or view i (Leaf (pos 0)) = part_of_word wide ws view i w (word_part wide w) a l e refl in
    let right : word_part more v ≡ get_or other j (Leaf (pos 0)) = part_of_word more vs other j v (word_part more v) b m f refl in
    (λ q. sym left ∙ plain_is wide more w h ∙ ap (word_part more) q ∙ right, λ q. plain_same wide more w v h k (left ∙ q ∙ sym right))

-- the hash with a word is the hash with its part

word_hash : (wide : List ℤ) (w h : ℕ) → IsPlain w → w < 18446744073709551616 → mixed h w ≡ part_hash h (word_part wide w)
unfolding part_hash leaf_hash
word_hash wide w h p l =
    ⊎_elim
    (λ (m : w < 4294967296). sym (ap (part_hash h) (word_at wide w m)))
    (λ (m : 8589934592 ≤ w).
    (let back : pos w -ℤ pos 9223372036854775808 +ℤ pos 9223372036854775808 ≡ pos w = omega (arith, ints) in
    let near : w % 18446744073709551616 ≡ w = omega (arith, l) in
    sym (ap (part_hash h) (word_leaf wide w m) ∙ ap (λ z. mixed h (unsigned_abs z % 18446744073709551616)) back ∙ ap (mixed h) near)))
    (either w p)

pub hash_with : (wide : List ℤ) (ws : List ℕ) (view : List Part) (k w h r : ℕ) → parts_of wide ws ≡ view → k < length view → w ≡ get_or ws k w → IsPlain w → w < 18446744073709551616 → r ≡ mixed h w → r ≡ part_hash h (get_or view k (Leaf (pos 0)))
hash_with wide ws view k w h r v l e p m f = f ∙ word_hash wide w h p m ∙ ap (part_hash h) (part_of_word wide ws view k w (word_part wide w) v l e refl)

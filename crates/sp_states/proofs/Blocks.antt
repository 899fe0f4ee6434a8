-- The entries of a block of states, as they are appended.
use Rattle.std.proofs.Common.{◌≡◌, ◌≢◌, ℕ, zero, suc, ◌+◌, ◌*◌, ◌<◌, ◌≤◌, ⊎_elim, List, [], ◌∷◌, ◌++◌, length, replicate, ℤ, pos, negsuc, ◌≤ℤ◌, unsigned_abs, Bool, true, false, MatchBool, sym, ◌∙◌, ap, ap₂, refl, subst, arith, append_assoc}
use Rattle.std.proofs.lemmas.Bool.{cases_lt, false≢true}
use Rattle.std.proofs.lemmas.Int.{ints}
use Rattle.std.proofs.lemmas.List.{length-append, append-nil}
use Rattle.sp_states.specs.declared.support.Entry.{Entry}
use Rattle.sp_states.specs.States.{joined_to, entries_from}
use Rattle.sp_states.proofs.Listing.{joined_length}
use Rattle.sp_states.proofs.Entries.{entries-append, entries_none, entries_more}

pub block_first : (b : ℕ) (old : List Entry) → old ≡ old ++ entries_from b []
unfolding entries_from
block_first b old = sym (append-nil old)

-- a block without weight
pub block_none : (b n w room : ℕ) (old : List Entry) → w ≡ 0 → length old ≤ room → (old ≡ old ++ entries_from b (replicate n (pos w))) × (length (old ++ entries_from b (replicate n (pos w))) ≤ room)
block_none b n w room old e l =
    let none : entries_from b (replicate n (pos w)) ≡ [] = ap (λ x. entries_from b (replicate n (pos x))) e ∙ entries_none b n in
    let same : old ++ entries_from b (replicate n (pos w)) ≡ old = ap (λ x. old ++ x) none ∙ append-nil old in
    (sym same, subst (λ (x : List Entry). length x ≤ room) (sym same) l)

-- one state more
pub block_more : (b k w : ℕ) (old xs ys : List Entry) → w ≢ 0 → xs ≡ old ++ entries_from b (replicate k (pos w)) → ys ≡ xs ++ (record { state = b + k; weight = w } ∷ []) → ys ≡ old ++ entries_from b (replicate (k + 1) (pos w))
block_more b k w old xs ys ne e f =
    let one : List Entry = record { state = b + k; weight = w } ∷ [] in
    f ∙ ap (λ x. x ++ one) e ∙ append_assoc old (entries_from b (replicate k (pos w))) one ∙ ap (λ x. old ++ x) (sym (entries_more b k w ne))

-- where there is no room for the next state, there is none for all
pub block_past : (b k n w room : ℕ) (old xs : List Entry) → w ≢ 0 → xs ≡ old ++ entries_from b (replicate k (pos w)) → k < n → length xs ≡ room → room < length (old ++ entries_from b (replicate n (pos w)))
block_past b k n w room old xs ne e l m = past_to n l
  where
    at : ℕ → List Entry
    at i = old ++ entries_from b (replicate i (pos w))

    next : (i : ℕ) → length (old ++ entries_from b (replicate (suc i) (pos w))) ≡ length (old ++ entries_from b (replicate i (pos w))) + 1
    next i =
        let one : List Entry = record { state = b + i; weight = w } ∷ [] in
        let up : suc i ≡ i + 1 = omega arith in
        omega (arith, ap (λ j. length (old ++ entries_from b (replicate j (pos w)))) up, ap (λ x. length (old ++ x)) (entries_more b i w ne), length-append old (entries_from b (replicate i (pos w)) ++ one), length-append (entries_from b (replicate i (pos w))) one, length-append old (entries_from b (replicate i (pos w))))

    past_to : (i : ℕ) → k < i → room < length (old ++ entries_from b (replicate i (pos w)))
    past_to zero l = absurd (omega arith)
    past_to (suc i) l =
        ⊎_elim
        (λ (low : k < i). omega (arith, next i, past_to i low))
        (λ (high : i ≤ k). (let is : i ≡ k = omega arith in omega (arith, next i, ap (λ j. length (old ++ entries_from b (replicate j (pos w)))) is, ap length e, m)))
        (cases_lt k i)

-- ---- blocks one after another

-- the next block
pub joined_more : (b v p first : ℕ) (g : ℕ → List ℤ) (old xs ys : List Entry) → ((u : ℕ) → length (g u) ≡ p) → first ≡ b + v * p → xs ≡ old ++ entries_from b (joined_to v g) → ys ≡ xs ++ entries_from first (g v) → ys ≡ old ++ entries_from b (joined_to (v + 1) g)
joined_more b v p first g old xs ys e f h k =
    let up : suc v ≡ v + 1 = omega arith in
    let long : length (joined_to v g) ≡ v * p = joined_length v p g e in
    let at : first ≡ b + length (joined_to v g) = omega (arith, f, long) in
    k
    ∙ ap₂ (λ x i. x ++ entries_from i (g v)) h at
    ∙ append_assoc old (entries_from b (joined_to v g)) (entries_from (b + length (joined_to v g)) (g v))
    ∙ ap (λ x. old ++ x) (sym (entries-append b (joined_to v g) (g v)))
    ∙ ap (λ n. old ++ entries_from b (joined_to n g)) up

-- where there is no room for a block, there is none for all
pub joined_past : (b v n p first room : ℕ) (g : ℕ → List ℤ) (old xs : List Entry) → ((u : ℕ) → length (g u) ≡ p) → first ≡ b + v * p → xs ≡ old ++ entries_from b (joined_to v g) → v < n → room < length (xs ++ entries_from first (g v)) → room < length (old ++ entries_from b (joined_to n g))
joined_past b v n p first room g old xs e f h l m = past_to n l
  where
    at_next : room < length (old ++ entries_from b (joined_to (v + 1) g))
    at_next = subst (λ (x : List Entry). room < length x) (joined_more b v p first g old xs (xs ++ entries_from first (g v)) e f h refl) m

    next : (i : ℕ) → length (old ++ entries_from b (joined_to i g)) ≤ length (old ++ entries_from b (joined_to (suc i) g))
    next i = omega (arith, ap (λ x. length (old ++ x)) (entries-append b (joined_to i g) (g i)), length-append old (entries_from b (joined_to i g) ++ entries_from (b + length (joined_to i g)) (g i)), length-append (entries_from b (joined_to i g)) (entries_from (b + length (joined_to i g)) (g i)), length-append old (entries_from b (joined_to i g)))

    past_to : (i : ℕ) → v < i → room < length (old ++ entries_from b (joined_to i g))
    past_to zero l = absurd (omega arith)
    past_to (suc i) l =
        ⊎_elim
        (λ (low : v < i). omega (arith, next i, past_to i low))
        (λ (high : i ≤ v). (let is : v + 1 ≡ suc i = omega arith in subst (λ j. room < length (old ++ entries_from b (joined_to j g))) is at_next))
        (cases_lt v i)

-- ---- an answer with its list

-- what is answered of a list of entries: whether there is room for it
abbrev pub IsAppended : Bool → ℕ → List Entry → List Entry → Type 0
IsAppended whole room new more = MatchBool whole ((new ≡ more) × (length more ≤ room)) (room < length more)

pub appended_as : (t : Bool) (b room : ℕ) (old new : List Entry) (vs ws : List ℤ) → vs ≡ ws → IsAppended t room new (old ++ entries_from b vs) → IsAppended t room new (old ++ entries_from b ws)
appended_as t b room old new vs ws e h = subst (λ us. IsAppended t room new (old ++ entries_from b us)) e h

pub appended_yes : (t : Bool) (room : ℕ) (new more : List Entry) → t ≡ true → IsAppended t room new more → (new ≡ more) × (length more ≤ room)
appended_yes true room new more e h = h
appended_yes false room new more e h = absurd (false≢true e)

pub appended_no : (t : Bool) (room : ℕ) (new more : List Entry) → t ≡ false → IsAppended t room new more → room < length more
appended_no true room new more e h = absurd (false≢true (sym e))
appended_no false room new more e h = h

pub whole_weight : (z : ℤ) → pos 0 ≤ℤ z → pos (unsigned_abs z) ≡ z
whole_weight (pos n) h = refl
whole_weight (negsuc n) h = absurd (omega (arith, ints))

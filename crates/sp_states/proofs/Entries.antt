-- The entries of values.
use Rattle.std.proofs.Common.{◌≡◌, ◌≢◌, ℕ, zero, suc, ◌+◌, ◌<◌, ◌≤◌, List, [], ◌∷◌, ◌++◌, length, get_or, replicate, ℤ, pos, unsigned_abs, Bool, true, false, cond, not, count_by, nat_eq, sym, ◌∙◌, ap, refl, arith, All}
use Rattle.std.specs.Ordering.{int_eq}
use Rattle.std.proofs.lemmas.Bool.Decides.{Decides-eqb, Decides-int_eq}
use Rattle.std.proofs.lemmas.List.{replicate_more, length-replicate}
use Rattle.std.proofs.lemmas.List.Sums.{sum_by-cons}
use Rattle.std.proofs.lemmas.List.Elements.{All-nil, All-cons}
use Rattle.sp_states.specs.declared.support.Entry.{Entry}
use Rattle.sp_states.specs.States.{weight_in, entries_from}

abbrev entry : ℕ → ℤ → Entry
entry b z = record { state = b; weight = unsigned_abs z }

append_step : (t : Bool) (e : Entry) (xs ys zs : List Entry) → zs ≡ xs ++ ys → cond t zs (e ∷ zs) ≡ cond t xs (e ∷ xs) ++ ys
append_step true e xs ys zs h = h
append_step false e xs ys zs h = ap (λ l. e ∷ l) h

pub entries-append : (b : ℕ) (xs ys : List ℤ) → entries_from b (xs ++ ys) ≡ entries_from b xs ++ entries_from (b + length xs) ys
unfolding entries_from
entries-append b [] ys = (let e : b ≡ b + 0 = omega arith in ap (λ k. entries_from k ys) e)
entries-append b (z ∷ xs) ys =
    let e : suc b + length xs ≡ b + suc (length xs) = omega arith in
    append_step (int_eq z (pos 0)) (entry b z) (entries_from (suc b) xs) (entries_from (b + suc (length xs)) ys) (entries_from (suc b) (xs ++ ys)) (entries-append (suc b) xs ys ∙ ap (λ k. entries_from (suc b) xs ++ entries_from k ys) e)

pub entries_none : (b n : ℕ) → entries_from b (replicate n (pos 0)) ≡ []
unfolding entries_from
entries_none b zero = refl
entries_none b (suc n) = entries_none (suc b) n

entries_one : (t : Bool) (b w : ℕ) → int_eq (pos w) (pos 0) ≡ t → w ≢ 0 → cond t (entries_from (suc b) []) (entry b (pos w) ∷ entries_from (suc b) []) ≡ (let e : Entry = record { state = b; weight = w } in e ∷ [])
unfolding entries_from
entries_one true b w e ne = absurd (ne (omega (arith, ap unsigned_abs ((Decides-int_eq (pos w) (pos 0)).0 e))))
entries_one false b w e ne = refl

pub entries_more : (b k w : ℕ) → w ≢ 0 → entries_from b (replicate (k + 1) (pos w)) ≡ entries_from b (replicate k (pos w)) ++ (record { state = b + k; weight = w } ∷ [])
unfolding entries_from
entries_more b k w ne =
    let ws : List ℤ = replicate k (pos w) in
    ap (entries_from b) (sym (replicate_more k (pos w)))
    ∙ entries-append b ws (pos w ∷ [])
    ∙ ap (λ n. entries_from b ws ++ entries_from (b + n) (pos w ∷ [])) (length-replicate k (pos w))
    ∙ ap (λ l. entries_from b ws ++ l) (entries_one (int_eq (pos w) (pos 0)) (b + k) w refl ne)

-- ---- states

below_step : (t : Bool) (n : ℕ) (e : Entry) (es : List Entry) → e.state < n → All (λ (x : Entry). x.state < n) es → All (λ (x : Entry). x.state < n) (cond t es (e ∷ es))
below_step true n e es l h = h
below_step false n e es l h = All-cons (λ (x : Entry). x.state < n) e es l h

pub entries_below : (b n : ℕ) (zs : List ℤ) → b + length zs ≤ n → All (λ (x : Entry). x.state < n) (entries_from b zs)
unfolding entries_from
entries_below b n [] l = All-nil (λ (x : Entry). x.state < n)
entries_below b n (z ∷ zs) l = below_step (int_eq z (pos 0)) n (entry b z) (entries_from (suc b) zs) (omega arith) (entries_below (suc b) n zs (omega arith))

-- ---- counts

count_step : (t : Bool) (e : Entry) (es : List Entry) (n : ℕ) → length es ≡ n → length (cond t es (e ∷ es)) ≡ cond (not t) 1 0 + n
count_step true e es n h = omega (arith, h)
count_step false e es n h = omega (arith, h)

pub entries_count : (b : ℕ) (zs : List ℤ) → length (entries_from b zs) ≡ count_by (λ z. not (int_eq z (pos 0))) zs
unfolding entries_from
entries_count b [] = refl
entries_count b (z ∷ zs) =
    count_step (int_eq z (pos 0)) (entry b z) (entries_from (suc b) zs) (count_by (λ z. not (int_eq z (pos 0))) zs) (entries_count (suc b) zs) ∙ sym (sum_by-cons (λ z. cond (not (int_eq z (pos 0))) 1 0) z zs)

-- ---- weights

none_step : (t : Bool) (e : Entry) (es : List Entry) (k : ℕ) → nat_eq e.state k ≡ false → weight_in es k ≡ 0 → weight_in (cond t es (e ∷ es)) k ≡ 0
unfolding weight_in
none_step true e es k ne h = h
none_step false e es k ne h = omega (arith, ap (λ x. cond x e.weight 0) ne, h)

apart : (t : Bool) (b k : ℕ) → nat_eq b k ≡ t → b ≢ k → nat_eq b k ≡ false
apart true b k e ne = absurd (ne ((Decides-eqb b k).0 e))
apart false b k e ne = e

pub weight_before : (b k : ℕ) (zs : List ℤ) → k < b → weight_in (entries_from b zs) k ≡ 0
unfolding entries_from weight_in
weight_before b k [] l = refl
weight_before b k (z ∷ zs) l = none_step (int_eq z (pos 0)) (entry b z) (entries_from (suc b) zs) k (apart (nat_eq b k) b k refl (omega arith)) (weight_before (suc b) k zs (omega arith))

here_step : (t : Bool) (z : ℤ) (b : ℕ) (es : List Entry) → int_eq z (pos 0) ≡ t → weight_in es b ≡ 0 → weight_in (cond t es (entry b z ∷ es)) b ≡ unsigned_abs z
unfolding weight_in
here_step true z b es e h = h ∙ sym (ap unsigned_abs ((Decides-int_eq z (pos 0)).0 e))
here_step false z b es e h = omega (arith, ap (λ x. cond x (unsigned_abs z) 0) ((Decides-eqb b b).1 refl), h)

after_step : (t : Bool) (e : Entry) (es : List Entry) (k n : ℕ) → nat_eq e.state k ≡ false → weight_in es k ≡ n → weight_in (cond t es (e ∷ es)) k ≡ n
unfolding weight_in
after_step true e es k n ne h = h
after_step false e es k n ne h = omega (arith, ap (λ x. cond x e.weight 0) ne, h)

-- the weight of a state is the size of its value
pub weight_there : (b j k : ℕ) (zs : List ℤ) → b + j ≡ k → weight_in (entries_from b zs) k ≡ unsigned_abs (get_or zs j (pos 0))
unfolding entries_from weight_in
weight_there b j k [] e = refl
weight_there b zero k (z ∷ zs) e =
    let is : b ≡ k = omega arith in
    ap (λ i. weight_in (cond (int_eq z (pos 0)) (entries_from (suc b) zs) (entry b z ∷ entries_from (suc b) zs)) i) (sym is)
    ∙ here_step (int_eq z (pos 0)) z b (entries_from (suc b) zs) refl (weight_before (suc b) b zs (omega arith))
weight_there b (suc j) k (z ∷ zs) e =
    after_step (int_eq z (pos 0)) (entry b z) (entries_from (suc b) zs) k (unsigned_abs (get_or zs j (pos 0))) (apart (nat_eq b k) b k refl (omega arith)) (weight_there (suc b) j k zs (omega arith))

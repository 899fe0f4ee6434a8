-- Numbers behind spaces.
use Rattle.std.proofs.Common.{◌≡◌, ℕ, ◌<◌, List, [], ◌∷◌, ◌++◌, length, ap, sym, ◌∙◌, append_assoc, arith}
use Rattle.std.specs.List.{AllByRecursion}
use Rattle.std.specs.Fmt.{decimal}
use Rattle.sp_lines.specs.Lines.{numbers_behind_spaces, spaced_pairs, IsSmall, IsSmallPair, BeginsNoDigit, BeginsSpaced, BeginsPair}
use Rattle.sp_lines.proofs.Digits.{number_told}

pub spaced_ends : (ns : List ℕ) → BeginsNoDigit (numbers_behind_spaces ns)
spaced_ends [] = tt
spaced_ends (n ∷ ns) = λ r. omega (arith, r)

pub spaced_push : (ns : List ℕ) (n : ℕ) (more : List ℕ) → numbers_behind_spaces (ns ++ (n ∷ [])) ++ more ≡ numbers_behind_spaces ns ++ (32 ∷ (decimal n ++ more))
spaced_push [] n more = ap (λ l. 32 ∷ l) (append_assoc (decimal n) [] more)
spaced_push (m ∷ ns) n more = ap (λ l. 32 ∷ l) (append_assoc (decimal m) (numbers_behind_spaces (ns ++ (n ∷ []))) more ∙ ap (λ l. decimal m ++ l) (spaced_push ns n more) ∙ sym (append_assoc (decimal m) (numbers_behind_spaces ns) (32 ∷ (decimal n ++ more))))

pub small_push : (ns : List ℕ) (n : ℕ) → AllByRecursion IsSmall ns → IsSmall n → AllByRecursion IsSmall (ns ++ (n ∷ []))
small_push [] n all small = (small, tt)
small_push (m ∷ ns) n all small = (all.0, small_push ns n all.1 small)

-- what may be left of a list of numbers
abbrev pub IsList : List ℕ → Type 0
IsList text = (ms : List ℕ) × AllByRecursion IsSmall ms × (text ≡ numbers_behind_spaces ms)

pub list_after : (text : List ℕ) (n : ℕ) (more : List ℕ) → BeginsSpaced text n more → IsList text → IsList more
list_after text n more begins ([], small, e) =
    let none : 32 ∷ (decimal n ++ more) ≡ [] = sym begins.is ∙ e in
    cc
list_after text n more begins (m ∷ ms, small, e) =
    let tails : decimal n ++ more ≡ decimal m ++ numbers_behind_spaces ms = cc (begins.is, e) in
    let told = number_told n m more (numbers_behind_spaces ms) begins.small small.0 begins.ends (spaced_ends ms) tails in
    (ms, small.1, told.1)

pub list_begins : (text : List ℕ) → 0 < length text → IsList text → ((n : ℕ) (rest : List ℕ) → ¬ (BeginsSpaced text n rest)) → ⊥
list_begins text some ([], small, e) none = omega (arith, some, ap length e)
list_begins text some (m ∷ ms, small, e) none = none m (numbers_behind_spaces ms) (record { is = e; small = small.0; ends = spaced_ends ms })

-- the first of listed numbers is told
pub spaced_rest : (text : List ℕ) (n : ℕ) (more : List ℕ) (m : ℕ) (ms : List ℕ) → BeginsSpaced text n more → IsSmall m → text ≡ numbers_behind_spaces (m ∷ ms) → (n ≡ m) × (more ≡ numbers_behind_spaces ms)
spaced_rest text n more m ms begins small e =
    let tails : decimal n ++ more ≡ decimal m ++ numbers_behind_spaces ms = cc (begins.is, e) in
    number_told n m more (numbers_behind_spaces ms) begins.small small begins.ends (spaced_ends ms) tails

pub one_read : (text : List ℕ) (n : ℕ) (more : List ℕ) → BeginsSpaced text n more → length more ≡ 0 → text ≡ numbers_behind_spaces (n ∷ [])
one_read text n [] begins e = begins.is
one_read text n (x ∷ more) begins e = absurd (omega (arith, e))

-- ---- pairs
pub pairs_end : (ps : List (ℕ × ℕ)) → BeginsNoDigit (spaced_pairs ps)
pairs_end [] = tt
pairs_end ((x, y) ∷ ps) = λ r. omega (arith, r)

pub pairs_push : (ps : List (ℕ × ℕ)) (x y : ℕ) (more : List ℕ) → spaced_pairs (ps ++ ((x, y) ∷ [])) ++ more ≡ spaced_pairs ps ++ (32 ∷ (decimal x ++ (32 ∷ (decimal y ++ more))))
pairs_push [] x y more = ap (λ l. 32 ∷ l) (append_assoc (decimal x) (32 ∷ (decimal y ++ [])) more ∙ ap (λ l. decimal x ++ (32 ∷ l)) (append_assoc (decimal y) [] more))
pairs_push ((u, v) ∷ ps) x y more =
    let later = pairs_push ps x y more in
    ap (λ l. 32 ∷ l) (append_assoc (decimal u) (32 ∷ (decimal v ++ spaced_pairs (ps ++ ((x, y) ∷ [])))) more
    ∙ ap (λ l. decimal u ++ (32 ∷ l)) (append_assoc (decimal v) (spaced_pairs (ps ++ ((x, y) ∷ []))) more ∙ ap (λ l. decimal v ++ l) later ∙ sym (append_assoc (decimal v) (spaced_pairs ps) (32 ∷ (decimal x ++ (32 ∷ (decimal y ++ more))))))
    ∙ sym (append_assoc (decimal u) (32 ∷ (decimal v ++ spaced_pairs ps)) (32 ∷ (decimal x ++ (32 ∷ (decimal y ++ more))))))

pub small_pairs_push : (ps : List (ℕ × ℕ)) (p : ℕ × ℕ) → AllByRecursion IsSmallPair ps → IsSmallPair p → AllByRecursion IsSmallPair (ps ++ (p ∷ []))
small_pairs_push [] p all small = (small, tt)
small_pairs_push (q ∷ ps) p all small = (all.0, small_pairs_push ps p all.1 small)

abbrev pub ArePairs : List ℕ → Type 0
ArePairs text = (ps : List (ℕ × ℕ)) × AllByRecursion IsSmallPair ps × (text ≡ spaced_pairs ps)

pub pairs_after : (text : List ℕ) (x y : ℕ) (more : List ℕ) → BeginsPair text x y more → ArePairs text → ArePairs more
pairs_after text x y more begins ([], small, e) =
    let none : 32 ∷ (decimal x ++ (32 ∷ (decimal y ++ more))) ≡ [] = sym begins.is ∙ e in
    cc
pairs_after text x y more begins ((u, v) ∷ ps, small, e) =
    let tails : decimal x ++ (32 ∷ (decimal y ++ more)) ≡ decimal u ++ (32 ∷ (decimal v ++ spaced_pairs ps)) = cc (begins.is, e) in
    let first = number_told x u (32 ∷ (decimal y ++ more)) (32 ∷ (decimal v ++ spaced_pairs ps)) begins.small.0 small.0.0 (λ r. omega (arith, r)) (λ r. omega (arith, r)) tails in
    let seconds : decimal y ++ more ≡ decimal v ++ spaced_pairs ps = cc first.1 in
    let second = number_told y v more (spaced_pairs ps) begins.small.1 small.0.1 begins.ends (pairs_end ps) seconds in
    (ps, small.1, second.1)

pub pairs_begin : (text : List ℕ) → 0 < length text → ArePairs text → ((x y : ℕ) (rest : List ℕ) → ¬ (BeginsPair text x y rest)) → ⊥
pairs_begin text some ([], small, e) none = omega (arith, some, ap length e)
pairs_begin text some ((x, y) ∷ ps, small, e) none = none x y (spaced_pairs ps) (record { is = e; small = small.0; ends = pairs_end ps })

-- two numbers one after the other
pub pair_continues : (text : List ℕ) (n : ℕ) (middle : List ℕ) (x y : ℕ) (rest : List ℕ) → BeginsSpaced text n middle → BeginsPair text x y rest → BeginsSpaced middle y rest
pair_continues text n middle x y rest a b =
    let tails : decimal n ++ middle ≡ decimal x ++ (32 ∷ (decimal y ++ rest)) = cc (a.is, b.is) in
    let told = number_told n x middle (32 ∷ (decimal y ++ rest)) a.small b.small.0 a.ends (λ r. omega (arith, r)) tails in
    record { is = told.1; small = b.small.1; ends = b.ends }

pub pair_told : (text : List ℕ) (x y : ℕ) (rest : List ℕ) (u v : ℕ) (more : List ℕ) → BeginsPair text x y rest → BeginsPair text u v more → (x ≡ u) × (y ≡ v) × (rest ≡ more)
pair_told text x y rest u v more a b =
    let tails : decimal x ++ (32 ∷ (decimal y ++ rest)) ≡ decimal u ++ (32 ∷ (decimal v ++ more)) = cc (a.is, b.is) in
    let first = number_told x u (32 ∷ (decimal y ++ rest)) (32 ∷ (decimal v ++ more)) a.small.0 b.small.0 (λ r. omega (arith, r)) (λ r. omega (arith, r)) tails in
    let seconds : decimal y ++ rest ≡ decimal v ++ more = cc first.1 in
    let second = number_told y v rest more a.small.1 b.small.1 a.ends b.ends seconds in
    (first.0, second.0, second.1)

-- a number behind a space is told, and so is what comes after it
pub number_after : (text : List ℕ) (m : ℕ) (rest : List ℕ) (n : ℕ) (more : List ℕ) → BeginsSpaced text m rest → BeginsSpaced text n more → (m ≡ n) × (rest ≡ more)
number_after text m rest n more a b =
    let tails : decimal m ++ rest ≡ decimal n ++ more = cc (a.is, b.is) in
    number_told m n rest more a.small b.small a.ends b.ends tails

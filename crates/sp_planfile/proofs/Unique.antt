-- The line of an event tells the event.
use Rattle.std.proofs.Common.{◌≡◌, ◌≢◌, ℕ, suc, ◌<◌, ◌≤◌, List, [], ◌∷◌, ◌++◌, length, get_or, refl, ap, sym, ◌∙◌, append_assoc, arith, codes, slice_index}
use Rattle.std.specs.List.{AllByRecursion}
use Rattle.std.specs.Fmt.{decimal}
use Rattle.std.proofs.lemmas.Fmt.{decimal_injective}
use Rattle.sp_theory.specs.Book.{Event, settle, publish, prune, end}
use Rattle.sp_lines.specs.Lines.{numbers_behind_spaces, spaced_pairs, Lacks, IsSmall, IsSmallPair}
use Rattle.sp_lines.proofs.Digits.{decimal_lacks}
use Rattle.sp_planfile.specs.RunText.{event_line, HasSmall}
use Rattle.sp_planfile.proofs.Sections.{lacks-append}

-- the numbers of a line have no end of a line in them
pub spaced_lacks : (numbers : List ℕ) → AllByRecursion IsSmall numbers → Lacks 10 (numbers_behind_spaces numbers)
spaced_lacks [] small = tt
spaced_lacks (n ∷ numbers) small = (λ e. omega (arith, e), lacks-append 10 (decimal n) (numbers_behind_spaces numbers) (decimal_lacks 10 n (omega arith) small.0) (spaced_lacks numbers small.1))

pairs_lack : (pairs : List (ℕ × ℕ)) → AllByRecursion IsSmallPair pairs → Lacks 10 (spaced_pairs pairs)
pairs_lack [] small = tt
pairs_lack ((x, y) ∷ pairs) small = (
  λ e. omega (arith, e),
  lacks-append 10 (decimal x) (32 ∷ (decimal y ++ spaced_pairs pairs)) (decimal_lacks 10 x (omega arith) small.0.0)
      (λ e. omega (arith, e), lacks-append 10 (decimal y) (spaced_pairs pairs) (decimal_lacks 10 y (omega arith) small.0.1) (pairs_lack pairs small.1)),
)

-- letters are no end of a line
pub letters : (xs : List ℕ) → AllByRecursion (λ x. 10 < x) xs → Lacks 10 xs
letters [] all = tt
letters (x ∷ xs) all = (λ e. let high : 10 < x = all.0 in omega (arith, e, high), letters xs all.1)

pub line_lacks : (event : Event) → HasSmall event → Lacks 10 (event_line event)
line_lacks (settle k e a links) small = lacks-append 10 (codes "settle") (numbers_behind_spaces (k ∷ e ∷ a ∷ links)) (letters (codes "settle") (omega arith, (omega arith, (omega arith, (omega arith, (omega arith, (omega arith, tt))))))) (spaced_lacks (k ∷ e ∷ a ∷ links) small)
line_lacks publish small = letters (codes "publish") (omega arith, (omega arith, (omega arith, (omega arith, (omega arith, (omega arith, (omega arith, tt)))))))
line_lacks (prune pairs) small = lacks-append 10 (codes "prune") (spaced_pairs pairs) (letters (codes "prune") (omega arith, (omega arith, (omega arith, (omega arith, (omega arith, tt)))))) (pairs_lack pairs small)
line_lacks end small = letters (codes "end") (omega arith, (omega arith, (omega arith, tt)))

-- what follows a number of a line: nothing, or a space
abbrev pub Follows : List ℕ → Type 0
Follows [] = Unit {0}
Follows (x ∷ xs) = x ≡ 32

spaced_follows : (numbers : List ℕ) → Follows (numbers_behind_spaces numbers)
spaced_follows [] = tt
spaced_follows (n ∷ numbers) = refl

pairs_follow : (pairs : List (ℕ × ℕ)) → Follows (spaced_pairs pairs)
pairs_follow [] = tt
pairs_follow ((x, y) ∷ pairs) = refl

-- a word before what may follow it is told
word_of : (xs ys us vs : List ℕ) → Lacks 32 xs → Lacks 32 ys → Follows us → Follows vs → xs ++ us ≡ ys ++ vs → (xs ≡ ys) × (us ≡ vs)
word_of [] [] us vs a b f g e = (refl, e)
word_of [] (y ∷ ys) [] vs a b f g e = cc
word_of [] (y ∷ ys) (u ∷ us) vs a b f g e = let same : u ≡ y = cc in absurd (b.0 (sym same ∙ f))
word_of (x ∷ xs) [] us [] a b f g e = cc
word_of (x ∷ xs) [] us (v ∷ vs) a b f g e = let same : x ≡ v = cc in absurd (a.0 (same ∙ g))
word_of (x ∷ xs) (y ∷ ys) us vs a b f g e =
    let first : x ≡ y = cc in
    let rest : xs ++ us ≡ ys ++ vs = cc in
    let more = word_of xs ys us vs a.1 b.1 f g rest in
    (cc (first, more.0), more.1)

number_of : (m n : ℕ) (us vs : List ℕ) → IsSmall m → IsSmall n → Follows us → Follows vs → decimal m ++ us ≡ decimal n ++ vs → (m ≡ n) × (us ≡ vs)
number_of m n us vs a b f g e =
    let words = word_of (decimal m) (decimal n) us vs (decimal_lacks 32 m (omega arith) a) (decimal_lacks 32 n (omega arith) b) f g e in
    (decimal_injective m n a b words.0, words.1)

pub spaced_tells : (xs ys : List ℕ) → AllByRecursion IsSmall xs → AllByRecursion IsSmall ys → numbers_behind_spaces xs ≡ numbers_behind_spaces ys → xs ≡ ys
spaced_tells [] [] a b e = refl
spaced_tells [] (y ∷ ys) a b e = cc
spaced_tells (x ∷ xs) [] a b e = cc
spaced_tells (x ∷ xs) (y ∷ ys) a b e =
    let tails : decimal x ++ numbers_behind_spaces xs ≡ decimal y ++ numbers_behind_spaces ys = cc in
    let one = number_of x y (numbers_behind_spaces xs) (numbers_behind_spaces ys) a.0 b.0 (spaced_follows xs) (spaced_follows ys) tails in
    let rest = spaced_tells xs ys a.1 b.1 one.1 in
    cc (one.0, rest)

pairs_tell : (xs ys : List (ℕ × ℕ)) → AllByRecursion IsSmallPair xs → AllByRecursion IsSmallPair ys → spaced_pairs xs ≡ spaced_pairs ys → xs ≡ ys
pairs_tell [] [] a b e = refl
pairs_tell [] ((x, y) ∷ ys) a b e = cc
pairs_tell ((x, y) ∷ xs) [] a b e = cc
pairs_tell ((x, y) ∷ xs) ((u, v) ∷ ys) a b e =
    let tails : decimal x ++ (32 ∷ (decimal y ++ spaced_pairs xs)) ≡ decimal u ++ (32 ∷ (decimal v ++ spaced_pairs ys)) = cc in
    let one = number_of x u (32 ∷ (decimal y ++ spaced_pairs xs)) (32 ∷ (decimal v ++ spaced_pairs ys)) a.0.0 b.0.0 refl refl tails in
    let seconds : decimal y ++ spaced_pairs xs ≡ decimal v ++ spaced_pairs ys = cc one.1 in
    let two = number_of y v (spaced_pairs xs) (spaced_pairs ys) a.0.1 b.0.1 (pairs_follow xs) (pairs_follow ys) seconds in
    let rest = pairs_tell xs ys a.1 b.1 two.1 in
    cc (one.0, two.0, rest)

-- lines that begin otherwise are different
pub differs : (k : ℕ) (x y : List ℕ) → x ≡ y → slice_index x k < slice_index y k → ⊥
differs k x y e less = omega (arith, ap (λ w. slice_index w k) e, less)

pub line_tells : (event other : Event) → HasSmall event → HasSmall other → event_line event ≡ event_line other → event ≡ other
line_tells (settle k e a links) (settle k' e' a' links') small small' same =
    let numbers : numbers_behind_spaces (k ∷ e ∷ a ∷ links) ≡ numbers_behind_spaces (k' ∷ e' ∷ a' ∷ links') = cc same in
    let all = spaced_tells (k ∷ e ∷ a ∷ links) (k' ∷ e' ∷ a' ∷ links') small small' numbers in
    cc all
line_tells (settle k e a links) publish small small' same = absurd (differs 0 (event_line publish) (event_line (settle k e a links)) (sym same) (omega arith))
line_tells (settle k e a links) (prune pairs) small small' same = absurd (differs 0 (event_line (prune pairs)) (event_line (settle k e a links)) (sym same) (omega arith))
line_tells (settle k e a links) end small small' same = absurd (differs 0 (event_line end) (event_line (settle k e a links)) (sym same) (omega arith))
line_tells publish (settle k e a links) small small' same = absurd (differs 0 (event_line publish) (event_line (settle k e a links)) same (omega arith))
line_tells publish publish small small' same = refl
line_tells publish (prune pairs) small small' same = absurd (differs 1 (event_line (prune pairs)) (event_line publish) (sym same) (omega arith))
line_tells publish end small small' same = absurd (differs 0 (event_line end) (event_line publish) (sym same) (omega arith))
line_tells (prune pairs) (settle k e a links) small small' same = absurd (differs 0 (event_line (prune pairs)) (event_line (settle k e a links)) same (omega arith))
line_tells (prune pairs) publish small small' same = absurd (differs 1 (event_line (prune pairs)) (event_line publish) same (omega arith))
line_tells (prune pairs) (prune others) small small' same =
    let numbers : spaced_pairs pairs ≡ spaced_pairs others = cc same in
    ap prune (pairs_tell pairs others small small' numbers)
line_tells (prune pairs) end small small' same = absurd (differs 0 (event_line end) (event_line (prune pairs)) (sym same) (omega arith))
line_tells end (settle k e a links) small small' same = absurd (differs 0 (event_line end) (event_line (settle k e a links)) same (omega arith))
line_tells end publish small small' same = absurd (differs 0 (event_line end) (event_line publish) same (omega arith))
line_tells end (prune pairs) small small' same = absurd (differs 0 (event_line end) (event_line (prune pairs)) same (omega arith))
line_tells end end small small' same = refl

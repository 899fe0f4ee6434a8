-- Each section of a plan file is told before whatever comes after it.
use Rattle.std.proofs.Common.{◌≡◌, ◌≢◌, ℕ, suc, ◌+◌, ◌<◌, ◌≤◌, ℤ, List, [], ◌∷◌, ◌++◌, length, get_or, Bool, true, false, Option, Some, None, refl, ap, sym, ◌∙◌, append_assoc, arith, codes, subst}
use Rattle.std.specs.Prelude.{is_some}
use Rattle.std.specs.List.{AllByRecursion}
use Rattle.std.specs.Fmt.{decimal}
use Rattle.sp_theory.specs.Logs.{Entry, told, act, observe, unseen, closing, Log}
use Rattle.sp_value.specs.declared.tasks.Explore.{Explore}
use Rattle.sp_value.specs.declared.tasks.Explore.TheVariants.{Uniform, Sweep}
use Rattle.sp_value.specs.declared.tasks.Options.{Options}
use Rattle.sp_lines.specs.Lines.{numbers_behind_spaces, lines_of, Lacks, IsSmall}
use Rattle.sp_lines.proofs.Digits.{number_told, decimal_lacks}
use Rattle.sp_planfile.specs.PlanText.{head_text, explore_word, prune_word, options_line, count_line}
use Rattle.sp_planfile.specs.Form.{IsModelLine, AreModelLines}

-- a list with a mark is cut at the first one
pub cut_at : (c : ℕ) (xs ys us vs : List ℕ) → Lacks c xs → Lacks c ys → xs ++ (c ∷ us) ≡ ys ++ (c ∷ vs) → (xs ≡ ys) × (us ≡ vs)
cut_at c [] [] us vs a b e = (refl, cc)
cut_at c [] (y ∷ ys) us vs a b e = let same : c ≡ y = cc in absurd (b.0 (sym same))
cut_at c (x ∷ xs) [] us vs a b e = let same : x ≡ c = cc in absurd (a.0 same)
cut_at c (x ∷ xs) (y ∷ ys) us vs a b e =
    let first : x ≡ y = cc in
    let rest : xs ++ (c ∷ us) ≡ ys ++ (c ∷ vs) = cc in
    let more = cut_at c xs ys us vs a.1 b.1 rest in
    (cc (first, more.0), more.1)

pub lacks-append : (c : ℕ) (xs ys : List ℕ) → Lacks c xs → Lacks c ys → Lacks c (xs ++ ys)
lacks-append c [] ys a b = b
lacks-append c (x ∷ xs) ys a b = (a.0, lacks-append c xs ys a.1 b)

-- what stands behind the same is the same
pub behind_same : (xs us vs : List ℕ) → xs ++ us ≡ xs ++ vs → us ≡ vs
behind_same [] us vs e = e
behind_same (x ∷ xs) us vs e = let rest : xs ++ us ≡ xs ++ vs = cc in behind_same xs us vs rest

-- as many lines are told, where each tells what it is the line of
pub lines_told : {X : Type 0} (line : X → List ℕ) (Good : X → Type 0) (lacks : (x : X) → Good x → Lacks 10 (line x)) (tells : (x y : X) → Good x → Good y → line x ≡ line y → x ≡ y)
    → (xs ys : List X) (us vs : List ℕ) → length xs ≡ length ys → AllByRecursion Good xs → AllByRecursion Good ys → lines_of line xs ++ us ≡ lines_of line ys ++ vs → (xs ≡ ys) × (us ≡ vs)
lines_told line Good lacks tells [] [] us vs count a b e = (refl, e)
lines_told line Good lacks tells [] (y ∷ ys) us vs count a b e = absurd (omega (arith, count))
lines_told line Good lacks tells (x ∷ xs) [] us vs count a b e = absurd (omega (arith, count))
lines_told line Good lacks tells (x ∷ xs) (y ∷ ys) us vs count a b e =
    let cut = cut_at 10 (line x) (line y) (lines_of line xs ++ us) (lines_of line ys ++ vs) (lacks x a.0) (lacks y b.0)
    (sym (append_assoc (line x) (10 ∷ lines_of line xs) us) ∙ e ∙ append_assoc (line y) (10 ∷ lines_of line ys) vs) in
    let fewer : length xs ≡ length ys = omega (arith, count) in
    let more = lines_told line Good lacks tells xs ys us vs fewer a.1 b.1 cut.1 in
    let first = tells x y a.0 b.0 cut.0 in
    (cc (first, more.0), more.1)

-- ---- the beginning
pub head_told : (b d : Bool) (us vs : List ℕ) → head_text b ++ us ≡ head_text d ++ vs → (b ≡ d) × (us ≡ vs)
head_told true true us vs e = (refl, behind_same (head_text true) us vs e)
head_told false false us vs e = (refl, behind_same (head_text false) us vs e)
head_told true false us vs e = absurd (let other : 50 ≡ 49 = ap (λ l. get_or l 13 0) e in omega (arith, other))
head_told false true us vs e = absurd (let other : 49 ≡ 50 = ap (λ l. get_or l 13 0) e in omega (arith, other))

pub ends_there : (y us rest : List ℕ) → IsModelLine y → codes "endmodel\n" ++ us ≡ y ++ (10 ∷ rest) → ⊥
ends_there y us rest good e =
    let cut = cut_at 10 (codes "endmodel") y us rest
    ((λ e. omega (arith, e)), ((λ e. omega (arith, e)), ((λ e. omega (arith, e)), ((λ e. omega (arith, e)), ((λ e. omega (arith, e)), ((λ e. omega (arith, e)), ((λ e. omega (arith, e)), ((λ e. omega (arith, e)), tt))))))))
    good.whole e in
    good.other (sym cut.0)

model_lines_told : (xs ys : List (List ℕ)) (us vs : List ℕ) → AllByRecursion IsModelLine xs → AllByRecursion IsModelLine ys
    → lines_of (λ line. line) xs ++ (codes "endmodel\n" ++ us) ≡ lines_of (λ line. line) ys ++ (codes "endmodel\n" ++ vs) → (xs ≡ ys) × (us ≡ vs)
model_lines_told [] [] us vs a b e = (refl, behind_same (codes "endmodel\n") us vs e)
model_lines_told [] (y ∷ ys) us vs a b e = absurd (ends_there y us (lines_of (λ line. line) ys ++ (codes "endmodel\n" ++ vs)) b.0 (e ∙ append_assoc y (10 ∷ lines_of (λ line. line) ys) (codes "endmodel\n" ++ vs)))
model_lines_told (x ∷ xs) [] us vs a b e = absurd (ends_there x vs (lines_of (λ line. line) xs ++ (codes "endmodel\n" ++ us)) a.0 (sym e ∙ append_assoc x (10 ∷ lines_of (λ line. line) xs) (codes "endmodel\n" ++ us)))
model_lines_told (x ∷ xs) (y ∷ ys) us vs a b e =
    let cut = cut_at 10 x y (lines_of (λ line. line) xs ++ (codes "endmodel\n" ++ us)) (lines_of (λ line. line) ys ++ (codes "endmodel\n" ++ vs)) a.0.whole b.0.whole
    (sym (append_assoc x (10 ∷ lines_of (λ line. line) xs) (codes "endmodel\n" ++ us)) ∙ e ∙ append_assoc y (10 ∷ lines_of (λ line. line) ys) (codes "endmodel\n" ++ vs)) in
    let more = model_lines_told xs ys us vs a.1 b.1 cut.1 in
    let first = cut.0 in
    (cc (first, more.0), more.1)

pub model_told : (m n us vs : List ℕ) → AreModelLines m → AreModelLines n → m ++ (codes "endmodel\n" ++ us) ≡ n ++ (codes "endmodel\n" ++ vs) → (m ≡ n) × (us ≡ vs)
model_told m n us vs (xs, is, a) (ys, other, b) e =
    let both = model_lines_told xs ys us vs a b (ap (λ l. l ++ (codes "endmodel\n" ++ us)) (sym is) ∙ e ∙ ap (λ l. l ++ (codes "endmodel\n" ++ vs)) other) in
    (is ∙ ap (lines_of (λ line. line)) both.0 ∙ sym other, both.1)

-- ---- numbers and words
-- a number behind a space, before a space or the end of the line
pub spaced_told : (m n : ℕ) (us vs : List ℕ) (x y : ℕ) → IsSmall m → IsSmall n → x < 48 → y < 48 → 32 ∷ (decimal m ++ (x ∷ us)) ≡ 32 ∷ (decimal n ++ (y ∷ vs)) → (m ≡ n) × (x ∷ us ≡ y ∷ vs)
spaced_told m n us vs x y a b low less e =
    let tails : decimal m ++ (x ∷ us) ≡ decimal n ++ (y ∷ vs) = cc e in
    number_told m n (x ∷ us) (y ∷ vs) a b (λ range. omega (arith, range, low)) (λ range. omega (arith, range, less)) tails

pub count_told : (word : List ℕ) (m n : ℕ) (us vs : List ℕ) → IsSmall m → IsSmall n → count_line word m ++ (10 ∷ us) ≡ count_line word n ++ (10 ∷ vs) → (m ≡ n) × (us ≡ vs)
count_told word m n us vs a b e =
    let left : count_line word m ++ (10 ∷ us) ≡ word ++ (32 ∷ (decimal m ++ (10 ∷ us))) = append_assoc word (numbers_behind_spaces (m ∷ [])) (10 ∷ us) ∙ ap (λ l. word ++ (32 ∷ l)) (append_assoc (decimal m) [] (10 ∷ us)) in
    let right : count_line word n ++ (10 ∷ vs) ≡ word ++ (32 ∷ (decimal n ++ (10 ∷ vs))) = append_assoc word (numbers_behind_spaces (n ∷ [])) (10 ∷ vs) ∙ ap (λ l. word ++ (32 ∷ l)) (append_assoc (decimal n) [] (10 ∷ vs)) in
    let numbers = spaced_told m n us vs 10 10 a b (omega arith) (omega arith) (behind_same word (32 ∷ (decimal m ++ (10 ∷ us))) (32 ∷ (decimal n ++ (10 ∷ vs))) (sym left ∙ e ∙ right)) in
    (numbers.0, cc (numbers.1))

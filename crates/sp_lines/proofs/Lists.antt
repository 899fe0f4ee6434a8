-- Lists of lines, as they are read.
use Rattle.std.proofs.Common.{◌≡◌, ◌≢◌, ℕ, List, [], ◌∷◌, ◌++◌, refl, ap, sym, ◌∙◌, append_assoc}
use Rattle.std.specs.List.{AllByRecursion}
use Rattle.sp_lines.specs.Lines.{lines_of, Lacks, BeginsLine, BeginsLineOf}

pub lines_push : {X : Type 0} (line : X → List ℕ) (xs : List X) (x : X) (more : List ℕ) → lines_of line (xs ++ (x ∷ [])) ++ more ≡ lines_of line xs ++ (line x ++ (10 ∷ more))
lines_push line [] x more = append_assoc (line x) (10 ∷ []) more
lines_push line (y ∷ xs) x more =
    append_assoc (line y) (10 ∷ lines_of line (xs ++ (x ∷ []))) more
    ∙ ap (λ l. line y ++ (10 ∷ l)) (lines_push line xs x more)
    ∙ sym (append_assoc (line y) (10 ∷ lines_of line xs) (line x ++ (10 ∷ more)))

pub all_push : {X : Type 0} (P : X → Type 0) (xs : List X) (x : X) → AllByRecursion P xs → P x → AllByRecursion P (xs ++ (x ∷ []))
all_push P [] x all p = (p, tt)
all_push P (y ∷ xs) x all p = (all.0, all_push P xs x all.1 p)

-- one more line that was read
pub lines_step : {X : Type 0} (line : X → List ℕ) (xs ys : List X) (x : X) (text rest bytes more : List ℕ)
    → text ≡ lines_of line xs ++ rest → BeginsLine rest bytes more → bytes ≡ line x → ys ≡ xs ++ (x ∷ []) → text ≡ lines_of line ys ++ more
lines_step line xs ys x text rest bytes more so_far begins is pushed =
    so_far ∙ ap (λ l. lines_of line xs ++ l) (begins.is ∙ ap (λ l. l ++ (10 ∷ more)) is) ∙ sym (lines_push line xs x more) ∙ ap (λ l. lines_of line l ++ more) (sym pushed)

pub lacks_none : (xs rest : List ℕ) → Lacks 10 (xs ++ (10 ∷ rest)) → ⊥
lacks_none [] rest all = all.0 refl
lacks_none (x ∷ xs) rest all = lacks_none xs rest all.1

-- where no line ends, none begins
pub no_line : {X : Type 0} (line : X → List ℕ) (Good : X → Type 0) (text : List ℕ) → Lacks 10 text → ¬ (BeginsLineOf line Good text)
no_line line Good text lacks (x, rest, good, e) = lacks_none (line x) rest (rw (sym e) lacks)

cut_at : (xs ys us vs : List ℕ) → Lacks 10 xs → Lacks 10 ys → xs ++ (10 ∷ us) ≡ ys ++ (10 ∷ vs) → (xs ≡ ys) × (us ≡ vs)
cut_at [] [] us vs a b e = (refl, cc)
cut_at [] (y ∷ ys) us vs a b e = let same : 10 ≡ y = cc in absurd (b.0 (sym same))
cut_at (x ∷ xs) [] us vs a b e = let same : x ≡ 10 = cc in absurd (a.0 same)
cut_at (x ∷ xs) (y ∷ ys) us vs a b e =
    let first : x ≡ y = cc in
    let rest : xs ++ (10 ∷ us) ≡ ys ++ (10 ∷ vs) = cc in
    let more = cut_at xs ys us vs a.1 b.1 rest in
    (cc (first, more.0), more.1)

-- a line is told
pub line_told : (text xs ys us vs : List ℕ) → BeginsLine text xs us → BeginsLine text ys vs → (xs ≡ ys) × (us ≡ vs)
line_told text xs ys us vs a b = cut_at xs ys us vs a.ends b.ends (sym a.is ∙ b.is)

-- the line that a text begins with isn't one of these
pub other_line : {X : Type 0} (line : X → List ℕ) (Good : X → Type 0) (lacks : (x : X) → Good x → Lacks 10 (line x)) (text bytes rest : List ℕ)
    → BeginsLine text bytes rest → ((x : X) → Good x → bytes ≢ line x) → ¬ (BeginsLineOf line Good text)
other_line line Good lacks text bytes rest begins other (x, more, good, e) =
    other x good (line_told text bytes (line x) rest more begins (record { is = e; ends = lacks x good })).0

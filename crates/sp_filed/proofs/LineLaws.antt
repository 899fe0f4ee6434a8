-- Of two lists of lines that one text begins with, the longer one goes on where the shorter one ends.
use Rattle.std.proofs.Common.{◌≡◌, ℕ, ◌<◌, ◌≤◌, List, [], ◌∷◌, ◌++◌, length, length-append, refl, ap, sym, ◌∙◌, append_assoc, arith, ⊎_elim}
use Rattle.std.specs.List.{AllByRecursion}
use Rattle.std.proofs.lemmas.Bool.{cases_lt}
use Rattle.sp_lines.specs.Lines.{lines_of, Lacks, EndsEarly}
use Rattle.sp_planfile.proofs.Sections.{cut_at}

module _ {X : Type 0} (line : X → List ℕ) (Good : X → Type 0) (lacks : (x : X) → Good x → Lacks 10 (line x)) (tells : (x y : X) → Good x → Good y → line x ≡ line y → x ≡ y) where
  pub lines_prefix : (xs ys : List X) (us vs : List ℕ) → length ys ≤ length xs → AllByRecursion Good xs → AllByRecursion Good ys → lines_of line xs ++ us ≡ lines_of line ys ++ vs
      → (more : List X) × AllByRecursion Good more × (xs ≡ ys ++ more) × (vs ≡ lines_of line more ++ us)
  lines_prefix xs [] us vs fewer a b e = (xs, a, refl, sym e)
  lines_prefix [] (y ∷ ys) us vs fewer a b e = absurd (omega (arith, fewer))
  lines_prefix (x ∷ xs) (y ∷ ys) us vs fewer a b e =
      let cut = cut_at 10 (line x) (line y) (lines_of line xs ++ us) (lines_of line ys ++ vs) (lacks x a.0) (lacks y b.0)
      (sym (append_assoc (line x) (10 ∷ lines_of line xs) us) ∙ e ∙ append_assoc (line y) (10 ∷ lines_of line ys) vs) in
      let found = lines_prefix xs ys us vs (omega (arith, fewer)) a.1 b.1 cut.1 in
      let first : x ≡ y = tells x y a.0 b.0 cut.0 in
      let rest : xs ≡ ys ++ found.0 = found.2 in
      (found.0, found.1, cc (first, rest), found.3)

  -- where some of the lines are read, the text goes on with the next of them
  pub next_line : (xs read : List X) (us rest : List ℕ) → length read < length xs → AllByRecursion Good xs → AllByRecursion Good read → lines_of line xs ++ us ≡ lines_of line read ++ rest
      → (x : X) × (more : List X) × Good x × (xs ≡ read ++ (x ∷ more)) × (rest ≡ line x ++ (10 ∷ (lines_of line more ++ us)))
  next_line xs read us rest fewer a b e = let found = lines_prefix xs read us rest (omega (arith, fewer)) a b e in by_case found.0 found.1 found.2 found.3
    where
      by_case : (more : List X) → AllByRecursion Good more → xs ≡ read ++ more → rest ≡ lines_of line more ++ us → (x : X) × (more : List X) × Good x × (xs ≡ read ++ (x ∷ more)) × (rest ≡ line x ++ (10 ∷ (lines_of line more ++ us)))
      by_case [] all is text = absurd (let sizes = ap length is in omega (arith, fewer, sizes, length-append read []))
      by_case (x ∷ more) all is text = (x, more, all.0, is, text ∙ append_assoc (line x) (10 ∷ lines_of line more) us)

  -- so the list doesn't end early
  pub no_early_end : (xs : List X) (us rest : List ℕ) (count left : ℕ) → AllByRecursion Good xs → length xs ≡ count → lines_of line xs ++ us ≡ rest → EndsEarly line Good count rest left → ⊥
  no_early_end xs us rest count left good is e early =
      let found = next_line xs early.read us early.rest (omega (arith, early.fewer, is)) good early.good (e ∙ early.is) in
      early.none (found.0, lines_of line found.1 ++ us, found.2, found.4)

  -- a list that ends early ends in one place
  pub early_once : (count : ℕ) (text : List ℕ) (left right : ℕ) → EndsEarly line Good count text left → EndsEarly line Good count text right → left ≡ right
  early_once count text left right a b = ⊎_elim (λ less. below left right a b (omega (arith, less))) (λ more. sym (below right left b a more)) (cases_lt (length b.read) (length a.read))
    where
      below : (left right : ℕ) (a : EndsEarly line Good count text left) (b : EndsEarly line Good count text right) → length b.read ≤ length a.read → left ≡ right
      below left right a b fewer = let found = lines_prefix a.read b.read a.rest b.rest fewer a.good b.good (sym a.is ∙ b.is) in by_case found.0 found.1 found.3
        where
          by_case : (more : List X) → AllByRecursion Good more → b.rest ≡ lines_of line more ++ a.rest → left ≡ right
          by_case [] all is = a.bytes ∙ ap length (sym is) ∙ sym b.bytes
          by_case (x ∷ more) all is = absurd (b.none (x, lines_of line more ++ a.rest, all.0, is ∙ append_assoc (line x) (10 ∷ lines_of line more) a.rest))

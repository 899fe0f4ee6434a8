-- Steps of reading.
use Rattle.std.proofs.Common.{◌≡◌, ◌<◌, ◌≤◌, ℕ, zero, suc, ◌+◌, ◌-◌, List, [], ◌∷◌, ◌++◌, Bool, true, false, Option, Some, Ok, Err, refl, ap, ◌∙◌, arith}
use Rattle.sp_syntax.specs.declared.class.TokenClass.{TokenClass}
use Rattle.sp_syntax.specs.declared.class.TokenClass.TheVariants as class
use Rattle.sp_syntax.specs.declared.class.Classed.{Classed}
use Rattle.sp_syntax.specs.declared.text.Tree.{Tree}
use Rattle.sp_syntax.specs.declared.text.Section.{Section}
use Rattle.sp_syntax.specs.Fault.{Fault}
use Rattle.sp_syntax.specs.Reading.{Read, ◌>>=◌, tree_to, tree_on, many, many_on, sections, sections_on, section_at, is_empty, head_class, front, rest, here}

same_at_zero : (inner p q : Read Tree) (end : ℕ) (o : Option TokenClass) (ts : List Classed) → tree_on inner p end 0 o ts ≡ tree_on inner q end 0 o ts
same_at_zero inner p q end (Some class.LeftSquare) ts = refl
same_at_zero inner p q end (Some class.Open) ts = refl
same_at_zero inner p q end _ ts = refl

pub tree_step : (end left : ℕ) (ts : List Classed) → tree_to (suc left) end left ts ≡ tree_on (tree_to (left - 1) end (left - 1 - 1)) (tree_to (suc (left - 1)) end (left - 1)) end left (head_class ts) ts
unfolding tree_to
tree_step end zero ts = same_at_zero (tree_to zero end 0) (tree_to zero end 0) (tree_to 1 end 0) end (head_class ts) ts
tree_step end (suc n) ts = let e : n ≡ suc n - 1 = omega arith in ap (λ m. tree_on (tree_to m end (suc n - 1 - 1)) (tree_to (suc m) end (suc n - 1)) end (suc n) (head_class ts) ts) e

module _ {X : Type 0} (ends : Option TokenClass → Bool) (one : Read X) (end n k : ℕ) (xs : List X) (ts : List Classed) where
  many_step : k < n → many ends one end (n - k) xs ts ≡ many_on (many ends one end (n - (k + 1))) one (ends (head_class ts)) xs ts
  unfolding many
  many_step h = let e : n - k ≡ suc (n - (k + 1)) = omega arith in ap (λ m. many ends one end m xs ts) e

  pub turn_ends : k < n → ends (head_class ts) ≡ true → many ends one end (n - k) xs ts ≡ Ok ((xs, front ts), rest ts)
  turn_ends h c = many_step h ∙ ap (λ o. many_on (many ends one end (n - (k + 1))) one o xs ts) c

  pub turn_more : (x : X) (us : List Classed) → k < n → ends (head_class ts) ≡ false → one ts ≡ Ok (x, us) → many ends one end (n - k) xs ts ≡ many ends one end (n - (k + 1)) (xs ++ (x ∷ [])) us
  turn_more x us h c e = many_step h ∙ ap (λ o. many_on (many ends one end (n - (k + 1))) one o xs ts) c ∙ ap (λ r. r >>= λ x. many ends one end (n - (k + 1)) (xs ++ (x.0 ∷ [])) x.1) e

  pub turn_err : (f : Fault) → k < n → ends (head_class ts) ≡ false → one ts ≡ Err f → many ends one end (n - k) xs ts ≡ Err f
  turn_err f h c e = many_step h ∙ ap (λ o. many_on (many ends one end (n - (k + 1))) one o xs ts) c ∙ ap (λ r. r >>= λ x. many ends one end (n - (k + 1)) (xs ++ (x.0 ∷ [])) x.1) e

  pub turns_over : n ≤ k → many ends one end (n - k) xs ts ≡ Err (here end ts)
  unfolding many
  turns_over h = let e : n - k ≡ 0 = omega arith in ap (λ m. many ends one end m xs ts) e

module _ (end left n k : ℕ) (xs : List Section) (ts : List Classed) where
  sections_step : k < n → sections end left (n - k) xs ts ≡ sections_on (sections end left (n - (k + 1))) (section_at end left) (is_empty ts) xs ts
  unfolding sections
  sections_step h = let e : n - k ≡ suc (n - (k + 1)) = omega arith in ap (λ m. sections end left m xs ts) e

  pub section_none : k < n → is_empty ts ≡ true → sections end left (n - k) xs ts ≡ Ok (xs, ts)
  section_none h c = sections_step h ∙ ap (λ o. sections_on (sections end left (n - (k + 1))) (section_at end left) o xs ts) c

  pub section_more : (x : Section) (us : List Classed) → k < n → is_empty ts ≡ false → section_at end left ts ≡ Ok (x, us) → sections end left (n - k) xs ts ≡ sections end left (n - (k + 1)) (xs ++ (x ∷ [])) us
  section_more x us h c e = sections_step h ∙ ap (λ o. sections_on (sections end left (n - (k + 1))) (section_at end left) o xs ts) c ∙ ap (λ r. r >>= λ x. sections end left (n - (k + 1)) (xs ++ (x.0 ∷ [])) x.1) e

  pub section_err : (f : Fault) → k < n → is_empty ts ≡ false → section_at end left ts ≡ Err f → sections end left (n - k) xs ts ≡ Err f
  section_err f h c e = sections_step h ∙ ap (λ o. sections_on (sections end left (n - (k + 1))) (section_at end left) o xs ts) c ∙ ap (λ r. r >>= λ x. sections end left (n - (k + 1)) (xs ++ (x.0 ∷ [])) x.1) e

  pub sections_over : n ≤ k → sections end left (n - k) xs ts ≡ Ok (xs, ts)
  unfolding sections
  sections_over h = let e : n - k ≡ 0 = omega arith in ap (λ m. sections end left m xs ts) e

-- The belief that a word picks, by the account of a book.
use Rattle.std.proofs.Common.{◌≡◌, ◌∙◌, sym, ap, subst, arith, ℕ, ◌<◌, ◌%◌, List, length, get_or, Bool, true, false, not, ◌||◌, cond, eqb}
use Rattle.std.specs.Prelude.{filter}
use Rattle.std.specs.List.{range_with_len}
use Rattle.sp_theory.specs.Book.{Task, Book}
use Rattle.sp_theory.specs.OneThread.{beliefs_without_mark, open_beliefs, picked, all_improved}
use Rattle.sp_theory.proofs.Extremes.{holds_below_not}
use Rattle.sp_ledger.specs.Accounts.{Account, IsAccount}
use Rattle.sp_core.specs.Marks.{marks_of, is_free, neither, open_numbers, picked_from}
use Rattle.sp_core.proofs.Counting.{filter_same, stands_at}

module _ (t : Task) (b : Book) (f : Account) (of : IsAccount t b f) (taken : List Bool) where
  unmarked_is : beliefs_without_mark t (λ k. b.improved k || marks_of taken k) ≡ neither f.improved taken
  unmarked_is =
      filter_same _ (is_free f.improved taken) t.beliefs (λ k less. ap (λ (c : Bool). not (c || get_or taken k false)) (sym (of.improved k less)))
      ∙ ap (λ (n : ℕ). filter (is_free f.improved taken) (range_with_len 0 n)) (sym of.flags)

  down_is : beliefs_without_mark t b.improved ≡ neither f.improved f.improved
  down_is =
      filter_same _ (is_free f.improved f.improved) t.beliefs (λ k less. ap not (twice (b.improved k) (get_or f.improved k false) (of.improved k less)))
      ∙ ap (λ (n : ℕ). filter (is_free f.improved f.improved) (range_with_len 0 n)) (sym of.flags)
    where
      twice : (c d : Bool) → d ≡ c → c ≡ (d || d)
      twice c true e = sym e
      twice c false e = sym e

  open_is : open_beliefs t b (marks_of taken) ≡ open_numbers f.improved taken
  unfolding open_beliefs
  open_is = λ h. cond (eqb (length (unmarked_is h)) 0) (down_is h) (unmarked_is h)

  pub picked_is : (word : ℕ) → picked t b (marks_of taken) word ≡ picked_from f.improved taken word
  unfolding picked
  picked_is word = ap (λ (ks : List ℕ). get_or ks (word % length ks) 0) open_is

  -- with a flag down there is a belief to pick
  pub some_down : all_improved t b ≡ false → 0 < length (neither f.improved f.improved)
  unfolding all_improved
  some_down e =
      let (k, less, down) = holds_below_not t.beliefs b.improved e in
      let low : get_or f.improved k false ≡ false = of.improved k less ∙ down in
      let (within, at) = stands_at (is_free f.improved f.improved) k (length f.improved) (subst (λ (n : ℕ). k < n) (sym of.flags) less) (ap (λ (c : Bool). not (c || c)) low) in
      omega (arith, within)

-- The slot that is read for a slot.
use Rattle.std.proofs.Common.{◌≡◌, ◌≢◌, ◌⊎◌, inl, inr, ⊎_elim, ℕ, suc, ◌+◌, ◌-◌, ◌*◌, ◌%◌, ◌<◌, ◌≤◌, List, length, get_or, Bool, true, false, cond, sym, ◌∙◌, refl, arith}
use Rattle.std.specs.Prelude.{nat_lt}
use Rattle.std.proofs.lemmas.Bool.{cases_lt, false≢true}
use Rattle.std.proofs.lemmas.Bool.Decides.{Decides-ltb}
use Rattle.sp_diagonals.specs.Walks.{slot_read, IsRange}

-- u is read for t
pub record IsSlotRead (o low high t u : ℕ) : Type 0 where
  pub inside : low ≤ t → t < high → u + t % 2 ≡ t + o
  pub before : t < low → u ≡ t
  pub behind : high ≤ t → u ≡ t

read_step : (b c : Bool) (o low high t : ℕ) → nat_lt t low ≡ b → nat_lt t high ≡ c → IsSlotRead o low high t (cond b t (cond c (t - t % 2 + o) t))
read_step true c o low high t e f =
    let l : t < low = (Decides-ltb t low).0 e in
    record { inside = λ k m. absurd (omega (arith, k, l)); before = λ _. refl; behind = λ _. refl }
read_step false true o low high t e f =
    let h : t < high = (Decides-ltb t high).0 f in
    record { inside = λ k m. omega arith; before = λ l. absurd (false≢true (sym e ∙ (Decides-ltb t low).1 l)); behind = λ m. absurd (omega (arith, m, h)) }
read_step false false o low high t e f =
    record { inside = λ k m. absurd (false≢true (sym f ∙ (Decides-ltb t high).1 m)); before = λ _. refl; behind = λ _. refl }

pub slot_is_read : (o low high t : ℕ) → IsSlotRead o low high t (slot_read o low high t)
slot_is_read o low high t = read_step (nat_lt t low) (nat_lt t high) o low high t refl refl

-- where a slot stands
pub by_range : (P : Type 0) (low high t : ℕ) → (t < low → P) → (low ≤ t → t < high → P) → (high ≤ t → P) → P
by_range P low high t before inside behind =
    ⊎_elim (λ (l : t < low). before l) (λ (k : low ≤ t). ⊎_elim (λ (m : t < high). inside k m) (λ (n : high ≤ t). behind n) (cases_lt t high)) (cases_lt t low)

-- facts of a slot t that is read as u, in a range of whole variables
module _ (o low high : ℕ) (small : o ≤ 1) (low_even : low % 2 ≡ 0) (high_even : high % 2 ≡ 0) where
  pub mono : (t s u v : ℕ) → IsSlotRead o low high t u → IsSlotRead o low high s v → t ≤ s → u ≤ v
  mono t s u v a b h =
      by_range (u ≤ v) low high t
      (λ (l : t < low). by_range (u ≤ v) low high s
      (λ (m : s < low). omega (arith, a.before l, b.before m))
      (λ k m. omega (arith, a.before l, b.inside k m))
      (λ m. omega (arith, a.before l, b.behind m)))
      (λ k l. by_range (u ≤ v) low high s
      (λ (m : s < low). absurd (omega (arith, k, m, h)))
      (λ i m. omega (arith, a.inside k l, b.inside i m))
      (λ m. omega (arith, a.inside k l, b.behind m)))
      (λ l. by_range (u ≤ v) low high s
      (λ (m : s < low). omega (arith, a.behind l, b.before m))
      (λ i m. absurd (omega (arith, l, m, h)))
      (λ m. omega (arith, a.behind l, b.behind m)))

  -- none is read past the end
  pub below : (n t u : ℕ) → high ≤ n → IsSlotRead o low high t u → t < n → u < n
  below n t u within a less =
      by_range (u < n) low high t (λ l. omega (arith, a.before l)) (λ k l. omega (arith, a.inside k l)) (λ l. omega (arith, a.behind l))

  -- one that is read outside is read for itself
  pub own : (t u : ℕ) → IsSlotRead o low high t u → (u < low) ⊎ (high ≤ u) → t ≡ u
  own t u a out =
      ⊎_elim
      (λ (x : u < low). by_range (t ≡ u) low high t (λ l. sym (a.before l)) (λ k l. absurd (omega (arith, a.inside k l, x))) (λ l. sym (a.behind l)))
      (λ (x : high ≤ u). by_range (t ≡ u) low high t (λ l. sym (a.before l)) (λ k l. absurd (omega (arith, a.inside k l, x))) (λ l. sym (a.behind l)))
      out

  -- one that is read inside is of the same variable
  pub pair : (t u : ℕ) → IsSlotRead o low high t u → low ≤ u → u < high → (u - u % 2 ≤ t) × (t ≤ u - u % 2 + 1)
  pair t u a i j =
      by_range ((u - u % 2 ≤ t) × (t ≤ u - u % 2 + 1)) low high t
      (λ l. absurd (omega (arith, a.before l, i)))
      (λ k l. (omega (arith, a.inside k l), omega (arith, a.inside k l)))
      (λ l. absurd (omega (arith, a.behind l, j)))

  -- what is read behind a slot outside, and behind a variable inside, lies behind it
  pub behind_own : (s t u : ℕ) → (s < low) ⊎ (high ≤ s) → IsSlotRead o low high t u → suc s ≤ t → suc s ≤ u
  behind_own s t u out a h =
      ⊎_elim
      (λ (x : s < low). by_range (suc s ≤ u) low high t (λ l. omega (arith, a.before l, h)) (λ k l. omega (arith, a.inside k l, x)) (λ l. omega (arith, a.behind l, h)))
      (λ (x : high ≤ s). by_range (suc s ≤ u) low high t (λ l. omega (arith, a.before l, h)) (λ k l. absurd (omega (arith, l, x, h))) (λ l. omega (arith, a.behind l, h)))
      out

  pub behind_pair : (s t u : ℕ) → low ≤ s → s < high → IsSlotRead o low high t u → s - s % 2 + 2 ≤ t → suc s ≤ u
  behind_pair s t u i j a h =
      by_range (suc s ≤ u) low high t (λ l. absurd (omega (arith, l, i, h))) (λ k l. omega (arith, a.inside k l, h)) (λ l. omega (arith, a.behind l, h))

  -- both slots of a variable inside are read alike
  pub alike : (s t u : ℕ) → IsSlotRead o low high s s → low ≤ s → s < high → IsSlotRead o low high t u → s - s % 2 ≤ t → t ≤ s - s % 2 + 1 → u ≡ s
  alike s t u self i j a x y =
      by_range (u ≡ s) low high t (λ l. absurd (omega (arith, l, i, x))) (λ k l. omega (arith, a.inside k l, self.inside i j, x, y)) (λ l. absurd (omega (arith, l, j, y)))

  -- what is read is read for itself
  pub twice : (t u v : ℕ) → IsSlotRead o low high t u → IsSlotRead o low high u v → v ≡ u
  twice t u v a b =
      by_range (v ≡ u) low high u (λ l. b.before l)
      (λ i j. by_range (v ≡ u) low high t (λ l. absurd (omega (arith, a.before l, i, l))) (λ k l. omega (arith, a.inside k l, b.inside i j)) (λ l. absurd (omega (arith, a.behind l, j, l))))
      (λ l. b.behind l)

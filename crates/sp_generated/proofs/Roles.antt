-- The slots that the trees of a generated text mention are allowed.
use Rattle.std.proofs.Common.{◌≡◌, ℕ, ◌+◌, ◌*◌, ◌%◌, ◌<◌, ◌≤◌, ◌==◌, ◌&&◌, ◌||◌, Bool, true, length, refl, ap, ◌∙◌, arith}
use Rattle.std.specs.Prelude.{nat_lt, nat_le}
use Rattle.std.proofs.lemmas.Bool.Decides.{nat_tests}
use Rattle.sp_rows.specs.declared.tables.Table.TheVariants as table
use Rattle.sp_trees.specs.Slots.{has}
use Rattle.sp_checks.specs.declared.roles.Role.{Role}
use Rattle.sp_checks.specs.declared.roles.Role.TheVariants as role
use Rattle.sp_checks.specs.Roles.{may_mention, allowed_slots}
use Rattle.sp_written.proofs.Places.{where_has}
use Rattle.sp_generated.proofs.Facts.{or_true, eq_true}
use Rattle.sp_generated.proofs.Scope.{scope_of, decls, decls_count, slots_count}

below : (a b : ℕ) → a < b → nat_lt a b ≡ true
below a b h = grind (arith, nat_tests)

at_most : (a b : ℕ) → a ≤ b → nat_le a b ≡ true
at_most a b h = grind (arith, nat_tests)

both : (a b : Bool) → a ≡ true → b ≡ true → (a && b) ≡ true
both a b h k = (λ i. h i && k i)

module _ (n : ℕ) where
  named : (r : Role) (slot : ℕ) → slot < 2 * n + 1 → may_mention (length (decls 1 n)) r slot ≡ true → has (allowed_slots (scope_of n) r) slot ≡ true
  named r slot l h = let count = slots_count n in where_has (may_mention (length (decls 1 n)) r) (length (scope_of n).sizes) slot (omega arith) h

  pub init_allows : (k : ℕ) → k < n → has (allowed_slots (scope_of n) role.Init) (2 * k) ≡ true
  init_allows k l =
      let count = decls_count 1 n in
      let even : (2 * k) % 2 ≡ 0 = omega arith in
      named role.Init (2 * k) (omega arith) (both (nat_lt (2 * k) (2 * length (decls 1 n))) ((2 * k) % 2 == 0) (below (2 * k) (2 * length (decls 1 n)) (omega arith)) (eq_true ((2 * k) % 2) 0 even))

  pub reward_allows : (k : ℕ) → k < n → has (allowed_slots (scope_of n) role.Reward) (2 * k) ≡ true
  reward_allows k l = let count = decls_count 1 n in named role.Reward (2 * k) (omega arith) (below (2 * k) (2 * length (decls 1 n)) (omega arith))

  pub move_allows : (k : ℕ) → k < n → has (allowed_slots (scope_of n) (role.Table (table.Move k))) (2 * k + 1) ≡ true
  move_allows k l =
      let count = decls_count 1 n in
      named (role.Table (table.Move k)) (2 * k + 1) (omega arith)
      (both (nat_lt (2 * k + 1) (2 * length (decls 1 n))) ((2 * k + 1) % 2 == 0 || nat_le (2 * k + 1) (2 * k + 1)) (below (2 * k + 1) (2 * length (decls 1 n)) (omega arith))
      (ap (λ b. (2 * k + 1) % 2 == 0 || b) (at_most (2 * k + 1) (2 * k + 1) (omega arith)) ∙ or_true ((2 * k + 1) % 2 == 0)))

  pub move_allows_first : (k : ℕ) → 0 < n → has (allowed_slots (scope_of n) (role.Table (table.Move k))) 0 ≡ true
  move_allows_first k l =
      let count = decls_count 1 n in
      named (role.Table (table.Move k)) 0 (omega arith) (both (nat_lt 0 (2 * length (decls 1 n))) (0 % 2 == 0 || nat_le 0 (2 * k + 1)) (below 0 (2 * length (decls 1 n)) (omega arith)) refl)

  pub sight_allows : has (allowed_slots (scope_of n) (role.Table (table.Sight 0))) (2 * n) ≡ true
  sight_allows =
      let count = decls_count 1 n in
      named (role.Table (table.Sight 0)) (2 * n) (omega arith)
      (ap (λ b. (nat_lt (2 * n) (2 * length (decls 1 n)) && (2 * n) % 2 == 1) || b) (eq_true (2 * n) (2 * length (decls 1 n) + 0) (omega arith)) ∙ or_true (nat_lt (2 * n) (2 * length (decls 1 n)) && (2 * n) % 2 == 1))

  pub sight_allows_first : 0 < n → has (allowed_slots (scope_of n) (role.Table (table.Sight 0))) 1 ≡ true
  sight_allows_first l =
      let count = decls_count 1 n in
      named (role.Table (table.Sight 0)) 1 (omega arith)
      (ap (λ b. (b && 1 % 2 == 1) || 1 == 2 * length (decls 1 n) + 0) (below 1 (2 * length (decls 1 n)) (omega arith)))

-- The rewards of a generated text.
use Rattle.std.proofs.Common.{◌≡◌, ℕ, zero, suc, ◌+◌, ◌*◌, ◌<◌, ◌≤◌, true, List, [], ◌∷◌, Some, None, refl, sym, ap, ◌∙◌, subst, arith}
use Rattle.std.specs.Prelude.{ℤ, pos, negsuc, neg_ℤ, ◌+ℤ◌, ◌*ℤ◌, ◌≤ℤ◌, codes}
use Rattle.std.proofs.lemmas.Int.{ints}
use Rattle.sp_dd.specs.Points.{IsPoint}
use Rattle.sp_dd.specs.Func.{Shape, Func, IsScope, value_of}
use Rattle.sp_dd.specs.Operations.{plus, scalar_multiple}
use Rattle.sp_dd.proofs.FuncLemmas.{scope_some, value_of-function_of}
use Rattle.sp_spelled.specs.Signs.{tight, space, line}
use Rattle.sp_spelled.specs.Shapes.{leaf, group, sum_group}
use Rattle.sp_model.specs.Kept.{most_reward}
use Rattle.sp_rows.specs.Tables.{is_reward, less}
use Rattle.sp_trees.specs.declared.env.Dd.{Dd}
use Rattle.sp_trees.specs.declared.env.Env.{Env}
use Rattle.sp_trees.specs.Slots.{none}
use Rattle.sp_trees.specs.Conditions.{is_within}
use Rattle.sp_trees.specs.Lists.{greatest_partial}
use Rattle.sp_checks.specs.declared.roles.Role.TheVariants as role
use Rattle.sp_checks.specs.declared.state.State.{State}
use Rattle.sp_checks.specs.Roles.{allowed_slots}
use Rattle.sp_written.specs.Acceptance.{mentions_of}
use Rattle.sp_written.specs.Meanings.{WritesTree, AreWritten, constant_dd, list_signs}
use Rattle.sp_written.proofs.Tests.{within_true, small_true}
use Rattle.sp_written.proofs.Sums.{total, AreSmallSums, writes_total}
use Rattle.sp_written.proofs.Lines.{Leads}
use Rattle.sp_written.proofs.Ends.{leads_reward}
use Rattle.sp_generated.specs.Signs.{variable_name, two_leaves, row_signs, reward_signs, gap_behind, rewards_signs}
use Rattle.sp_generated.proofs.Words.{spells_one, spells_zero, spells_five}
use Rattle.sp_generated.proofs.Scope.{scope_of, env_of, is_scope}
use Rattle.sp_generated.proofs.Choices.{choice, node_holds, constant_holds, constant_value}
use Rattle.sp_generated.proofs.Roles.{reward_allows}
use Rattle.sp_generated.proofs.Trees.{writes_unprimed, writes_ticks}

module _ (n : ℕ) (few : n ≤ 24) (dds : List (List ℕ × Dd)) where
  abbrev sizes : List ℕ
  sizes = (scope_of n).sizes

  -- a variable that pays
  abbrev pay : ℕ → ℕ → Dd
  pay k v = choice n few dds (2 * k) (pos 0) (pos v)

  abbrev pub pay_dds : ℕ → ℕ → List Dd
  pay_dds k zero = []
  pay_dds k (suc m) = pay k 1000000000 ∷ pay_dds (suc k) m

  -- a function of the scope with values from 0 to b
  pub record IsPay (f : Func) (b : ℕ) : Type 0 where
    pub shape : f.shape ≡ scope_of n
    pub bounds : (x : List ℕ) → IsPoint sizes x → (pos 0 ≤ℤ value_of f x) × (value_of f x ≤ℤ pos b)

  pay_is : (k v b : ℕ) → k < n → v ≤ b → IsPay (pay k v).func b
  pay_is k v b l h = record {
    shape = refl;
    bounds = node_holds n few dds (λ z. (pos 0 ≤ℤ z) × (z ≤ℤ pos b)) (2 * k) (constant_dd (env_of n dds) (pos 0)) (constant_dd (env_of n dds) (pos v)) (omega arith)
        (constant_holds n few dds (λ z. (pos 0 ≤ℤ z) × (z ≤ℤ pos b)) (pos 0) ((omega (arith, ints)), (omega (arith, ints)))) (constant_holds n few dds (λ z. (pos 0 ≤ℤ z) × (z ≤ℤ pos b)) (pos v) ((omega (arith, ints)), (omega (arith, ints))));
  }

  plus_value : (f g : Func) (x : List ℕ) → f.shape ≡ scope_of n → IsPoint sizes x → value_of (plus f g) x ≡ value_of f x +ℤ value_of g x
  plus_value f g x shape p =
      value_of-function_of f.shape (λ y. value_of f y +ℤ value_of g y) x (scope_some f.shape (subst IsScope (sym shape) (is_scope n few))) (subst (λ (s : Shape). IsPoint s.sizes x) (sym shape) p)

  sum_bounds : (a b : ℕ) (y z : ℤ) → (pos 0 ≤ℤ y) × (y ≤ℤ pos a) → (pos 0 ≤ℤ z) × (z ≤ℤ pos b) → (pos 0 ≤ℤ (y +ℤ z)) × ((y +ℤ z) ≤ℤ pos (a + b))
  sum_bounds a b y z h k = let l = h.0 in let m = h.1 in let o = k.0 in let q = k.1 in ((omega (arith, ints)), (omega (arith, ints)))

  plus_is : (f g : Func) (a b : ℕ) → IsPay f a → IsPay g b → IsPay (plus f g) (a + b)
  plus_is f g a b h k = record {
    shape = h.shape;
    bounds = λ x p. subst (λ z. (pos 0 ≤ℤ z) × (z ≤ℤ pos (a + b))) (sym (plus_value f g x h.shape p)) (sum_bounds a b (value_of f x) (value_of g x) (h.bounds x p) (k.bounds x p));
  }

  small : (f : Func) (b : ℕ) → b ≤ 1000000000000000000 → IsPay f b → is_within greatest_partial f ≡ true
  small f b l h = small_true greatest_partial f (subst IsScope (sym h.shape) (is_scope n few))
      (λ x p. (let q = h.bounds x (subst (λ (s : Shape). IsPoint s.sizes x) h.shape p) in let low = q.0 in let high = q.1 in ((omega (arith, ints)), (omega (arith, ints)))))

  small_sums : (f : Func) (b k m : ℕ) → k + m ≤ n → b + m * 1000000000 ≤ 1000000000000000000 → IsPay f b → AreSmallSums f (pay_dds k m)
  small_sums f b k zero l o h = tt
  small_sums f b k (suc m) l o h =
      let more : IsPay (plus f (pay k 1000000000).func) (b + 1000000000) = plus_is f (pay k 1000000000).func b 1000000000 h (pay_is k 1000000000 1000000000 (omega arith) (omega arith)) in
      (small (plus f (pay k 1000000000).func) (b + 1000000000) (omega arith) more, small_sums (plus f (pay k 1000000000).func) (b + 1000000000) (suc k) m (omega arith) (omega arith) more)

  total_is : (f : Func) (b k m : ℕ) → k + m ≤ n → IsPay f b → IsPay (total f (pay_dds k m)) (b + m * 1000000000)
  total_is f b k zero l h = subst (IsPay f) (let e : b ≡ b + 0 * 1000000000 = omega arith in e) h
  total_is f b k (suc m) l h =
      subst (IsPay (total f (pay_dds k (suc m)))) (let e : b + 1000000000 + m * 1000000000 ≡ b + suc m * 1000000000 = omega arith in e)
      (total_is (plus f (pay k 1000000000).func) (b + 1000000000) (suc k) m (omega arith) (plus_is f (pay k 1000000000).func b 1000000000 h (pay_is k 1000000000 1000000000 (omega arith) (omega arith))))

  -- ---- the section
  abbrev pub reward_func : ℕ → Func
  reward_func m = total (pay 0 5000000000).func (pay_dds 1 m)

  reward_is : (m : ℕ) → n ≡ suc m → IsPay (reward_func m) (5000000000 + m * 1000000000)
  reward_is m same = total_is (pay 0 5000000000).func 5000000000 1 m (omega arith) (pay_is 0 5000000000 5000000000 (omega arith) (omega arith))

  -- less a cost it is no more than a million
  cost_bounds : (c b : ℕ) (y z : ℤ) → c ≤ 1000000000 → b ≤ 100000000000 → (pos 0 ≤ℤ y) × (y ≤ℤ pos b) → z ≡ pos c → (neg_ℤ (pos most_reward) ≤ℤ (y +ℤ (negsuc 0 *ℤ z))) × ((y +ℤ (negsuc 0 *ℤ z)) ≤ℤ pos most_reward)
  cost_bounds c b y z l m h e = let low = h.0 in let high = h.1 in ((omega (arith, ints)), (omega (arith, ints)))

  pub rewarded : (m c : ℕ) → n ≡ suc m → c ≤ 1000000000 → is_reward (less (reward_func m) (constant_dd (env_of n dds) (pos c)).func) ≡ true
  rewarded m c same l =
      let is = reward_is m same in
      let cost : Func = (constant_dd (env_of n dds) (pos c)).func in
      within_true (neg_ℤ (pos most_reward)) (pos most_reward) (less (reward_func m) (constant_dd (env_of n dds) (pos c)).func) (subst IsScope (sym is.shape) (is_scope n few))
      (λ x q. (let p : IsPoint sizes x = subst (λ (s : Shape). IsPoint s.sizes x) is.shape q in
      subst (λ z. (neg_ℤ (pos most_reward) ≤ℤ z) × (z ≤ℤ pos most_reward))
      (sym (plus_value (reward_func m) (scalar_multiple (constant_dd (env_of n dds) (pos c)).func (negsuc 0)) x is.shape p
      ∙ ap (λ v. value_of (reward_func m) x +ℤ v) (value_of-function_of (scope_of n) (λ y. negsuc 0 *ℤ value_of (constant_dd (env_of n dds) (pos c)).func y) x (scope_some (scope_of n) (is_scope n few)) p)))
      (cost_bounds c (5000000000 + m * 1000000000) (value_of (reward_func m) x) (value_of (constant_dd (env_of n dds) (pos c)).func x) l (omega arith) (is.bounds x p) (constant_value n few dds (pos c) x p))))

  rewards_written : (k m : ℕ) → k + m ≤ n → AreWritten (env_of n dds) (allowed_slots (scope_of n) role.Reward) 3 (row_signs reward_signs (suc k) m) (pay_dds k m)
  rewards_written k zero l = tt
  rewards_written k (suc m) l = (
    writes_unprimed n few dds (allowed_slots (scope_of n) role.Reward) k 1 (leaf (codes "0.0") tight) (leaf (codes "1.0") tight) _ _ (gap_behind m) (omega arith)
        (writes_ticks n few dds (allowed_slots (scope_of n) role.Reward) (codes "0.0") (pos 0) tight spells_zero) (writes_ticks n few dds (allowed_slots (scope_of n) role.Reward) (codes "1.0") (pos 1000000000) tight spells_one) (reward_allows n k (omega arith)),
    rewards_written (suc k) m (omega arith),
  )

  module _ (s : State) (env : s.env ≡ env_of n dds) (new : s.reward ≡ None) (m : ℕ) (same : n ≡ suc m) where
    abbrev reward_dd : Dd
    reward_dd = record { mentions = mentions_of none (pay 0 5000000000 ∷ pay_dds 1 m); func = reward_func m }

    pub leads_rewards : Leads s (record s { reward = Some (reward_func m) }) 4 (rewards_signs (variable_name 1) m)
    leads_rewards = leads_reward s reward_dd _ 4 new
        (subst (λ (e : Env). Writes e) (sym env)
        (writes_total (env_of n dds) (allowed_slots (scope_of n) role.Reward) 3 (group (variable_name 1) (two_leaves (codes "0.0") (codes "5.0")) space ∷ row_signs reward_signs 2 m) (pay 0 5000000000) (pay_dds 1 m) line (
          writes_unprimed n few dds (allowed_slots (scope_of n) role.Reward) 0 1 (leaf (codes "0.0") tight) (leaf (codes "5.0") tight) _ _ space (omega arith)
              (writes_ticks n few dds (allowed_slots (scope_of n) role.Reward) (codes "0.0") (pos 0) tight spells_zero) (writes_ticks n few dds (allowed_slots (scope_of n) role.Reward) (codes "5.0") (pos 5000000000) tight spells_five) (reward_allows n 0 (omega arith)),
          rewards_written 1 m (omega arith),
        )
        (small_sums (pay 0 5000000000).func 5000000000 1 m (omega arith) (omega arith) (pay_is 0 5000000000 5000000000 (omega arith) (omega arith)))))
      where
        Writes : Env → Type 0
        Writes e = WritesTree e (allowed_slots e.scope role.Reward) reward_dd 4 (sum_group (list_signs (group (variable_name 1) (two_leaves (codes "0.0") (codes "5.0")) space ∷ row_signs reward_signs 2 m)) line)

-- The least and the greatest reward of a model's actions are those of its problem.
use Rattle.std.proofs.Common.{◌≡◌, ℕ, zero, suc, ◌+◌, ◌-◌, ◌*◌, ◌^◌, ◌<◌, ◌≤◌, refl, sym, ◌∙◌, ap, subst, arith, below_more, List, [], ◌∷◌, ◌++◌, length, get_or}
use Rattle.std.specs.Prelude.{ℤ, pos, neg_ℤ, ◌*ℤ◌, ◌≤ℤ◌, unsigned_abs}
use Rattle.std.specs.Int.{int_min, int_max, int_div_euclid}
use Rattle.std.proofs.lemmas.Int.{ints, by_lt_z, int_min_is, int_max_is}
use Rattle.std.proofs.lemmas.List.Elements.{All-get_or}
use Rattle.sp_dd.specs.Points as slots
use Rattle.sp_dd.specs.Func.{Shape, value_of, IsPointOf, Everywhere}
use Rattle.sp_dd.specs.Operations.{IsLeast, IsGreatest}
use Rattle.sp_theory.specs.Points as theory
use Rattle.sp_theory.specs.Draws.{q}
use Rattle.sp_theory.specs.Model.{least_reward, greatest_reward, least_return, top}
use Rattle.sp_theory.proofs.Range.{least_reward_is, greatest_reward_is}
use Rattle.sp_model.specs.declared.parts.Parts.{Parts}
use Rattle.sp_model.specs.declared.parts.ActionPart.{ActionPart}
use Rattle.sp_model.specs.Problem.{sizes_of, shape_of, first_numbers, in_turn, point_of, problem, action_of, reward_of, no_action}
use Rattle.sp_model.specs.Rewards.{reward_in, IsLeastReward, IsGreatestReward}
use Rattle.sp_model.specs.Kept.{IsAction, IsModel}
use Rattle.sp_model.proofs.SlotPoints.{Fits-point, Fits-none, padded-whole, length-point, length-in_turn, split, seen_free}
use Rattle.sp_model.proofs.RowLaw.{some_sizes, point_in}
use Rattle.sp_model.proofs.Counts.{length-sizes_of, count_of-some}

-- the first action's least reward
pub least_first : (actions : List ActionPart) (v : ℤ) → 0 < length actions → IsLeast (reward_in actions 0) v → IsLeastReward actions 0 v
least_first actions v some least = record { action = 0; point = least.point; known = some; inside = least.inside; reached = least.reached; bound = λ a less. absurd (omega arith) }

pub greatest_first : (actions : List ActionPart) (v : ℤ) → 0 < length actions → IsGreatest (reward_in actions 0) v → IsGreatestReward actions 0 v
greatest_first actions v some greatest = record { action = 0; point = greatest.point; known = some; inside = greatest.inside; reached = greatest.reached; bound = λ a less. absurd (omega arith) }

-- the action that a loop meets
pub item_is : (actions : List ActionPart) (i : ℕ) (a : ActionPart) → i < length actions → a ≡ get_or actions i a → a.reward ≡ reward_in actions i
item_is actions i a h is = ap (λ (x : ActionPart). x.reward) (is ∙ get_or_any actions i a no_action h)
  where
    get_or_any : (xs : List ActionPart) (i : ℕ) (d e : ActionPart) → i < length xs → get_or xs i d ≡ get_or xs i e
    get_or_any [] i d e h = absurd (omega arith)
    get_or_any (x ∷ xs) zero d e h = refl
    get_or_any (x ∷ xs) (suc i) d e h = get_or_any xs i d e (omega arith)

-- one more action is met
pub least_more : (actions : List ActionPart) (i : ℕ) (old here new : ℤ) → i < length actions → IsLeastReward actions i old → IsLeast (reward_in actions i) here → new ≡ int_min old here → IsLeastReward actions (i + 1) new
least_more actions i old here new less before least e =
    let is = int_min_is old here in
    let low : int_min old here ≤ℤ old = omega (arith, ints, is) in
    let lower : int_min old here ≤ℤ here = omega (arith, ints, is) in
    let all : (a : ℕ) → a < i + 1 → Everywhere (reward_in actions a) (λ u. new ≤ℤ u) =
    below_more _ _ (λ a b x p. let was = before.bound a b x p in omega (arith, ints, was, low, e)) (λ x p. let was = least.bound x p in omega (arith, ints, was, lower, e)) in
    by_lt_z here old
    (λ h. record { action = i; point = least.point; known = less; inside = least.inside; reached = (let same : here ≡ int_min old here = omega (arith, ints, is, h) in least.reached ∙ same ∙ sym e); bound = all })
    (λ h. record { action = before.action; point = before.point; known = before.known; inside = before.inside; reached = (let same : old ≡ int_min old here = omega (arith, ints, is, h) in before.reached ∙ same ∙ sym e); bound = all })

pub greatest_more : (actions : List ActionPart) (i : ℕ) (old here new : ℤ) → i < length actions → IsGreatestReward actions i old → IsGreatest (reward_in actions i) here → new ≡ int_max old here → IsGreatestReward actions (i + 1) new
greatest_more actions i old here new less before greatest e =
    let is = int_max_is old here in
    let high : old ≤ℤ int_max old here = omega (arith, ints, is) in
    let higher : here ≤ℤ int_max old here = omega (arith, ints, is) in
    let all : (a : ℕ) → a < i + 1 → Everywhere (reward_in actions a) (λ u. u ≤ℤ new) =
    below_more _ _ (λ a b x p. let was = before.bound a b x p in omega (arith, ints, was, high, e)) (λ x p. let was = greatest.bound x p in omega (arith, ints, was, higher, e)) in
    by_lt_z old here
    (λ h. record { action = i; point = greatest.point; known = less; inside = greatest.inside; reached = (let same : here ≡ int_max old here = omega (arith, ints, is, h) in greatest.reached ∙ same ∙ sym e); bound = all })
    (λ h. record { action = before.action; point = before.point; known = before.known; inside = before.inside; reached = (let same : old ≡ int_max old here = omega (arith, ints, is, h) in before.reached ∙ same ∙ sym e); bound = all })

module _ (p : Parts) (known : IsModel p) where
  pub action_at : (a : ℕ) → a < length p.actions → IsAction (shape_of p) (action_of p a)
  action_at a h = All-get_or (IsAction (shape_of p)) p.actions a no_action h known.actions

  -- the point of a state and a next state
  pub state_point : (s next : List ℕ) → theory.IsPoint (sizes_of p.variables) s → theory.IsPoint (sizes_of p.variables) next → slots.IsPoint (shape_of p).sizes (point_of p s next [])
  state_point s next at to =
      point_in (sizes_of p.variables) (sizes_of p.sights) (length p.variables) (length p.sights) (length-sizes_of p.variables) (length-sizes_of p.sights)
      (some_sizes p.variables known.variables) (some_sizes p.sights known.sights) s next [] (Fits-point _ s at) (Fits-point _ next to) (Fits-none _)

  pub reward_point : (a : ℕ) → a < length p.actions → (x : List ℕ) → slots.IsPoint (shape_of p).sizes x → IsPointOf (reward_of p a) x
  reward_point a h x at = let P : Shape → Type 0 = λ c. slots.IsPoint c.sizes x in subst P (sym (action_at a h).reward.shape) at

  point_reward : (a : ℕ) → a < length p.actions → (x : List ℕ) → IsPointOf (reward_of p a) x → slots.IsPoint (shape_of p).sizes x
  point_reward a h x at = let P : Shape → Type 0 = λ c. slots.IsPoint c.sizes x in subst P (action_at a h).reward.shape at

  -- the reward at a point is that of its state and next state
  pub reward_at : (a : ℕ) → a < length p.actions → (x : List ℕ) (at : IsPointOf (reward_of p a) x)
      → (s : List ℕ) × (next : List ℕ) × theory.IsPoint (sizes_of p.variables) s × theory.IsPoint (sizes_of p.variables) next × (value_of (reward_of p a) (point_of p s next []) ≡ value_of (reward_of p a) x)
  reward_at a h x at =
      let ks = sizes_of p.variables in
      let act = action_at a h in
      let parts = split ks (sizes_of p.sights) x (point_reward a h x at) in
      let front : List ℕ = in_turn parts.state parts.next in
      let P : List ℕ → Type 0 = λ y. IsPointOf (reward_of p a) y in
      let long : length front ≡ 2 * length p.variables =
      length-in_turn parts.state parts.next (length-point ks parts.state parts.at ∙ sym (length-point ks parts.next parts.to)) ∙ ap (λ (c : ℕ). 2 * c) (length-point ks parts.state parts.at ∙ length-sizes_of p.variables) in
      let whole : (y : List ℕ) → theory.IsPoint ks y → first_numbers (length p.variables) y ≡ y = λ y to. ap (λ (c : ℕ). first_numbers c y) (sym (length-sizes_of p.variables)) ∙ padded-whole ks y to in
      let same : point_of p parts.state parts.next [] ≡ front ++ first_numbers (length p.sights) [] =
      ap (λ (y : List ℕ). in_turn y (first_numbers (length p.variables) parts.next) ++ first_numbers (length p.sights) []) (whole parts.state parts.at)
      ∙ ap (λ (y : List ℕ). in_turn parts.state y ++ first_numbers (length p.sights) []) (whole parts.next parts.to) in
      let free : (j : ℕ) → 2 * length p.variables + j < length (reward_of p a).shape.sizes → _ = λ j less. act.reward.not_seen j (let e = ap (λ (c : Shape). length c.sizes) act.reward.shape in omega (arith, less, e)) in (
        parts.state,
        parts.next,
        parts.at,
        parts.to,
        ap (value_of (reward_of p a)) same
            ∙ seen_free (reward_of p a) (length p.variables) front (first_numbers (length p.sights) []) parts.seen long
            (subst P same (reward_point a h _ (state_point parts.state parts.next parts.at parts.to))) (subst P (sym parts.whole) at) free
            ∙ ap (value_of (reward_of p a)) parts.whole,
      )

  pub some_states : 0 < theory.count_of (sizes_of p.variables)
  some_states = count_of-some (sizes_of p.variables) (some_sizes p.variables known.variables)

  pub least_reward-problem : (v : ℤ) → IsLeastReward p.actions (length p.actions) v → least_reward (problem p) ≡ v
  unfolding problem
  least_reward-problem v least =
      let (s, next, at, to, e) = reward_at least.action least.known least.point least.inside in
      least_reward_is (problem p) v known.some_action some_states
      (λ a s next less at to. least.bound a less (point_of p s next []) (reward_point a less _ (state_point s next at to)))
      (least.action, s, next, least.known, at, to, e ∙ least.reached)

  pub greatest_reward-problem : (v : ℤ) → IsGreatestReward p.actions (length p.actions) v → greatest_reward (problem p) ≡ v
  unfolding problem
  greatest_reward-problem v greatest =
      let (s, next, at, to, e) = reward_at greatest.action greatest.known greatest.point greatest.inside in
      greatest_reward_is (problem p) v known.some_action some_states
      (λ a s next less at to. greatest.bound a less (point_of p s next []) (reward_point a less _ (state_point s next at to)))
      (greatest.action, s, next, greatest.known, at, to, e ∙ greatest.reached)

  pub least_return-problem : (v r : ℤ) → IsLeastReward p.actions (length p.actions) v → r ≡ int_div_euclid (pos 1000000000 *ℤ v) (pos (1000000000 - p.discount)) → r ≡ least_return (problem p)
  unfolding problem least_return q
  least_return-problem v r least e = e ∙ ap (λ (z : ℤ). int_div_euclid (pos 1000000000 *ℤ z) (pos (1000000000 - p.discount))) (sym (least_reward-problem v least))

  pub top-problem : (v r : ℤ) → IsGreatestReward p.actions (length p.actions) v → r ≡ neg_ℤ (int_div_euclid (neg_ℤ (pos 1000000000 *ℤ v)) (pos (1000000000 - p.discount))) → r ≡ top (problem p)
  unfolding problem top q
  top-problem v r greatest e = e ∙ ap (λ (z : ℤ). neg_ℤ (int_div_euclid (neg_ℤ (pos 1000000000 *ℤ z)) (pos (1000000000 - p.discount)))) (sym (greatest_reward-problem v greatest))

  -- no reward exceeds its bound
  pub least_small : (v : ℤ) → IsLeastReward p.actions (length p.actions) v → unsigned_abs v ≤ 10 ^ 15
  least_small v least = let P : ℤ → Type 0 = λ z. unsigned_abs z ≤ 10 ^ 15 in subst P least.reached ((action_at least.action least.known).reward.small least.point least.inside)

  pub greatest_small : (v : ℤ) → IsGreatestReward p.actions (length p.actions) v → unsigned_abs v ≤ 10 ^ 15
  greatest_small v greatest = let P : ℤ → Type 0 = λ z. unsigned_abs z ≤ 10 ^ 15 in subst P greatest.reached ((action_at greatest.action greatest.known).reward.small greatest.point greatest.inside)

-- A factored POMDP (Poupart 2005): its data, the law of its rows, and the range of its returns.
use Rattle.std.proofs.Common.{◌≡◌, ◌≢◌, ℕ, ◌+◌, ◌-◌, ◌<◌, List, [], ◌∷◌, ◌++◌, length, get_or, Bool}
use Rattle.std.specs.Prelude.{ℤ, pos, All, AllPairs, Contains}
use Rattle.std.specs.Ordering.{int_eq}
use Rattle.sp_theory.specs.Sums.{times, floor, ceiling, sum_below, least_below, greatest_below}
use Rattle.sp_theory.specs.Points.{IsPoint, put, least_over, greatest_over, holds_over}
use Rattle.sp_theory.specs.Draws.{q, Draws, AreProbabilitiesWhole}

-- a value for each state variable
abbrev pub State : Type 0
State = List ℕ

-- a number for each state, in ticks of value
abbrev pub Vector : Type 0
Vector = State → ℤ

-- a part of the initial belief: its own variables, and the probability of their values in ticks
pub record Factor : Type 0 where
  pub own : List ℕ
  pub share : State → ℕ

-- the data of a model
pub record Model : Type 0 where
  -- how many values each state variable has, and each observation variable
  pub sizes : List ℕ
  pub sight_sizes : List ℕ
  -- how many actions there are
  pub actions : ℕ
  -- the probabilities of the next state's values, in order, after an action at a state
  pub moves : ℕ → State → Draws
  -- the probabilities of the observation's values, in order, after an action that led to a state
  pub sights : ℕ → State → Draws
  -- the reward of an action at a state that leads to a next state, in ticks of value
  pub reward : ℕ → State → State → ℤ
  -- the discount, in ticks of probability
  pub discount : ℕ
  -- the initial belief
  pub factors : List Factor

-- the sum of f over all values of the own variables, the other variables as in s
unfoldable pub sum_over_own : List ℕ → List ℕ → Vector → Vector
sum_over_own sizes [] f s = f s
sum_over_own sizes (i ∷ own) f s = sum_below (get_or sizes i 0) (λ x. sum_over_own sizes own f (put s i x))

-- the own variables of all factors
abbrev pub all_own : List Factor → List ℕ
all_own [] = []
all_own (f ∷ fs) = f.own ++ all_own fs

-- the factor's value is the same at states that agree on its own variables
abbrev pub DependsOnOwn : List ℕ → Factor → Type 0
DependsOnOwn sizes f = (s t : State) → IsPoint sizes s → IsPoint sizes t → All (λ i. get_or s i 0 ≡ get_or t i 0) f.own → f.share s ≡ f.share t

-- the law of a model: every row of its tables sums to one, it has an action, and its discount is below one
pub record IsLawful (m : Model) : Type 0 where
  pub moves_whole : (a : ℕ) (s : State) → a < m.actions → IsPoint m.sizes s → AreProbabilitiesWhole m.sizes (m.moves a s)
  pub sights_whole : (a : ℕ) (next : State) → a < m.actions → IsPoint m.sizes next → AreProbabilitiesWhole m.sight_sizes (m.sights a next)
  pub some_action : 0 < m.actions
  pub discounts : m.discount < q

-- the law of the initial belief: each factor sums to one over its own variables, and each variable is of one factor
pub record HasInitial (m : Model) : Type 0 where
  pub whole : All (λ f. (s : State) → IsPoint m.sizes s → sum_over_own m.sizes f.own (λ t. pos (f.share t)) s ≡ pos q) m.factors
  pub owned : All (DependsOnOwn m.sizes) m.factors
  pub apart : AllPairs (λ i j. i ≢ j) (all_own m.factors)
  pub within : All (λ i. i < length m.sizes) (all_own m.factors)
  pub every : (i : ℕ) → i < length m.sizes → Contains (all_own m.factors) i

-- the least reward over all actions, states and next states
unfoldable pub least_reward : Model → ℤ
least_reward m = least_below m.actions (λ a. least_over m.sizes (λ s. least_over m.sizes (m.reward a s)))

-- the greatest reward over all actions, states and next states
unfoldable pub greatest_reward : Model → ℤ
greatest_reward m = greatest_below m.actions (λ a. greatest_over m.sizes (λ s. greatest_over m.sizes (m.reward a s)))

-- the property holds of each reward
abbrev pub AreRewards : Model → (ℤ → Type 0) → Type 0
AreRewards m P = (a : ℕ) (s next : State) → a < m.actions → IsPoint m.sizes s → IsPoint m.sizes next → P (m.reward a s next)

-- the number is the reward of some action at some state and next state
abbrev pub IsReached : Model → ℤ → Type 0
IsReached m z = (a : ℕ) × (s : State) × (next : State) × (a < m.actions) × IsPoint m.sizes s × IsPoint m.sizes next × (m.reward a s next ≡ z)

-- L: what the least reward for ever is worth, rounded down
unfoldable pub least_return : Model → ℤ
least_return m = floor (times q (least_reward m)) (q - m.discount)

-- H: what the greatest reward for ever is worth, rounded up
unfoldable pub top : Model → ℤ
top m = ceiling (times q (greatest_reward m)) (q - m.discount)

-- whether the reward of an action is the same for all next states, at each state
unfoldable pub ignores_next : Model → ℕ → Bool
ignores_next m a = holds_over m.sizes (λ s. holds_over m.sizes (λ next. holds_over m.sizes (λ other. int_eq (m.reward a s next) (m.reward a s other))))

-- c: the power of q that the numbers of one exact step stand over: one for each state variable, each observation variable and the discount
abbrev pub divisions : Model → ℕ
divisions m = length m.sizes + length m.sight_sizes + 1

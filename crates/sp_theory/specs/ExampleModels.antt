-- Small models on which the definitions are worked out.
use Rattle.std.proofs.Common.{ℕ, ◌+◌, ◌%◌, [], ◌∷◌, get_or, cond, eqb}
use Rattle.std.specs.Prelude.{ℤ, pos, neg_ℤ}
use Rattle.sp_theory.specs.Draws.{Draws}
use Rattle.sp_theory.specs.Model.{State, Model}
use Rattle.sp_theory.specs.Samples.{Chooser}

-- so many billionths below zero
abbrev pub minus : ℕ → ℤ
minus n = neg_ℤ (pos n)

-- ---- the tiger problem (Kaelbling, Littman and Cassandra 1998): a tiger is behind the left door (0) or the right one (1).
-- The actions are to listen (0), and to open the left (1) or the right door (2), after which the tiger is put behind a door at random
abbrev pub tiger_moves : ℕ → State → Draws
tiger_moves a s before x = cond (eqb a 0) (cond (eqb x (get_or s 0 0)) 1000000000 0) 500000000

-- listening tells the tiger's door with a probability and the other with the rest; after a door was opened, what is heard says nothing
abbrev pub tiger_sights : ℕ → ℕ → ℕ → State → Draws
tiger_sights right wrong a next before x = cond (eqb a 0) (cond (eqb x (get_or next 0 0)) right wrong) 500000000

-- listening costs 1, the tiger's door 100, and the other door brings 10
abbrev pub tiger_reward : ℕ → State → State → ℤ
tiger_reward a s next = cond (eqb a 0) (minus 1000000000) (cond (eqb a (get_or s 0 0 + 1)) (minus 100000000000) (pos 10000000000))

-- the tiger problem with a discount and the probabilities of what is heard
abbrev pub tiger_with : ℕ → ℕ → ℕ → Model
tiger_with discount right wrong = record {
  sizes = 2 ∷ [];
  sight_sizes = 2 ∷ [];
  actions = 3;
  moves = tiger_moves;
  sights = tiger_sights right wrong;
  reward = tiger_reward;
  discount = discount;
  factors = record { own = 0 ∷ []; share = λ s. 500000000 } ∷ [];
}

-- the tiger problem as it is mostly told: discount 0.95, and what is heard is right with probability 0.85
unfoldable pub tiger : Model
tiger = tiger_with 950000000 850000000 150000000

-- the tiger problem without a future
unfoldable pub myopic_tiger : Model
myopic_tiger = tiger_with 0 850000000 150000000

-- the tiger problem where listening never errs
unfoldable pub clear_tiger : Model
clear_tiger = tiger_with 950000000 1000000000 0

-- ---- one state
-- one state, one action that brings a reward, one observation
abbrev pub constant_reward : ℤ → ℕ → Model
constant_reward reward discount = record {
  sizes = 1 ∷ [];
  sight_sizes = 1 ∷ [];
  actions = 1;
  moves = λ a s before x. 1000000000;
  sights = λ a next before x. 1000000000;
  reward = λ a s next. reward;
  discount = discount;
  factors = record { own = 0 ∷ []; share = λ s. 1000000000 } ∷ [];
}

-- a reward of 1 for ever, at discount 0.5
unfoldable pub ever_one : Model
ever_one = constant_reward (pos 1000000000) 500000000

-- a cost of 1 for ever, at discount 0.7
unfoldable pub ever_minus_one : Model
ever_minus_one = constant_reward (minus 1000000000) 700000000

-- ---- rewards on the next state
-- two states, of which each comes next with probability 0.5 whatever is done, and a reward for the second; discount 0.5
abbrev pub lottery : ℤ → Model
lottery prize = record {
  sizes = 2 ∷ [];
  sight_sizes = 1 ∷ [];
  actions = 1;
  moves = λ a s before x. 500000000;
  sights = λ a next before x. 1000000000;
  reward = λ a s next. cond (eqb (get_or next 0 0) 1) prize (pos 0);
  discount = 500000000;
  factors = record { own = 0 ∷ []; share = λ s. cond (eqb (get_or s 0 0) 0) 1000000000 0 } ∷ [];
}

-- the prize is 3
unfoldable pub large_prize : Model
large_prize = lottery (pos 3000000000)

-- the prize is one tick
unfoldable pub small_prize : Model
small_prize = lottery (pos 1)

-- ---- a chooser
-- the word modulo the number of actions
abbrev pub uniform_chooser : Chooser (Unit {0})
uniform_chooser = record { opening = tt; answer = λ state depth actions word. word % actions; after = λ state depth actions word. state }

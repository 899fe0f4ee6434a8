-- The weights of the initial belief, and the belief update (Spaan and Vlassis 2005) before its division: as it is made with floors, and exactly.
use Rattle.std.proofs.Common.{ℕ, ◌^◌, List, [], ◌∷◌, length, get_or, take, map, Bool, not, eqb, cond, Option, Some, None}
use Rattle.std.specs.Prelude.{ℤ, pos, unsigned_abs, filter}
use Rattle.std.specs.List.{range_with_len, list_all, fold}
use Rattle.sp_theory.specs.Sums.{times, floor, sum_below, holds_below}
use Rattle.sp_theory.specs.Points.{put, sum_over, holds_over}
use Rattle.sp_theory.specs.Draws.{q, chance, thinned}
use Rattle.sp_theory.specs.Model.{State, Model}
use Rattle.sp_theory.specs.Values.{Weights}
use Rattle.sp_theory.specs.Scaling.{total_weight, scaled_weights}

-- ---- the initial belief
-- 2^62 at every state, multiplied by each factor in order, rounded down each time
unfoldable pub unscaled_initial : Model → Weights
unscaled_initial m s = unsigned_abs (fold (λ z factor. floor (times (factor.share s) z) q) (pos (2 ^ 62)) m.factors)

-- the weights of the initial belief
abbrev pub initial_weights : Model → Weights
initial_weights m = scaled_weights m (unscaled_initial m)

-- ---- tables
-- a number for each state and next state
abbrev pub Transfer : Type 0
Transfer = State → State → ℤ

-- the probability of one next value in ticks, for each state and next state
abbrev pub Table : Type 0
Table = State → State → ℕ

-- the table of variable i after an action: the probability of its next value after the next values before it
abbrev pub table_of : Model → ℕ → ℕ → Table
table_of m a i = λ s next. m.moves a s (take i next) (get_or next i 0)

-- the tables of all state variables, in order
abbrev pub tables_of : Model → ℕ → List Table
tables_of m a = map (table_of m a) (range_with_len 0 (length m.sizes))

-- whether the table is the same whatever the value of variable i of the state
unfoldable pub ignores : List ℕ → Table → ℕ → Bool
ignores sizes table i = holds_over sizes (λ s. holds_over sizes (λ next. holds_below (get_or sizes i 0) (λ x. eqb (table (put s i x) next) (table s next))))

-- whether none of the tables depends on variable i of the state
abbrev pub all_ignore : List ℕ → List Table → ℕ → Bool
all_ignore sizes tables i = list_all (λ table. ignores sizes table i) tables

-- ---- the update with floors
-- f summed over the values of variable i of the state
abbrev pub summed_out : List ℕ → ℕ → Transfer → Transfer
summed_out sizes i f = λ s next. sum_below (get_or sizes i 0) (λ x. f (put s i x) next)

-- f summed over the values of each of these variables, one after another
unfoldable pub all_summed_out : List ℕ → List ℕ → Transfer → Transfer
all_summed_out sizes [] f = f
all_summed_out sizes (i ∷ is) f = all_summed_out sizes is (summed_out sizes i f)

-- f multiplied by each table in order, rounded down each time; after each table every variable still there on which no later table depends is summed out.
-- The list names the variables that are still there
unfoldable pub carried : List ℕ → List Table → List ℕ → Transfer → Transfer
carried sizes [] there f = f
carried sizes (table ∷ later) there f =
    carried sizes later (filter (λ i. not (all_ignore sizes later i)) there)
    (all_summed_out sizes (filter (all_ignore sizes later) there) (λ s next. floor (times (table s next) (f s next)) q))

-- the state of zeros: where every variable is summed out, one state is as good as another
abbrev pub first_state : Model → State
first_state m = map (λ size. 0) m.sizes

-- the weights carried to a next state by an action
unfoldable pub moved : Model → Weights → ℕ → State → ℤ
moved m w a next = carried m.sizes (tables_of m a) (range_with_len 0 (length m.sizes)) (λ s t. pos (w s)) (first_state m) next

-- the next weights before scaling: those carried by the action, multiplied by the probability of each observed value in order, rounded down each time
unfoldable pub unscaled_next : Model → Weights → ℕ → List ℕ → Weights
unscaled_next m w a seen next = unsigned_abs (thinned (m.sights a next) seen (moved m w a next))

-- the next weights after an action and a joint observation; none where the observation is unseen: the weights before scaling are all zero
unfoldable pub next_weights : Model → Weights → ℕ → List ℕ → Option Weights
next_weights m w a seen = cond (eqb (total_weight m (unscaled_next m w a seen)) 0) None (Some (scaled_weights m (unscaled_next m w a seen)))

-- ---- the exact update
-- the exact next weights, over q for each variable
unfoldable pub exact_next : Model → Weights → ℕ → List ℕ → State → ℤ
exact_next m w a seen next = times (chance (m.sights a next) seen) (sum_over m.sizes (λ s. times (chance (m.moves a s) next) (pos (w s))))

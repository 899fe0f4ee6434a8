-- Conditional plans as lists of records, and their exact returns.
use Rattle.std.proofs.Common.{◌≡◌, ℕ, zero, suc, ◌+◌, ◌*◌, ◌^◌, ◌<◌, List, [], length, get_or}
use Rattle.std.specs.Prelude.{◌+ℤ◌}
use Rattle.sp_theory.specs.Sums.{times}
use Rattle.sp_theory.specs.Points.{IsPoint, count_of, number}
use Rattle.sp_theory.specs.Draws.{q}
use Rattle.sp_theory.specs.Model.{Model, State, Vector, least_return, divisions}
use Rattle.sp_theory.specs.Step.{step, expected_reward, expected_links}

-- a node of the plan: its action, the record that each joint observation leads to by number, and its value vector
pub record Record : Type 0 where
  pub action : ℕ
  pub links : List ℕ
  pub vector : Vector

-- record 0, the leaf: nothing is planned from there on, and that is worth the least return
unfoldable pub leaf : Model → Record
leaf m = record { action = 0; links = []; vector = λ s. least_return m }

-- the record of that number; past the records, the leaf
unfoldable pub record_at : Model → List Record → ℕ → Record
record_at m records i = get_or records i (leaf m)

-- the record that a joint observation leads to, by links in the order of the observations' numbers
unfoldable pub link_of : Model → List ℕ → List ℕ → ℕ
link_of m links seen = get_or links (number m.sight_sizes seen) 0

-- the exact return of record i at a height, over q to the number of divisions for each step: the expected discounted reward of following the plan, with the least return at the leaf.
-- Links lead to earlier records, so record i is done at height i
unfoldable pub exact_return : Model → List Record → ℕ → ℕ → Vector
exact_return m records zero i s = least_return m
exact_return m records (suc h) zero s = times (q ^ (divisions m * suc h)) (least_return m)
exact_return m records (suc h) (suc i) s =
    let r = record_at m records (suc i) in
    times (q ^ (divisions m * h + suc (length m.sight_sizes))) (expected_reward m r.action s)
    +ℤ times m.discount (expected_links m r.action (λ seen. exact_return m records h (link_of m r.links seen)) s)

-- a plan: record 0 has the leaf's action 0, and each other record has an action of the model and a link to an earlier record for each joint observation
pub record IsPlan (m : Model) (records : List Record) : Type 0 where
  pub leaf_action : (record_at m records 0).action ≡ 0
  pub known : (i : ℕ) → suc i < length records → (record_at m records (suc i)).action < m.actions
  pub counted : (i : ℕ) → suc i < length records → length (record_at m records (suc i)).links ≡ count_of m.sight_sizes
  pub earlier : (i : ℕ) (seen : List ℕ) → suc i < length records → IsPoint m.sight_sizes seen → link_of m (record_at m records (suc i)).links seen < suc i

-- its vectors: the least return everywhere at the leaf, and at each other record the floored one-step value of its links
pub record HasValues (m : Model) (records : List Record) : Type 0 where
  pub leaf_vector : (s : State) → (record_at m records 0).vector s ≡ least_return m
  pub stepped : (i : ℕ) (s : State) → suc i < length records →
      (record_at m records (suc i)).vector s
      ≡ step m (record_at m records (suc i)).action (λ seen. (record_at m records (link_of m (record_at m records (suc i)).links seen)).vector) s

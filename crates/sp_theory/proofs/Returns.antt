-- The exact return of a plan: at least the least return, and at least each record's vector.
use Rattle.std.proofs.Common.{◌≡◌, ℕ, zero, suc, ◌+◌, ◌*◌, ◌^◌, ◌<◌, ◌≤◌, List, length, sym, ap, ◌∙◌, subst, arith, ⊎_elim}
use Rattle.std.specs.Prelude.{ℤ, ◌+ℤ◌, ◌≤ℤ◌}
use Rattle.std.proofs.lemmas.Nat.{pow-add}
use Rattle.std.proofs.lemmas.Bool.{cases_lt}
use Rattle.std.proofs.lemmas.List.{get_or_past}
use lib.Signed.{≤ℤ_refl}
use Rattle.std.proofs.Math.Nat.{pow-zero, mul-zero, mul-suc}
use Rattle.sp_theory.specs.Sums.{times}
use Rattle.sp_theory.specs.Points.{IsPoint}
use Rattle.sp_theory.specs.Draws.{q}
use Rattle.sp_theory.specs.Model.{Model, State, Vector, IsLawful, least_return, top, divisions}
use Rattle.sp_theory.specs.Step.{LinkedVectors, expected_reward, expected_links, exact_step}
use Rattle.sp_theory.specs.Plan.{Record, leaf, record_at, link_of, exact_return, IsPlan, HasValues}
use Rattle.sp_theory.proofs.Whole.{times-add, times-times, times-one, times_mono, ≤ℤ_trans}
use Rattle.sp_theory.proofs.Order.{add_left_mono}
use Rattle.sp_theory.proofs.Weighing.{le_same, times-swap}
use Rattle.sp_theory.proofs.Range.{least_return-le-top}
use Rattle.sp_theory.proofs.Steps.{expected_links_mono, expected_links-times, least_step, step_low, step_from, step_to}

-- what is at least the links over a power of q is at least the exact step over that power and one divisions more
lifted_step : (m : Model) (a : ℕ) (s : State) (k : ℕ) (links returns : LinkedVectors)
    → ((seen next : List ℕ) → IsPoint m.sight_sizes seen → IsPoint m.sizes next → times (q ^ k) (links seen next) ≤ℤ returns seen next)
    → times (q ^ k) (exact_step m a links s) ≤ℤ (times (q ^ (k + suc (length m.sight_sizes))) (expected_reward m a s) +ℤ times m.discount (expected_links m a returns s))
unfolding exact_step
lifted_step m a s k links returns h =
    ≤ℤ_trans (le_same (times-add (q ^ k) (times (q ^ suc (length m.sight_sizes)) (expected_reward m a s)) (times m.discount (expected_links m a links s))
    ∙ (λ h. (sym (times-times (q ^ k) (q ^ suc (length m.sight_sizes)) (expected_reward m a s)) ∙ ap (λ (t : ℕ). times t (expected_reward m a s)) (sym (pow-add q k (suc (length m.sight_sizes))))) h
    +ℤ (times-swap (q ^ k) m.discount (expected_links m a links s) ∙ ap (times m.discount) (sym (expected_links-times m a s (q ^ k) links))) h)))
    (add_left_mono (times (q ^ (k + suc (length m.sight_sizes))) (expected_reward m a s)) _ _ (times_mono m.discount _ _ (expected_links_mono m a s _ _ h)))

-- one step more over the powers of q
deeper : (m : Model) (h : ℕ) (z : ℤ) → times (q ^ (divisions m * suc h)) z ≡ times (q ^ (divisions m * h)) (times (q ^ divisions m) z)
deeper m h z = ap (λ (t : ℕ). times (q ^ t) z) (mul-suc (divisions m) h) ∙ ap (λ (t : ℕ). times t z) (pow-add q (divisions m * h) (divisions m)) ∙ times-times (q ^ (divisions m * h)) (q ^ divisions m) z

no_power : (m : Model) (z : ℤ) → times (q ^ (divisions m * 0)) z ≡ z
no_power m z = ap (λ (t : ℕ). times (q ^ t) z) (mul-zero (divisions m)) ∙ ap (λ (t : ℕ). times t z) (pow-zero q) ∙ times-one z

-- a plan whose actions are the model's returns at least the least return, from every record, at every height and state
pub return_from : (m : Model) (lawful : IsLawful m) (records : List Record) → ((i : ℕ) → (record_at m records (suc i)).action < m.actions)
    → (h i : ℕ) (s : State) → IsPoint m.sizes s → times (q ^ (divisions m * h)) (least_return m) ≤ℤ exact_return m records h i s
unfolding exact_return
return_from m lawful records known zero i s p = le_same (no_power m (least_return m))
return_from m lawful records known (suc h) zero s p = ≤ℤ_refl _
return_from m lawful records known (suc h) (suc i) s p =
    let r = record_at m records (suc i) in
    ≤ℤ_trans (le_same (deeper m h (least_return m)))
    (≤ℤ_trans (times_mono (q ^ (divisions m * h)) _ _ (least_step m lawful r.action (known i) s p))
    (lifted_step m r.action s (divisions m * h) (λ seen next. least_return m) _ (λ seen next o n. return_from m lawful records known h (link_of m r.links seen) next n)))

-- beyond the records stands the leaf, whose action is action 0
pub each_known : (m : Model) (lawful : IsLawful m) (records : List Record) → IsPlan m records → (i : ℕ) → (record_at m records (suc i)).action < m.actions
unfolding record_at leaf
each_known m lawful records plan i = ⊎_elim (λ less. plan.known i less) (λ past. subst (λ (r : Record). r.action < m.actions) (sym (get_or_past records (suc i) (leaf m) past)) lawful.some_action) (cases_lt (suc i) (length records))

module _ (m : Model) (lawful : IsLawful m) (records : List Record) (plan : IsPlan m records) (values : HasValues m records) where
  abbrev pub vector_at : ℕ → Vector
  vector_at i = (record_at m records i).vector

  pub from_least : (i : ℕ) (s : State) → i < length records → least_return m ≤ℤ vector_at i s
  from_least zero s less = le_same (sym (values.leaf_vector s))
  from_least (suc i) s less = ≤ℤ_trans (step_from m _ _ s) (le_same (sym (values.stepped i s less)))

  pub to_top : (h i : ℕ) (s : State) → i ≤ h → i < length records → IsPoint m.sizes s → vector_at i s ≤ℤ top m
  to_top h zero s le less p = ≤ℤ_trans (le_same (values.leaf_vector s)) (least_return-le-top m lawful)
  to_top zero (suc i) s le less p = absurd (omega arith)
  to_top (suc h) (suc i) s le less p =
      ≤ℤ_trans (le_same (values.stepped i s less))
      (step_to m lawful _ (plan.known i less) s p _ (λ seen next o n. let early = plan.earlier i seen less o in to_top h _ next (omega arith) (omega arith) n))

  -- each vector is at most the exact return of its record, over the same power of q
  pub return_low : (h i : ℕ) (s : State) → i ≤ h → i < length records → IsPoint m.sizes s → times (q ^ (divisions m * h)) (vector_at i s) ≤ℤ exact_return m records h i s
  unfolding exact_return
  return_low zero zero s le less p = le_same (no_power m (vector_at 0 s) ∙ values.leaf_vector s)
  return_low zero (suc i) s le less p = absurd (omega arith)
  return_low (suc h) zero s le less p = le_same (ap (times (q ^ (divisions m * suc h))) (values.leaf_vector s))
  return_low (suc h) (suc i) s le less p =
      let r = record_at m records (suc i) in
      ≤ℤ_trans (le_same (ap (times (q ^ (divisions m * suc h))) (values.stepped i s less) ∙ deeper m h _))
      (≤ℤ_trans (times_mono (q ^ (divisions m * h)) _ _ (step_low m lawful r.action (plan.known i less) s p _ (λ seen next o n. let early = plan.earlier i seen less o in from_least _ next (omega arith))))
      (lifted_step m r.action s (divisions m * h) _ _ (λ seen next o n. let early = plan.earlier i seen less o in return_low h (link_of m r.links seen) next (omega arith) (omega arith) n)))

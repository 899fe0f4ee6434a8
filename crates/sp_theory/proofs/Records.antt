-- One more record at the end of a plan.
use Rattle.std.proofs.Common.{◌≡◌, ℕ, suc, ◌<◌, List, [], ◌∷◌, ◌++◌, length, sym, ap, ◌∙◌, subst, arith, length-append}
use Rattle.std.proofs.Math.ListN.{get_or-append}
use Rattle.std.proofs.Math.Seq.{get_or-append_seam}
use Rattle.sp_theory.specs.Points.{IsPoint, count_of}
use Rattle.sp_theory.specs.Model.{Model}
use Rattle.sp_theory.specs.Step.{step}
use Rattle.sp_theory.specs.Plan.{Record, leaf, record_at, link_of, IsPlan, HasValues}
use Rattle.sp_theory.specs.Values.{Member}
use Rattle.sp_theory.specs.Book.{IsMember}
use Rattle.sp_theory.proofs.Order.{by_order}
use Rattle.sp_theory.proofs.Steps.{step_same}

module _ (m : Model) (records : List Record) (e : Record) where
  pub record_at-before : (i : ℕ) → i < length records → record_at m (records ++ e ∷ []) i ≡ record_at m records i
  unfolding record_at
  record_at-before i h = get_or-append records (e ∷ []) (leaf m) i h

  pub record_at-last : record_at m (records ++ e ∷ []) (length records) ≡ e
  unfolding record_at
  record_at-last = get_or-append_seam records e [] (leaf m)

  pub more_records : length (records ++ e ∷ []) ≡ suc (length records)
  more_records = omega (arith, length-append records (e ∷ []))

  pub member_more : (x : Member) → IsMember m records x → IsMember m (records ++ e ∷ []) x
  member_more x (less, same, acts) = (omega (arith, more_records), same ∙ ap (λ (y : Record). y.vector) (sym (record_at-before x.id less)), acts ∙ ap (λ (y : Record). y.action) (sym (record_at-before x.id less)))

  -- what holds of each earlier record and of the new one
  pub at_each : (P : ℕ → Record → Type 0) → ((i : ℕ) → suc i < length records → P i (record_at m records (suc i))) → ((i : ℕ) → suc i ≡ length records → P i e)
      → (i : ℕ) → suc i < length (records ++ e ∷ []) → P i (record_at m (records ++ e ∷ []) (suc i))
  at_each P old new i less =
      by_order (suc i) (length records) (λ before. subst (P i) (sym (record_at-before (suc i) before)) (old i before))
      (λ last. subst (λ (n : ℕ). P i (record_at m (records ++ e ∷ []) n)) (sym last) (subst (P i) (sym record_at-last) (new i last)))
      (λ past. absurd (omega (arith, more_records)))

  pub plan_more : 0 < length records → IsPlan m records → e.action < m.actions → length e.links ≡ count_of m.sight_sizes
      → ((seen : List ℕ) → IsPoint m.sight_sizes seen → link_of m e.links seen < length records)
      → IsPlan m (records ++ e ∷ [])
  plan_more some plan known counted early = record {
    leaf_action = ap (λ (y : Record). y.action) (record_at-before 0 some) ∙ plan.leaf_action;
    known = at_each (λ i y. y.action < m.actions) plan.known (λ i last. known);
    counted = at_each (λ i y. length y.links ≡ count_of m.sight_sizes) plan.counted (λ i last. counted);
    earlier = λ i seen less. at_each (λ i y. (seen : List ℕ) → IsPoint m.sight_sizes seen → link_of m y.links seen < suc i) (λ i less seen o. plan.earlier i seen less o) (λ i last seen o. subst (λ (n : ℕ). link_of m e.links seen < n) (sym last) (early seen o)) i less seen;
  }

  pub values_more : 0 < length records → IsPlan m records → HasValues m records
      → ((seen : List ℕ) → IsPoint m.sight_sizes seen → link_of m e.links seen < length records)
      → ((s : List ℕ) → e.vector s ≡ step m e.action (λ seen. (record_at m records (link_of m e.links seen)).vector) s)
      → HasValues m (records ++ e ∷ [])
  values_more some plan values early stepped = record {
    leaf_vector = λ s. ap (λ (y : Record). y.vector s) (record_at-before 0 some) ∙ values.leaf_vector s;
    stepped = λ i s less. at_each (λ i y. (s : List ℕ) → y.vector s ≡ step m y.action (λ seen. (record_at m (records ++ e ∷ []) (link_of m y.links seen)).vector) s)
        (λ i less s. values.stepped i s less ∙ step_same m _ _ _ s (λ seen next o n. ap (λ (y : Record). y.vector next) (sym (record_at-before _ (let early = plan.earlier i seen less o in omega arith)))))
        (λ i last s. stepped s ∙ step_same m _ _ _ s (λ seen next o n. ap (λ (y : Record). y.vector next) (sym (record_at-before _ (early seen o)))))
        i less s;
  }

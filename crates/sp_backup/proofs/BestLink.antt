-- The link of a joint observation, as a loop over the members finds it.
use Rattle.std.proofs.Common.{◌≡◌, ℕ, ◌+◌, ◌<◌, ◌≤◌, refl, sym, ap, ◌∙◌, subst, arith, length, get_or, Bool, true, false, cond}
use Rattle.std.specs.Prelude.{ℤ}
use Rattle.std.proofs.lemmas.Option.{slice_get-get_or}
use Rattle.sp_theory.specs.Points.{point_of}
use Rattle.sp_theory.specs.Values.{Weights, Member}
use Rattle.sp_theory.specs.Backup.{estimate}
use Rattle.sp_model.specs.Problem.{sizes_of, problem}
use Rattle.sp_value.specs.Editions.{EditionParts, no_member}
use Rattle.sp_value.specs.Scores.{outdoes}
use Rattle.sp_value.proofs.BestMember.{IsBestOf, best_first, best_next, best_last}
use Rattle.sp_backup.specs.Choosing.{IsLinkAt}
use Rattle.sp_backup.specs.Posteriors.{IsScoredMember, id_of, estimate_of}
use Rattle.sp_backup.specs.declared.linking.ScoredMember.{ScoredMember}
use Rattle.sp_backup.proofs.LinkSums.{best_link}

-- the member that was scored is the best of the first k members
pub record IsBestLink (e : EditionParts) (w : Weights) (a joint : ℕ) (x : ScoredMember) (k : ℕ) : Type 0 where
  pub best : IsBestOf e (λ y. estimate (problem e.task.model) w a (point_of (sizes_of e.task.model.sights) joint) y.vector) x.place k (estimate_of e w a joint x.place)
  pub scored : IsScoredMember e w a joint x

module _ (e : EditionParts) (w : Weights) (a joint : ℕ) where
  abbrev score : Member → ℤ
  score y = estimate (problem e.task.model) w a (point_of (sizes_of e.task.model.sights) joint) y.vector

  pub link_first : (x : ScoredMember) → 0 < length e.members → x.place ≡ 0 → IsScoredMember e w a joint x → IsBestLink e w a joint x 1
  link_first x some first is = record {
    best = subst (λ (n : ℕ). IsBestOf e score n 1 (estimate_of e w a joint n)) (sym first) (best_first e score some (estimate_of e w a joint 0) refl);
    scored = is;
  }

  pub link_next : (k n : ℕ) (best next then : ScoredMember) → IsBestLink e w a joint best k → k < length e.members → next.place ≡ k → IsScoredMember e w a joint then
      → then.place ≡ cond (outdoes (estimate_of e w a joint next.place) (id_of e next.place) (estimate_of e w a joint best.place) (id_of e best.place)) next.place best.place → n ≡ k + 1 → IsBestLink e w a joint then n
  link_next k n best next then before less here is chosen more = record {
    best = best_next e score e.members refl best.place k (estimate_of e w a joint best.place) (estimate_of e w a joint k) t (get_or e.members k no_member) (get_or e.members best.place no_member) then.place n (estimate_of e w a joint then.place)
        before.best less refl (slice_get-get_or e.members k no_member less) (slice_get-get_or e.members best.place no_member before.scored.within) test place (ap (estimate_of e w a joint) place ∙ split t) more;
    scored = is;
  }
    where
      t : Bool
      t = outdoes (estimate_of e w a joint k) (id_of e k) (estimate_of e w a joint best.place) (id_of e best.place)

      test : t ≡ outdoes (estimate_of e w a joint k) (id_of e k) (estimate_of e w a joint best.place) (id_of e best.place)
      test = refl

      place : then.place ≡ cond t k best.place
      place = chosen ∙ ap (λ (i : ℕ). cond (outdoes (estimate_of e w a joint i) (id_of e i) (estimate_of e w a joint best.place) (id_of e best.place)) i best.place) here

      split : (c : Bool) → estimate_of e w a joint (cond c k best.place) ≡ cond c (estimate_of e w a joint k) (estimate_of e w a joint best.place)
      split true = refl
      split false = refl

  pub link_last : (k : ℕ) (x : ScoredMember) → IsBestLink e w a joint x k → length e.members ≤ k → IsLinkAt e w a (point_of (sizes_of e.task.model.sights) joint) x.place
  link_last k x is all = best_link e w a (point_of (sizes_of e.task.model.sights) joint) x.place _ (best_last e score x.place k _ is.best all)

  -- a single member is the link
  pub link_single : length e.members ≡ 1 → IsLinkAt e w a (point_of (sizes_of e.task.model.sights) joint) 0
  link_single one = best_link e w a (point_of (sizes_of e.task.model.sights) joint) 0 _ (best_last e score 0 1 _ (best_first e score (omega (arith, one)) (estimate_of e w a joint 0) refl) (omega (arith, one)))

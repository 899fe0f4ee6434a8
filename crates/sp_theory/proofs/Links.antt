-- The links of a backup, by the joint observation.
use Rattle.std.proofs.Common.{◌≡◌, ℕ, List, length, ap, ◌∙◌}
use Rattle.std.proofs.lemmas.List.FromFn.{get_or-map-range_with_len, length-map-range_with_len}
use Rattle.std.proofs.Math.Nat.{zero-add}
use Rattle.sp_theory.specs.Points.{IsPoint, count_of, number, point_of}
use Rattle.sp_theory.specs.Model.{Model}
use Rattle.sp_theory.specs.Plan.{link_of}
use Rattle.sp_theory.specs.Values.{Weights, Edition}
use Rattle.sp_theory.specs.Backup.{link_at, links_at}
use Rattle.sp_theory.proofs.Numbers.{number-below, point_of-number}

module _ (m : Model) (edition : Edition) (w : Weights) (a : ℕ) where
  pub length-links_at : length (links_at m edition w a) ≡ count_of m.sight_sizes
  unfolding links_at
  length-links_at = length-map-range_with_len _ 0 (count_of m.sight_sizes)

  pub links_at-point : (seen : List ℕ) → IsPoint m.sight_sizes seen → link_of m (links_at m edition w a) seen ≡ (link_at m edition w a seen).id
  unfolding links_at link_of
  links_at-point seen at = get_or-map-range_with_len (λ o. (link_at m edition w a (point_of m.sight_sizes o)).id) 0 (count_of m.sight_sizes) (number m.sight_sizes seen) (number m.sight_sizes seen) 0 (number-below m.sight_sizes seen at) (zero-add (number m.sight_sizes seen)) ∙ ap (λ (xs : List ℕ). (link_at m edition w a xs).id) (point_of-number m.sight_sizes seen at)

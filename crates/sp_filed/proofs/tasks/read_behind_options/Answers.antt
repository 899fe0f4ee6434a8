use Rattle.std.proofs.Common.{◌≡◌, ap, ◌∙◌, Err, subst, inr}
use Rattle.sp_filed.specs.declared.moves.Unsampled.TheVariants.{Shape}
use Rattle.sp_filed.specs.declared.sizes.Sizes.{Sizes}
use Rattle.sp_filed.specs.Sampled.{AreSampledBy}
use Rattle.sp_filed.specs.Tails.{StopsBehindMoves}
use Rattle.sp_filed.proofs.tasks.read_behind_options.Goals as goal

pub returns-in-Err-events_to_end-clause-shape : goal.returns-in-Err-events_to_end-clause-shape
returns-in-Err-events_to_end-clause-shape c = λ left e.
    let same : c.widened.result ≡ Shape left = cc e in
    let read = c.in-Ok.ensures.ok in
    inr (
      c.in-Ok.found.0,
      c.in-Ok.found.1.now,
      subst (λ s. AreSampledBy c.args.model.now s c.args.options.depth c.in-Ok.found.0) c.sizes_of-sizes.ensures read.2,
      read.1 ∙ ap (λ (s : Sizes). s.beliefs) c.sizes_of-sizes.ensures,
      read.0,
      subst (λ s. StopsBehindMoves c.args.has_values s c.in-Ok.found.1.now left) c.sizes_of-sizes.ensures (c.in-Err-events_to_end.ensures.err left (ap Err (c.widened.ensures.shape left same))),
    )

use Rattle.sp_belief.proofs.WeightLemmas.{has_unprimed, has_from_zero}
use Rattle.sp_backup.proofs.Listed.{nothing_or}
use Rattle.sp_backup.proofs.posteriors.list_of.Goals as goal

pub new-requires-clause-unprimed : goal.new-requires-clause-unprimed
new-requires-clause-unprimed c = has_unprimed c.args.carried.now.model.now c.parts.ensures.known c.args.weights.now _ c.requires.weights

pub new-requires-clause-not_negative : goal.new-requires-clause-not_negative
new-requires-clause-not_negative c = has_from_zero c.args.carried.now.model.now c.parts.ensures.known c.args.weights.now _ c.requires.weights

pub returns : goal.returns
returns c = nothing_or c.in_ok-list.list _ _ c.args.weights.now c.in_ok-list.ensures (λ g is. is.0)

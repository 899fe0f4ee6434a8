use Rattle.std.proofs.Common.{refl}
use Rattle.sp_dd.proofs.Flattened.{heads_set}
use Rattle.sp_dd.proofs.nodes.count_use.Goals as goal

pub returns-then-at-heads-clause-nodes : goal.returns-then-at-heads-clause-nodes
returns-then-at-heads-clause-nodes c = heads_set _ _ _ c.if-at-heads.true refl refl refl

use Rattle.sp_ddops.proofs.PairLemmas.{map_root, mapped_is}
use Rattle.sp_ddops.proofs.pairs.mapped.Goals as goal

pub from_source-requires-clause-state : goal.from_source-requires-clause-state
from_source-requires-clause-state c =
    rw (c.scope.ensures.value, c.nodes.ensures, c.nodes-2.ensures, c.root.ensures) (map_root _ _ c.scope.ensures.known c.requires)

pub returns : goal.returns
returns c = rw (c.in_ok-made.ensures, c.scope-2.ensures.value, c.nodes.ensures, c.nodes-2.ensures, c.root.ensures) (mapped_is _ _ c.scope.ensures.known)

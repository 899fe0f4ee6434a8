use Rattle.std.proofs.Common.{refl, ◌∙◌}
use Rattle.sp_ddops.proofs.ZeroLemmas.{false_of}
use Rattle.sp_diagonals.proofs.Points.{range_is, joined_root, joined_is, free_is}
use Rattle.sp_diagonals.proofs.diagonals.on_diagonals.Goals as goal

pub from_source-requires-clause-state : goal.from_source-requires-clause-state
from_source-requires-clause-state c = rw (c.scope-scope.ensures.value, c.nodes.ensures, c.root.ensures)
    (joined_root c.args.f.now _ _ _ (range_is c.args.side c.args.f.now.shape _ _ _ c.args.from c.args.to c.scope-scope.ensures.known c.offset_of.ensures.value refl refl c.requires.within))

pub returns-then-not-is_filled : goal.returns-then-not-is_filled
returns-then-not-is_filled c = c.in_ok-same.ensures ∙ free_is c.args.f.now c.args.side c.args.from c.args.to c.scope-scope.ensures.known c.scope-scope.ensures.determined c.requires.order c.requires.within (false_of _ _ c.if-not-is_filled.true c.is_filled.ensures)

pub returns : goal.returns
returns c = rw (c.in_ok-made.ensures, c.scope-scope.ensures.value, c.nodes.ensures, c.root.ensures)
    (joined_is c.args.f.now c.args.side _ _ _ c.args.from c.args.to c.scope-scope.ensures.known c.offset_of.ensures.value refl refl c.requires.order c.requires.within)

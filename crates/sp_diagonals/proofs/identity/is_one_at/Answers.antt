use Rattle.std.proofs.Common.{◌-◌, refl, sym}
use Rattle.sp_dd.proofs.Diagramming.{func_made}
use Rattle.sp_ddops.proofs.FixedLemmas.{is_below}
use Rattle.sp_ddops.proofs.DiagonalLemmas.{pair_of_slots, parts_there}
use Rattle.sp_diagonals.proofs.identity.is_one_at.Goals as goal

pub cofactor-part-requires-clause-before : goal.cofactor-part-requires-clause-before
cofactor-part-requires-clause-before c = rw (c.nodes-nodes.ensures, c.root.ensures) (func_made c.args.p.now).below

pub cofactor-part-requires-clause-value : goal.cofactor-part-requires-clause-value
cofactor-part-requires-clause-value c =
    rw c.nodes-nodes.ensures (parts_there _ _ c.args.primed c.args.value (c.args.primed - 1) (func_made c.args.p.now).ordered c.requires.value (sym (pair_of_slots _ _ c.scope.ensures.known c.requires.primed).same))

pub cofactor-requires-clause-before : goal.cofactor-requires-clause-before
cofactor-requires-clause-before c =
    rw (c.cofactor-part.ensures, c.nodes-nodes.ensures, c.root.ensures) (is_below _ _ (func_made c.args.p.now).ordered (c.args.primed - 1) c.args.value _ (func_made c.args.p.now).below).before

pub cofactor-requires-clause-value : goal.cofactor-requires-clause-value
cofactor-requires-clause-value c = rw c.nodes-nodes.ensures (parts_there _ _ c.args.primed c.args.value c.args.primed (func_made c.args.p.now).ordered c.requires.value refl)

use Rattle.std.proofs.Common.{refl}
use Rattle.sp_ddops.proofs.ZeroLemmas.{true_of, false_of}
use Rattle.sp_diagonals.proofs.JoinedParts.{next_own, next_pair}
use Rattle.sp_diagonals.proofs.diagonals.OnDiagonalsSource.next.Goals as goal

pub returns-then-is_inside-clause-later : goal.returns-then-is_inside-clause-later
returns-then-is_inside-clause-later c =
    let inside = true_of _ _ c.if-is_inside.true c.is_inside.ensures.yes in
    (next_pair _ _ _ _ _ _ _ _ _ c.args.value _ c.requires.state c.requires.slot c.requires.within inside.0 inside.1 refl c.cofactor-left.ensures c.cofactor-left-then-is_inside.ensures).later

pub returns-then-is_inside-clause-value : goal.returns-then-is_inside-clause-value
returns-then-is_inside-clause-value c =
    let inside = true_of _ _ c.if-is_inside.true c.is_inside.ensures.yes in
    (next_pair _ _ _ _ _ _ _ _ _ c.args.value _ c.requires.state c.requires.slot c.requires.within inside.0 inside.1 refl c.cofactor-left.ensures c.cofactor-left-then-is_inside.ensures).value

pub returns-else-is_inside-clause-later : goal.returns-else-is_inside-clause-later
returns-else-is_inside-clause-later c =
    (next_own _ _ _ _ _ _ _ _ c.args.value c.requires.state c.requires.slot c.requires.within (false_of _ _ c.if-is_inside.false c.is_inside.ensures.no) c.cofactor-left-else-is_inside.ensures).later

pub returns-else-is_inside-clause-value : goal.returns-else-is_inside-clause-value
returns-else-is_inside-clause-value c =
    (next_own _ _ _ _ _ _ _ _ c.args.value c.requires.state c.requires.slot c.requires.within (false_of _ _ c.if-is_inside.false c.is_inside.ensures.no) c.cofactor-left-else-is_inside.ensures).value

use Rattle.std.proofs.Common.{arith}
use Rattle.sp_dd.proofs.Doubles.{joined_equal, joined_apart, low_plain}
use Rattle.sp_dd.proofs.draft.Draft.join_two.Goals as goal

pub returns-then-left-right-clause-joined : goal.returns-then-left-right-clause-joined
returns-then-left-right-clause-joined c = joined_equal _ _ _ _ c.if-left-right.true

pub returns-clause-plain : goal.returns-clause-plain
returns-clause-plain c = low_plain _ (omega arith)

pub returns-clause-joined : goal.returns-clause-joined
returns-clause-joined c = joined_apart _ _ _ _ _ _ c.if-left-right.false c.requires.left c.requires.right (omega arith) c.in_ok-at.ensures

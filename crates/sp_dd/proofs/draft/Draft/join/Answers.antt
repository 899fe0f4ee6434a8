use Rattle.sp_dd.proofs.Indexing.{joined_one, joined_put}
use Rattle.sp_dd.proofs.draft.Draft.join.Goals as goal

pub returns-then-are_one : goal.returns-then-are_one
returns-then-are_one c = joined_one _ _ _ _ _ c.first_of.ensures c.are_one.ensures c.if-are_one.true

pub returns : goal.returns
returns c = joined_put _ _ _ _ _ _ c.are_one.ensures c.if-are_one.false c.in_ok-at.ensures

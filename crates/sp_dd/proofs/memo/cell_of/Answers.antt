use Rattle.std.proofs.Common.{refl}
use Rattle.sp_dd.proofs.Keeping.{grown_twice, word_of_more}
use Rattle.sp_dd.proofs.memo.cell_of.Goals as goal

pub returns-clause-ok : goal.returns-clause-ok
returns-clause-ok c = (
  grown_twice _ _ _ c.in_ok-left.ensures.ok.0 (grown_twice _ _ _ c.in_ok-right.ensures.ok.0 c.in_ok-part.ensures.ok.0),
  record {
    left_is = word_of_more _ _ _ _ c.in_ok-part.ensures.ok.0 (word_of_more _ _ _ _ c.in_ok-right.ensures.ok.0 c.in_ok-left.ensures.ok.1);
    right_is = word_of_more _ _ _ _ c.in_ok-part.ensures.ok.0 c.in_ok-right.ensures.ok.1;
    part_is = c.in_ok-part.ensures.ok.1;
    choice_is = refl;
  },
)

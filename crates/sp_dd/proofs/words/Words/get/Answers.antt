use Rattle.sp_dd.proofs.Worded.{part_of_word, within_of_word}
use Rattle.sp_dd.proofs.words.Words.get.Goals as goal
use Rattle.std.proofs.Common.{sym}

pub part-requires : goal.part-requires
part-requires c = within_of_word _ _ _ _ _ _ c.self.view_is c.self.invariant c.requires c.index.ensures

pub returns : goal.returns
returns c = part_of_word _ _ _ _ _ _ c.self.view_is c.requires c.index.ensures (sym c.part.ensures)

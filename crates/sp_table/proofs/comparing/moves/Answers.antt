use Rattle.std.proofs.Common.{◌∙◌}
use Rattle.sp_table.proofs.FrameLemmas.{holds}
use Rattle.sp_table.proofs.CompareLemmas.{stays_is, moves_is, size_some}
use Rattle.sp_table.proofs.comparing.moves.Goals as goal

pub first_moved-requires-clause-some : goal.first_moved-requires-clause-some
first_moved-requires-clause-some c = let held = holds _ _ _ _ c.f.invariant c.f.view_is in size_some c.args.f.now.shape c.args.slot held.table.scope c.requires

pub returns-in-None-clause-no : goal.returns-in-None-clause-no
returns-in-None-clause-no c = stays_is c.args.f.now _ _ _ _ c.args.slot (holds _ _ _ _ c.f.invariant c.f.view_is) c.requires c.as_slice-widths.ensures.value (c.len-count.ensures ∙ c.f.inside.cells.ok.0) c.in-None.ensures

pub returns-in-Some-clause-yes : goal.returns-in-Some-clause-yes
returns-in-Some-clause-yes c = moves_is c.args.f.now _ _ _ _ _ c.args.slot (holds _ _ _ _ c.f.invariant c.f.view_is) c.requires c.as_slice-widths.ensures.value c.in-Some.ensures

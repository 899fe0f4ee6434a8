use Rattle.std.proofs.Common.{◌∙◌}
use Rattle.sp_table.proofs.FrameLemmas.{holds}
use Rattle.sp_table.proofs.CompareLemmas.{agrees_is, differs_is}
use Rattle.sp_table.proofs.comparing.agrees.Goals as goal

pub returns-in-None-clause-yes : goal.returns-in-None-clause-yes
returns-in-None-clause-yes c = agrees_is c.args.f.now c.args.g.now _ _ _ _ (holds _ _ _ _ c.f.invariant c.f.view_is) c.as_slice-widths.ensures.value (c.len-count.ensures ∙ c.f.inside.cells.ok.0) c.in-None.ensures

pub returns-in-Some-clause-no : goal.returns-in-Some-clause-no
returns-in-Some-clause-no c = differs_is c.args.f.now c.args.g.now _ _ _ _ _ (holds _ _ _ _ c.f.invariant c.f.view_is) c.as_slice-widths.ensures.value c.in-Some.ensures

use Rattle.sp_table.proofs.BranchLemmas.{ReadsParts}
use Rattle.sp_table.proofs.branches.part_widths.Given as goal

abbrev pub invariant-loop-part : goal.invariant-loop-part
invariant-loop-part l = ReadsParts l.scope l.parts l.part-index l.widths.items

use Rattle.std.proofs.Common.{◌≡◌, drop, slice_index_or}
use Rattle.sp_reader.specs.Kinds.{action_names, no_span}
use Rattle.sp_reader.proofs.kinds.action_span.Given as goal

abbrev pub invariant-loop-section : goal.invariant-loop-section
invariant-loop-section l = slice_index_or (action_names l.sections) l.action no_span ≡ slice_index_or (action_names (drop l.section-index l.sections)) l.left no_span

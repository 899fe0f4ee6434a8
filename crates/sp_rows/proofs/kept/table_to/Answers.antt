use Rattle.std.proofs.Common.{ap, ◌∙◌, length}
use Rattle.std.proofs.lemmas.List.FromFn.{length-map-range_with_len}
use Rattle.sp_rows.specs.Tables.{leaf_at}
use Rattle.sp_rows.proofs.kept.table_to.Goals as goal

pub leaf_by-requires-clause-leaves : goal.leaf_by-requires-clause-leaves
leaf_by-requires-clause-leaves c = ap length (c.as_slice.ensures.value ∙ c.in_ok-leaves.ensures) ∙ length-map-range_with_len (leaf_at c.args.value) 0 c.size.result ∙ c.size.ensures

use Rattle.std.proofs.Common.{◌∙◌, rules}
use Rattle.std.specs.Prelude.{FitsSigned}
use Rattle.std.specs.Int.{w128}
use Rattle.std.proofs.lemmas.Int.{to_z-of_z}
use Rattle.sp_table.proofs.FrameLemmas.{made_more}
use Rattle.sp_table.proofs.renaming.values.Goals as goal

pub loop-k-preserved : goal.loop-k-preserved
loop-k-preserved c =
    let fits : FitsSigned w128 c.value_in.result = search rules in
    made_more _ _ _ c.loop-k.k _ c.loop-k.invariant c.in_ok-push.ensures.items (to_z-of_z w128 _ fits ∙ c.value_in.ensures)

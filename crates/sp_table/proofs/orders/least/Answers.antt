use Rattle.std.proofs.Common.{arith, ap, length, rules, subst, sym}
use Rattle.std.specs.Prelude.{FitsSigned, ℤ}
use Rattle.std.specs.Int.{w128}
use Rattle.std.proofs.lemmas.Int.{to_z-of_z}
use Rattle.sp_dd.specs.Operations.{IsLeast}
use Rattle.sp_table.proofs.FrameLemmas.{holds}
use Rattle.sp_table.proofs.OrderLemmas.{least_is}
use Rattle.sp_table.proofs.orders.least.Goals as goal

pub least_of-requires : goal.least_of-requires
least_of-requires c =
    let held = holds _ _ _ _ c.f.invariant c.f.view_is in
    omega (arith, held.some, c.f.invariant.whole, ap length c.as_slice.ensures.value)

pub returns : goal.returns
returns c =
    let fits : FitsSigned w128 c.least_of.result = search rules in
    let P : ℤ → Type 0 = λ z. IsLeast c.args.f.now z in
    subst P (sym (to_z-of_z w128 _ fits)) (least_is _ _ _ _ _ _ c.f.invariant c.f.view_is c.as_slice.ensures.value c.least_of.ensures)

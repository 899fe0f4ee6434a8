use Rattle.std.proofs.Common.{arith, ap, length, rules, subst, sym}
use Rattle.std.specs.Prelude.{FitsSigned, ℤ}
use Rattle.std.specs.Int.{w128}
use Rattle.std.proofs.lemmas.Int.{to_z-of_z}
use Rattle.sp_dd.specs.Operations.{IsGreatest}
use Rattle.sp_table.proofs.FrameLemmas.{holds}
use Rattle.sp_table.proofs.OrderLemmas.{greatest_is}
use Rattle.sp_table.proofs.orders.greatest.Goals as goal

pub greatest_of-requires : goal.greatest_of-requires
greatest_of-requires c =
    let held = holds _ _ _ _ c.f.invariant c.f.view_is in
    omega (arith, held.some, c.f.invariant.whole, ap length c.as_slice.ensures.value)

pub returns : goal.returns
returns c =
    let fits : FitsSigned w128 c.greatest_of.result = search rules in
    let P : ℤ → Type 0 = λ z. IsGreatest c.args.f.now z in
    subst P (sym (to_z-of_z w128 _ fits)) (greatest_is _ _ _ _ _ _ c.f.invariant c.f.view_is c.as_slice.ensures.value c.greatest_of.ensures)

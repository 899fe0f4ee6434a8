use Rattle.std.proofs.Common.{◌≡◌, arith, sym, ◌∙◌, to_z, of_z}
use mir.Syntax.{w128}
use Rattle.std.proofs.lemmas.Grind.{common_steps}
use Rattle.sp_diagonals.proofs.JoinedParts.{joined_leaf, joined_step}
use Rattle.sp_diagonals.proofs.diagonals.OnDiagonalsSource.step.Goals as goal

pub returns-in-Leaf-clause-leaf : goal.returns-in-Leaf-clause-leaf
returns-in-Leaf-clause-leaf c π =
    let e : to_z w128 (of_z w128 c.in-Leaf.value) ≡ c.in-Leaf.value = grind (arith, common_steps) in
    joined_leaf _ _ _ _ _ _ c.in-Leaf.is π ∙ sym e

pub returns-in-At-clause-branch : goal.returns-in-At-clause-branch
returns-in-At-clause-branch c =
    let h = joined_step _ _ _ _ _ _ _ c.slot.result c.read_slot-slot.result c.requires c.in-At.is c.slot.ensures c.read_slot-slot.ensures in
    (h.is, h.within, h.later)

use Rattle.std.proofs.Common.{rules, arith, refl, ap, ◌∙◌, length, true, false}
use Rattle.std.specs.Int.{w128}
use Rattle.std.specs.Prelude.{FitsSigned}
use Rattle.std.proofs.lemmas.Int.{to_z-of_z}
use Rattle.sp_value.proofs.BestMember.{best_first, best_next, best_last, best_value}
use Rattle.sp_value.proofs.editions.Edition.greatest_place.Goals as goal
use Rattle.sp_value.proofs.editions.Edition.greatest_place.Goals.{then-is_better, else-is_better}

pub loop-k-init : goal.loop-k-init
loop-k-init c =
    let fits : FitsSigned w128 c.in_ok-most.most = search rules in
    best_first _ _ c.members-members.ensures.known.some _ (to_z-of_z w128 _ fits ∙ c.in_ok-most.ensures)

pub loop-k-preserved : goal.loop-k-preserved
loop-k-preserved c =
    let fits : FitsSigned w128 c.in_ok-sum.sum = search rules in
    let long = ap length c.members-members.ensures.value in
    let sum = to_z-of_z w128 _ fits ∙ c.in_ok-sum.ensures in
    elim c.if-is_better.branch [
      | then-is_better w ↦ best_next _ _ _ c.members-members.ensures.value c.loop-k.place c.loop-k.k _ _ true _ _ _ _ _ c.loop-k.invariant (omega (arith, long)) sum c.at.ensures c.at-in-loop-k.ensures w.if-is_better.ensures w.place-is w.most-is refl
      | else-is_better w ↦ best_next _ _ _ c.members-members.ensures.value c.loop-k.place c.loop-k.k _ _ false _ _ _ _ _ c.loop-k.invariant (omega (arith, long)) sum c.at.ensures c.at-in-loop-k.ensures w.if-is_better.ensures w.place-is w.most-is refl
    ]

pub returns : goal.returns
returns c = let long = ap length c.members-members.ensures.value in best_value _ _ _ _ (best_last _ _ _ _ _ c.loop-k.invariant (omega (arith, long)))

use Rattle.std.proofs.Common.{◌∙◌, sym, ap, map, ℕ, List, [], ◌∷◌, ◌++◌, Bool, cond, append-nil}
use Rattle.sp_value.specs.declared.editions.Member.{Member}
use Rattle.sp_drops.specs.Drops.{applying_ids}
use Rattle.sp_drops.proofs.PairLists.{applied_step}
use Rattle.sp_drops.proofs.drops.applied.Goals as goal
use Rattle.sp_drops.proofs.drops.applied.Goals.{then-apply+in_ok-push, else-apply}

pub loop-k-preserved : goal.loop-k-preserved
loop-k-preserved c =
    let pair : ℕ × ℕ = c.at.result.now in
    let step = (λ (found : List (ℕ × ℕ)). applied_step c.loop-k.found (applying_ids (map (λ (x : Member). x.id) c.args.members.now) c.args.pairs.now) c.args.pairs.now c.loop-k.ids.items c.loop-k.k pair.0 pair.1 c.at.ensures c.loop-k.invariant c.apply.result found c.apply.new.ids.items c.apply.ensures.both c.apply.ensures.left) in
    elim c.if-apply.branch [
      | then-apply+in_ok-push w ↦ step c.if-apply.found (w.found-is ∙ w.in_ok-push.ensures.ok ∙ ap (λ (b : Bool). c.loop-k.found ++ cond b (pair ∷ []) []) (sym w.if-apply.true))
      | else-apply w ↦ step c.if-apply.found (w.found-is ∙ sym (append-nil c.loop-k.found) ∙ ap (λ (b : Bool). c.loop-k.found ++ cond b (pair ∷ []) []) (sym w.if-apply.false))
    ]

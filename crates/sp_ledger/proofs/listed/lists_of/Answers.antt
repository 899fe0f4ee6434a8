use Rattle.std.proofs.Common.{◌≡◌, ◌∙◌, ◌++◌, ◌∷◌, [], ◌+◌, length, arith, ap}
use Rattle.std.proofs.lemmas.Grind.{common_steps}
use Rattle.std.proofs.lemmas.List.{length_push}
use Rattle.sp_ledger.proofs.Lists.{lists_more}
use Rattle.sp_ledger.proofs.listed.lists_of.Goals as goal

pub loop-belief-preserved : goal.loop-belief-preserved
loop-belief-preserved c =
    let one : c.push.new.self.items ≡ c.loop-belief.lists.items ++ c.in_ok-list.list ∷ [] = grind (arith, common_steps) in
    record {
      count = ap length one ∙ length_push c.loop-belief.lists.items c.in_ok-list.list ∙ ap (λ n. n + 1) c.loop-belief.invariant.count;
      each = lists_more c.args.task.now c.loop-belief.belief _ _ _ c.loop-belief.invariant.count one c.loop-belief.invariant.each c.in_ok-list.ensures;
    }

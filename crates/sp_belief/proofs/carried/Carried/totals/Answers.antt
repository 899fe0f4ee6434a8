use Rattle.std.proofs.Common.{sym, ◌∙◌, zero-add, ◌++◌, ◌∷◌, []}
use Rattle.std.proofs.lemmas.List.FromFn.{map-range_with_len_more}
use Rattle.sp_belief.specs.Updates.{total_after}
use Rattle.sp_belief.proofs.PathLemmas.{path_begin}
use Rattle.sp_belief.proofs.carried.Carried.totals.Goals as goal

pub loop-observation-init : goal.loop-observation-init
loop-observation-init c = record {
  path = path_begin c.args.self.now.model.now c.args.self.now.action c.args.self.now.func c.new-path.result.items c.new-path.ensures.items;
  are = c.new-totals.ensures;
}

pub total-requires-clause-path : goal.total-requires-clause-path
total-requires-clause-path c = c.loop-observation.invariant.path

pub loop-observation-preserved : goal.loop-observation-preserved
loop-observation-preserved c =
    let x = c.args.self.now in
    let is = c.loop-observation.invariant.are in
    let total = c.in_ok-total.ensures.value in
    record {
      path = c.in_ok-total.ensures.path;
      are = c.in_ok-push.ensures.ok ∙ (λ h. is h ++ total h ∷ []) ∙ sym (map-range_with_len_more (total_after x.model.now x.weights.now x.action) 0 c.loop-observation.observation c.loop-observation.observation (zero-add c.loop-observation.observation));
    }

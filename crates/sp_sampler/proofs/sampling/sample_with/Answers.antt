use Rattle.std.proofs.Common.{◌<◌, ◌+◌, ℕ, arith, subst, sym, ◌∙◌, length}
use Rattle.sp_dd.proofs.Flattened.{on_err}
use Rattle.sp_sampler.specs.Sampled.{StandAfter}
use Rattle.sp_sampler.proofs.Standing.{stand_first, stand_same, stand_more, answer_is, second_word}
use Rattle.sp_sampler.proofs.ModelSamples.{sampled_first, sampled_all, sampled_more, parent_below, parent_scope}
use Rattle.sp_sampler.proofs.sampling.sample_with.Given.{Over}
use Rattle.sp_sampler.proofs.sampling.sample_with.Goals.{After-draw-action}
use Rattle.sp_sampler.proofs.sampling.sample_with.Goals as goal

pub returns-in_err-kept-clause-stopped : goal.returns-in_err-kept-clause-stopped
returns-in_err-kept-clause-stopped g c = on_err c.from_residual.result _ (0, c.requires.some, stand_first _ _ _ _ _)

pub returns-in_err-initial-clause-stopped : goal.returns-in_err-initial-clause-stopped
returns-in_err-initial-clause-stopped g c = on_err c.from_residual-in_err-initial.result _ (0, c.requires.some, stand_first _ _ _ _ _)

pub returns-in_err-push-clause-stopped : goal.returns-in_err-push-clause-stopped
returns-in_err-push-clause-stopped g c = on_err c.from_residual-in_err-push.result _ (0, c.requires.some, stand_first _ _ _ _ _)

pub loop-k-init : goal.loop-k-init
loop-k-init g c = record {
  stand = stand_first _ _ _ _ _;
  kept = c.in_ok-kept.ensures;
  sampled = sampled_first _ c.parts.ensures.known _ _ _ _ c.in_ok-initial.ensures _ _ c.new-list.ensures c.in_ok-push.ensures.ok;
}

-- what stands after the two words and the action
stands : (g : Over) (c : After-draw-action g)
    → StandAfter c.args.model.now ((goal.Chooser-dyn g c.args.chooser.now).machine c.args.chooser.now.1) c.args.depth c.args.count (g.G.Rng.stream c.args.words.now) (c.loop-k.k + 1)
    (g.G.Rng.stream c.draw-action.new.words) ((goal.Chooser-dyn g (c.loop-k.chooser.now.0, c.draw-action.new.chooser)).machine c.draw-action.new.chooser)
stands g c =
    let less : c.loop-k.k < c.args.count = omega arith in
    stand_more c.args.model.now ((goal.Chooser-dyn g c.args.chooser.now).machine c.args.chooser.now.1) c.args.depth c.args.count (g.G.Rng.stream c.args.words.now) c.loop-k.k less
    (g.G.Rng.stream c.loop-k.words) ((goal.Chooser-dyn g c.loop-k.chooser.now).machine c.loop-k.chooser.now.1) c.loop-k.invariant.stand
    c.action_count.result c.action_count.ensures.value
    (g.G.Rng.stream c.draw-action.new.words) c.draw-action.ensures.words
    ((goal.Chooser-dyn g (c.loop-k.chooser.now.0, c.draw-action.new.chooser)).machine c.draw-action.new.chooser) c.draw-action.ensures.chooser

pub at-parent-requires : goal.at-parent-requires
at-parent-requires g c = subst (λ (j : ℕ). j < length c.loop-k.list) (sym c.parent_of.ensures) (parent_below c.args.depth c.loop-k.k (length c.loop-k.list) c.loop-k.invariant.sampled.count)

pub drawn-requires-clause-scope : goal.drawn-requires-clause-scope
drawn-requires-clause-scope g c = parent_scope _ c.parts.ensures.known _ _ _ _ _ c.loop-k.invariant.sampled _ c.parent_of.ensures _ c.at-parent.ensures

pub returns-in_err-next-clause-stopped : goal.returns-in_err-next-clause-stopped
returns-in_err-next-clause-stopped g c = on_err c.from_residual-in_err-next.result _ (c.loop-k.k + 1, omega arith, stands g (goal.at.returns-in_err-next-clause-stopped g c).After-draw-action)

pub returns-in_err-push-2-clause-stopped : goal.returns-in_err-push-2-clause-stopped
returns-in_err-push-2-clause-stopped g c = on_err c.from_residual-in_err-push-2.result _ (c.loop-k.k + 1, omega arith, stands g (goal.at.returns-in_err-push-2-clause-stopped g c).After-draw-action)

pub loop-k-preserved : goal.loop-k-preserved
loop-k-preserved g c =
    let less : c.loop-k.k < c.args.count = omega arith in
    let stand = c.loop-k.invariant.stand in
    let draw = c.draw-action.ensures in
    record {
      stand = stands g (goal.at.loop-k-preserved g c).After-draw-action;
      kept = c.in_ok-next.ensures.kept;
      sampled = sampled_more _ c.parts.ensures.known _ _ _ _ _ c.loop-k.invariant.sampled _ c.parent_of.ensures _ c.at-parent.ensures _ _
          (draw.action ∙ answer_is _ _ _ _ _ _ less _ _ stand _ c.action_count.ensures.value)
          (subst (λ (n : ℕ). c.draw-action.result.0 < n) c.action_count.ensures.value draw.below)
          (draw.word ∙ second_word _ _ _ _ _ _ less _ _ stand)
          _ c.in_ok-next.ensures.drawn _ c.in_ok-push-2.ensures.ok;
    }

pub returns-clause-samples : goal.returns-clause-samples
returns-clause-samples g c = sampled_all _ c.parts.ensures.known _ _ _ _ _ _ (omega (arith, c.loop-k-test.false, c.loop-k.auto.k-end, c.requires.some)) c.loop-k.invariant.sampled

pub returns-clause-after : goal.returns-clause-after
returns-clause-after g c = stand_same _ _ _ _ _ _ _ _ _ (omega (arith, c.loop-k-test.false, c.loop-k.auto.k-end)) c.loop-k.invariant.stand

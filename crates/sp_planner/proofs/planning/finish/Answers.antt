use Rattle.std.proofs.Common.{◌∙◌, ◌*◌, ℕ, List, ap, subst}
use Rattle.rand_core.specs.Steps.{stream_of, steps_u64_low}
use Rattle.rand_pcg.specs.Pcg.{pcg64}
use Rattle.sp_sampler.specs.Words.{first_words, stream_of_seed}
use Rattle.sp_planner.specs.Planned.{next_seed}
use Rattle.sp_planner.specs.Turns.{IsRun}
use Rattle.sp_planner.proofs.Finished.{run_done}
use Rattle.sp_planner.proofs.planning.finish.Goals as goal

pub returns-clause-done : goal.returns-clause-done
returns-clause-done g c =
    let sizes = c.sizes_of-beliefs.ensures in
    let drawn = ap (stream_of (steps_u64_low pcg64)) c.seed_from_u64-words.ensures ∙ ap (λ (s : ℕ). stream_of_seed (next_seed s)) sizes.seed in
    run_done c.args.pruning c.args.book.now c.run.new.book c.task.ensures.known
    (subst (λ (ws : List ℕ). IsRun c.args.pruning c.args.book.now ws c.run.new.book) (λ h. first_words (sizes.beliefs h * sizes.stages h) (drawn h)) c.in_ok-run.ensures.run)

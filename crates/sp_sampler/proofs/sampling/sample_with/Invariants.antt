use Rattle.std.proofs.Common.{suc, ◌*◌}
use Rattle.sp_sampler.specs.Words.{first_words}
use Rattle.sp_sampler.specs.Sampled.{AreSampled, StandAfter}
use Rattle.sp_sampler.specs.Tables.{AreKeptTables}
use Rattle.sp_sampler.proofs.sampling.sample_with.Given as goal

abbrev pub invariant-loop-k : goal.invariant-loop-k
invariant-loop-k g l =
    let chooser = (goal.Chooser-dyn g l.fn.chooser.now).machine l.fn.chooser.now.1 in
    let stream = g.G.Rng.stream l.fn.words in
    record {
      stand : StandAfter l.model chooser l.depth l.count stream l.k (g.G.Rng.stream l.words) ((goal.Chooser-dyn g l.chooser.now).machine l.chooser.now.1);
      kept : AreKeptTables l.model l.kept.items;
      sampled : AreSampled l.model chooser l.depth (first_words (2 * l.count) stream) (suc l.k) l.list;
    }

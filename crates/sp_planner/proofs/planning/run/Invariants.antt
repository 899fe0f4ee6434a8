use Rattle.sp_value.specs.Tasks.{task_of}
use Rattle.sp_core.specs.Books.{IsBook}
use Rattle.sp_core.specs.Marks.{marks_of}
use Rattle.sp_sampler.specs.Words.{first_words}
use Rattle.sp_planner.specs.Turns.{IsLaterBook, IsUnderWay, words_from}
use Rattle.sp_planner.specs.Pauses.{pauses, pauses_after, IsServedSoFar}
use Rattle.sp_planner.proofs.planning.run.Given as goal

abbrev pub invariant-loop : goal.invariant-loop
invariant-loop g l =
    record {
      known : IsBook l.book;
      later : IsLaterBook l.fn.book l.book;
      under : IsUnderWay l.pruning l.fn.book l.turns (g.G.Rng.stream l.fn.words) l.counter l.book (g.G.Rng.stream l.words);
      served : IsServedSoFar g.B.BetweenTurns.serves l.fn.book.task (pauses (task_of l.fn.book.task) l.pruning l.fn.book.history (marks_of l.fn.book.taken) (first_words l.turns (g.G.Rng.stream l.fn.words)))
          (pauses_after (task_of l.fn.book.task) l.pruning l.book.history (marks_of l.book.taken) (words_from l.counter l.turns (g.G.Rng.stream l.fn.words))) l.fn.between l.between;
    }

use Rattle.std.proofs.Common.{arith}
use Rattle.sp_theory.specs.Book.{opening}
use Rattle.sp_theory.proofs.RecordedBackups.{all_close}
use Rattle.sp_theory.proofs.Sound.{sound_opening}
use Rattle.sp_theory.proofs.SoundRuns.{run_is_sound}
use Rattle.sp_theory.proofs.Tidy.{tidy_opening}
use Rattle.sp_model.proofs.RowLaw.{problem_lawful}
use Rattle.sp_value.specs.Tasks.{task_of}
use Rattle.sp_core.proofs.laws.books_are_sound.Goals as goal

pub returns : goal.returns
returns c b is =
    let t = task_of b.task in
    let lawful = problem_lawful b.task.model is.task.model in
    let least = is.task.some_beliefs in
    (run_is_sound t lawful (omega (arith, least)) b.history is.history, all_close t lawful (omega (arith, least)) (opening t) b.history (sound_opening t) (tidy_opening t) is.history)

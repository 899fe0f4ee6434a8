use Rattle.sp_theory.proofs.SoundRuns.{run_is_sound}
use Rattle.sp_theory.proofs.runs_are_sound.Goals as goal

pub returns : goal.returns
returns c = run_is_sound

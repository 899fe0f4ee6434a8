use Rattle.sp_theory.specs.Book.{opening}
use Rattle.sp_theory.proofs.Sound.{sound_opening}
use Rattle.sp_theory.proofs.Tidy.{tidy_opening}
use Rattle.sp_theory.proofs.RecordedBackups.{all_close}
use Rattle.sp_theory.proofs.recorded_backups_are_close.Goals as goal

pub returns : goal.returns
returns c t lawful some es history = all_close t lawful some (opening t) es (sound_opening t) (tidy_opening t) history

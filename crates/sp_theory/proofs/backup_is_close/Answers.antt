use Rattle.sp_theory.proofs.Backups.{backup_low, backup_high}
use Rattle.sp_theory.proofs.backup_is_close.Goals as goal

pub returns : goal.returns
returns c m lawful edition some ranged w = (backup_low m lawful w edition some ranged, backup_high m lawful w edition some ranged)

use Rattle.sp_publish.proofs.PublishedLemmas.{goes_on_self}
use Rattle.sp_publish.proofs.Snaps.{turns}
use Rattle.sp_publish.proofs.viewer.Viewer.look.Goals as goal

pub enter_as-requires : goal.enter_as-requires
enter_as-requires c x = turns _ _ x x (goes_on_self x)

use Rattle.std.proofs.Common.{◌+◌, ◌*◌}
use Rattle.sp_dd.proofs.short.+short.Given as goal

abbrev pub decreases-walk_short : goal.decreases-walk_short
decreases-walk_short g l = 2 * g.S.Source.height l.source.now l.state + 1

abbrev pub decreases-short_part : goal.decreases-short_part
decreases-short_part g l = 2 * g.S.Source.height l.source.now l.state

use Rattle.std.proofs.Common.{◌*◌, ◌∙◌, ap}
use Rattle.sp_table.specs.Widths.{exchange_at}
use Rattle.sp_table.proofs.ExchangeLemmas.{exchange_each-more}
use Rattle.sp_table.proofs.renaming.exchange_pairs.Goals as goal

pub loop-i-preserved : goal.loop-i-preserved
loop-i-preserved c = ap (exchange_at (2 * c.loop-i.i)) c.loop-i.invariant ∙ exchange_each-more c.loop-i.i c.args.widths.now

use Rattle.std.specs.Prelude.{pos}
use Rattle.sp_dd.specs.Floors.{ticks}
use Rattle.sp_rows.proofs.LeafLemmas.{apart_is}
use Rattle.sp_rows.proofs.rows.first_apart.Goals as goal

pub returns-clause-value : goal.returns-clause-value
returns-clause-value c = apart_is c.args.f.now (pos ticks) c.in_ok-found.found c.scope.ensures.known c.in_ok-found.ensures

use Rattle.sp_dd.proofs.Doubles.{walked_last, last_within}
use Rattle.sp_dd.proofs.short.walk_tables.Goals as goal

pub get-part-requires : goal.get-part-requires
get-part-requires g c = last_within _ _ _ _ _ _ _ c.in_ok-walk_branch.ensures.made c.len-start.ensures

pub returns-clause-made : goal.returns-clause-made
returns-clause-made g c = walked_last _ _ _ _ _ _ _ _ c.in_ok-walk_branch.ensures.made c.len-start.ensures c.get-part.ensures

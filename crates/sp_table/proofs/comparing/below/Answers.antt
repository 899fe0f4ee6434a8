use Rattle.sp_table.proofs.CompareLemmas.{first_above_is, none_above_is}
use Rattle.sp_table.proofs.comparing.below.Goals as goal

pub returns-in-None : goal.returns-in-None
returns-in-None c = none_above_is c.args.f.now c.args.g.now _ _ _ c.requires c.in_ok-widths.ensures.left c.in_ok-widths.ensures.right c.as_slice-to.ensures.value c.in_ok-count.ensures.value c.in-None.ensures

pub returns : goal.returns
returns c = first_above_is c.args.f.now c.args.g.now _ _ _ _ _ c.requires c.in_ok-widths.ensures.left c.in_ok-widths.ensures.right c.as_slice-to.ensures.value c.in_ok-count.ensures.value c.in-Some.ensures c.in_ok-point-in-Some.ensures

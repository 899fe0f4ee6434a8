use Rattle.sp_table.proofs.WholeLemmas.{whole_is, partial_is}
use Rattle.sp_table.proofs.pointwise.mul_whole.Goals as goal

pub returns-in-Some : goal.returns-in-Some
returns-in-Some c = partial_is c.args.f.now c.args.g.now _ _ _ _ c.in_ok-widths.ensures.left c.as_slice-to.ensures.value c.in-Some.ensures

pub returns : goal.returns
returns c = (whole_is c.args.f.now c.args.g.now _ _ _ c.requires.scopes c.in_ok-widths.ensures.left c.in_ok-widths.ensures.right c.as_slice-to.ensures.value c.in_ok-count.ensures.value c.in-None.ensures, c.in_ok-product-in-None.ensures)

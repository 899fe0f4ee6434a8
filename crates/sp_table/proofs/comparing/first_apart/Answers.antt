use Rattle.std.proofs.Common.{◌≡◌, subst}
use Rattle.std.specs.Prelude.{ℤ}
use Rattle.std.specs.Int.{w128}
use Rattle.std.proofs.lemmas.Int.{to_z-of_z}
use Rattle.sp_dd.specs.Func.{Everywhere}
use Rattle.sp_dd.specs.Operations.{IsFirstApart}
use Rattle.sp_table.proofs.CompareLemmas.{first_apart_is, none_apart_is}
use Rattle.sp_table.proofs.comparing.first_apart.Goals as goal

pub returns-in-None : goal.returns-in-None
returns-in-None c =
    let P : ℤ → Type 0 = λ v. Everywhere c.args.f.now (λ u. u ≡ v) in
    subst P (to_z-of_z w128 c.args.v c.ranges.v) (none_apart_is c.args.f.now _ _ _ _ c.in_ok-widths.ensures c.as_slice-to.ensures.value c.in_ok-count.ensures.value c.in-None.ensures)

pub returns : goal.returns
returns c =
    let P : ℤ → Type 0 = λ v. IsFirstApart c.args.f.now v c.in_ok-point-in-Some.point in
    subst P (to_z-of_z w128 c.args.v c.ranges.v) (first_apart_is c.args.f.now _ _ _ _ _ _ c.in_ok-widths.ensures c.as_slice-to.ensures.value c.in_ok-count.ensures.value c.in-Some.ensures c.in_ok-point-in-Some.ensures)

use Rattle.std.proofs.Common.{◌^◌, ◌≤◌, sym, subst, arith, get_or}
use Rattle.std.specs.Int.{w128}
use Rattle.std.specs.Prelude.{ℤ, ◌≤ℤ◌, unsigned_abs}
use Rattle.std.proofs.lemmas.Int.{to_z-of_z, fits_signed_from_abs}
use Rattle.sp_dd.specs.Func.{Func, Everywhere}
use Rattle.sp_value.specs.Editions.{no_member}
use Rattle.sp_backup.specs.MemberTables.{IsMemberTable}
use Rattle.sp_backup.proofs.Listed.{table_vector}
use Rattle.sp_backup.proofs.setting.greatest_of.Goals as goal

pub at-requires : goal.at-requires
at-requires c = let count = c.requires.tables.count in omega (arith, count, c.requires.place)

pub returns-clause-bound : goal.returns-clause-bound
returns-clause-bound c =
    let e = c.args.edition.now in
    let is : IsMemberTable e c.args.place c.at.result.now = table_vector e c.members.ensures.known c.args.tables.now c.requires.tables c.args.place c.requires.place c.at.result.now c.at.ensures in
    let small = is.tabled.small_high in
    subst (λ (z : ℤ). Everywhere (get_or e.members c.args.place no_member).vector (λ v. v ≤ℤ z)) (sym (to_z-of_z w128 c.at.result.now.high (fits_signed_from_abs w128 c.at.result.now.high (omega (arith, small)))))
    (subst (λ (f : Func). Everywhere f (λ v. v ≤ℤ c.at.result.now.high)) is.vector is.tabled.high)

pub returns-clause-small : goal.returns-clause-small
returns-clause-small c =
    let small = (table_vector c.args.edition.now c.members.ensures.known c.args.tables.now c.requires.tables c.args.place c.requires.place c.at.result.now c.at.ensures).tabled.small_high in
    subst (λ (z : ℤ). unsigned_abs z ≤ 10 ^ 18) (sym (to_z-of_z w128 c.at.result.now.high (fits_signed_from_abs w128 c.at.result.now.high (omega (arith, small))))) small

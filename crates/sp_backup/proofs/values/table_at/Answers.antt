use Rattle.std.proofs.Common.{◌^◌, ◌≤◌, ap, sym, ◌∙◌, subst, arith}
use Rattle.std.specs.Int.{w128}
use Rattle.std.specs.Prelude.{ℤ, ◌≤ℤ◌, unsigned_abs}
use Rattle.std.proofs.lemmas.Int.{to_z-of_z, fits_signed_from_abs}
use Rattle.sp_dd.specs.Func.{Func, Everywhere}
use Rattle.sp_value.specs.declared.editions.Member.{Member}
use Rattle.sp_value.proofs.Vectors.{vector_at, vector_small}
use Rattle.sp_backup.specs.MemberTables.{IsNothingOr}
use Rattle.sp_backup.proofs.UnscaledSums.{member_is}
use Rattle.sp_backup.proofs.RangeLemmas.{least_small, greatest_small}
use Rattle.sp_backup.proofs.values.table_at.Goals as goal

pub values_of-requires-clause-unprimed : goal.values_of-requires-clause-unprimed
values_of-requires-clause-unprimed c = (vector_at _ c.members.ensures.known _ c.members.ensures.value c.args.place c.requires _ c.at.ensures).unprimed

pub values_of-requires-clause-small : goal.values_of-requires-clause-small
values_of-requires-clause-small c =
    let within = vector_small c.args.edition.now.task.model c.members.ensures.known.task.model _ (vector_at _ c.members.ensures.known _ c.members.ensures.value c.args.place c.requires _ c.at.ensures) in
    (λ x at. let small = within x at in omega (arith, small))

pub returns : goal.returns
returns c =
    let e = c.args.edition.now in
    let known = c.members.ensures.known in
    let member = member_is _ c.members.ensures.value c.args.place _ c.at.ensures in
    let small_low = least_small e known c.args.place c.requires _ member c.least.result c.least.ensures in
    let small_high = greatest_small e known c.args.place c.requires _ member c.greatest.result c.greatest.ensures in
    let low = sym (to_z-of_z w128 c.least.result (fits_signed_from_abs w128 c.least.result (omega (arith, small_low)))) in
    let high = sym (to_z-of_z w128 c.greatest.result (fits_signed_from_abs w128 c.greatest.result (omega (arith, small_high)))) in
    record {
      vector = c.in_ok-copy.ensures ∙ ap (λ (m : Member). m.vector) member;
      tabled = record {
        values = subst (IsNothingOr c.in_ok-table.table) (sym c.in_ok-copy.ensures) c.in_ok-table.ensures;
        low = subst (λ (z : ℤ). Everywhere c.in_ok-copy.copy (λ v. z ≤ℤ v)) low (subst (λ (f : Func). Everywhere f (λ v. c.least.result ≤ℤ v)) (sym c.in_ok-copy.ensures) c.least.ensures.bound);
        high = subst (λ (z : ℤ). Everywhere c.in_ok-copy.copy (λ v. v ≤ℤ z)) high (subst (λ (f : Func). Everywhere f (λ v. v ≤ℤ c.greatest.result)) (sym c.in_ok-copy.ensures) c.greatest.ensures.bound);
        small_low = subst (λ (z : ℤ). unsigned_abs z ≤ 10 ^ 18) low small_low;
        small_high = subst (λ (z : ℤ). unsigned_abs z ≤ 10 ^ 18) high small_high;
      };
    }

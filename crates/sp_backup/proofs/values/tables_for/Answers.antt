use Rattle.std.proofs.Common.{◌≡◌, ℕ, ap, sym, ◌∙◌, subst, arith, take, length}
use Rattle.std.proofs.lemmas.List.{get_or-take}
use Rattle.sp_belief.proofs.Appended.{each_pushed, count_pushed}
use Rattle.sp_belief.proofs.CarryLemmas.{length-take-le}
use Rattle.sp_backup.specs.MemberTables.{IsMemberTable, AreMemberTables, no_table}
use Rattle.sp_backup.proofs.values.tables_for.Goals as goal

pub loop-place-init : goal.loop-place-init
loop-place-init c =
    let e = c.args.edition.now in
    let first = c.shared-first.result in
    let same = c.shared-first.ensures in
    subst (AreMemberTables e first) (sym (c.truncate.ensures.items ∙ ap (take first) c.into_vec-tables.ensures)) (record {
      count = length-take-le first c.args.before same.tables;
      each = λ k less. subst (IsMemberTable e k) (sym (get_or-take first c.args.before k no_table less)) (same.same k less);
    })

pub loop-place-preserved : goal.loop-place-preserved
loop-place-preserved c =
    let is = c.loop-place.invariant in
    record {
      count = count_pushed c.loop-place.place _ _ _ is.count c.in_ok-push_table.ensures;
      each = each_pushed (IsMemberTable c.args.edition.now) no_table c.loop-place.place _ _ _ is.count is.each c.in_ok-table.ensures c.in_ok-push_table.ensures;
    }

pub returns : goal.returns
returns c =
    let e = c.args.edition.now in
    let long = ap length c.members.ensures.value in
    let few = c.shared-first.ensures.members in
    let most = c.loop-place.auto.place-end (omega (arith, few, long, c.len-place-end.ensures)) in
    let end : c.loop-place.place ≡ length e.members = omega (arith, c.loop-place-test.false, most, long, c.len-place-end.ensures) in
    subst (AreMemberTables e (length e.members)) (sym c.from_vec.ensures) (subst (λ (n : ℕ). AreMemberTables e n c.loop-place.tables.items) end c.loop-place.invariant)

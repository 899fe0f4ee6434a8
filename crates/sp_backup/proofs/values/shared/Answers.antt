use Rattle.std.proofs.Common.{◌≡◌, ◌<◌, ◌≤◌, ℕ, ⊎_elim, rules, ap, sym, ◌∙◌, subst, arith, get_or, length}
use Rattle.std.proofs.lemmas.Bool.{cases_lt}
use Rattle.std.proofs.lemmas.Option.{get_or_from_slice_get}
use Rattle.sp_value.specs.declared.editions.Member.{Member}
use Rattle.sp_value.proofs.Vectors.{vector_at}
use Rattle.sp_backup.specs.declared.values.MemberTable.{MemberTable}
use Rattle.sp_backup.specs.MemberTables.{IsMemberTable, no_table}
use Rattle.sp_backup.proofs.UnscaledSums.{member_is}
use Rattle.sp_backup.proofs.values.shared.Goals as goal

pub loop-place-preserved : goal.loop-place-preserved
loop-place-preserved c =
    let e = c.args.edition.now in
    let tables = c.args.tables.now in
    let place = c.loop-place.place in
    let within : place < length tables = omega (arith, c.loop-place-test.true, c.min-count.ensures, c.len.ensures, c.len-2.ensures) in
    let entry = get_or_from_slice_get tables place c.at.result.now no_table c.at.ensures in
    let here : IsMemberTable e place (get_or tables place no_table) = record {
      vector = ap (λ (x : MemberTable). x.vector) entry ∙ c.if-not-same.ensures.0 (search rules) ∙ ap (λ (m : Member). m.vector) (member_is e.members c.members-members.ensures.value place _ c.at-in-loop-place.ensures);
      tabled = (c.requires place within).tabled;
    } in
    (λ k less. ⊎_elim (λ (early : k < place). c.loop-place.invariant k early)
    (λ (late : place ≤ k). let same : place ≡ k = omega (arith, less, late) in subst (λ (i : ℕ). IsMemberTable e i (get_or tables i no_table)) same here)
    (cases_lt k place))

pub same-requires : goal.same-requires
same-requires c =
    let e = c.args.edition.now in
    let tables = c.args.tables.now in
    let place = c.loop-place.place in
    let within : place < length tables = omega (arith, c.loop-place-test.true, c.min-count.ensures, c.len.ensures, c.len-2.ensures) in
    let long = ap length c.members-members.ensures.value in
    let less : place < length e.members = omega (arith, c.loop-place-test.true, c.min-count.ensures, c.len.ensures, c.len-2.ensures, long) in
    let entry = get_or_from_slice_get tables place c.at.result.now no_table c.at.ensures in
    ap (λ (x : MemberTable). x.vector.shape) (sym entry) ∙ (c.requires place within).shape ∙ sym (vector_at e c.members-members.ensures.known _ c.members-members.ensures.value place less _ c.at-in-loop-place.ensures).shape

use Rattle.std.proofs.Common.{◌≡◌, ◌∙◌, ap, rules, ℕ, eqb, length, vec_len}
use Rattle.std.proofs.lemmas.List.{with_items_is, places}
use Rattle.sp_core.specs.Ledgers.{contents}
use Rattle.sp_core.proofs.Changes.{with_member_is}
use Rattle.sp_core.proofs.ledger.Ledger.grow.Goals as goal

pub returns-clause-changed : goal.returns-clause-changed
returns-clause-changed c =
    let s = c.args.self.now in
    let long : vec_len s.grown ≡ length s.grown.items = search (rules, places) in
    with_member_is (contents s) c.args.member _ _ _ _ _ _ _ _ _ _ _
    (c.is_empty-first.ensures ∙ ap (λ (n : ℕ). eqb n 0) long)
    c.raise.ensures c.deref.ensures.value c.deref-2.ensures.value c.as_mut_slice.ensures.value
    c.lift.ensures c.deref-3.ensures.value c.as_mut_slice-2.ensures.value
    c.push_reserved.ensures.items
    (with_items_is s.improved c.raise.new.improved (search (rules, places)))
    (with_items_is s.grown_values c.lift.new.values (search (rules, places)))

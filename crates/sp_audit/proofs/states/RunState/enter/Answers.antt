use Rattle.std.proofs.Common.{◌≡◌, ◌∙◌, ap, rules, ℕ, List, [], ◌∷◌, ◌++◌, eqb, length, vec_len}
use Rattle.sp_value.specs.declared.editions.Member.{Member}
use Rattle.std.proofs.lemmas.List.{with_items_is, places}
use Rattle.std.specs.Vec.{with_items}
use Rattle.sp_audit.specs.States.{contents}
use Rattle.sp_audit.proofs.Following.{with_member_is}
use Rattle.sp_audit.proofs.states.RunState.enter.Goals as goal

pub returns-clause-changed : goal.returns-clause-changed
returns-clause-changed c =
    let s = c.args.self.now in
    let long : vec_len s.grown ≡ length s.grown.items = search (rules, places) in
    with_member_is (record (contents s) { worths = (with_items s.worths c.weigh.new.worths).items }) c.args.member _ _ _ _ _ _ _ _ _ _ _
    (c.is_empty-first.ensures ∙ ap (λ (n : ℕ). eqb n 0) long)
    c.raise.ensures c.deref.ensures.value c.deref-2.ensures.value c.as_mut_slice-2.ensures.value
    c.lift.ensures c.deref-3.ensures.value c.as_mut_slice-3.ensures.value
    (c.push_reserved.ensures.items ∙ ap (λ (xs : List Member). xs ++ c.args.member ∷ []) c.reserve.ensures.items)
    (with_items_is s.improved c.raise.new.improved (search (rules, places)))
    (with_items_is s.grown_values c.lift.new.values (search (rules, places)))

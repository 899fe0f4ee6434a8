use Rattle.std.proofs.Common.{◌≡◌, ◌∙◌, sym, ap, subst, rules, arith, List, [], ◌∷◌, ◌++◌, length, length-append, vec_len}
use Rattle.std.proofs.lemmas.List.{places, length-map}
use Rattle.std.proofs.lemmas.List.Elements.{All-push}
use Rattle.std.specs.Arc.{arc_value}
use Rattle.sp_value.specs.declared.editions.Member.{Member}
use Rattle.sp_value.specs.Tasks.{TaskParts}
use Rattle.sp_value.specs.Editions.{EditionParts, IsEdition, IsMemberOf}
use Rattle.sp_ledger.proofs.Reading.{up_same}
use Rattle.sp_core.specs.Ledgers.{LedgerContents}
use Rattle.sp_core.proofs.ledger.Ledger.due.Goals as goal

pub shared_edition-requires : goal.shared_edition-requires
shared_edition-requires c =
    let s = c.args.self.now in
    let x : Member = record { id = c.args.id; action = c.args.action; vector = c.args.vector.now } in
    let grown : c.deref-4.result.now ≡ s.grown.items = c.deref-4.ensures.value ∙ ap (λ (y : LedgerContents). y.grown) c.take_worths.ensures.same in
    let task : arc_value c.task.result.now ≡ s.task = c.task.ensures ∙ ap (λ (y : LedgerContents). y.task) c.take_worths.ensures.same in
    subst (λ (t : TaskParts). IsEdition (record { number = c.len-number.result; task = t; members = c.in_ok-members.members })) (sym task)
    (subst (λ (xs : List Member). IsEdition (record { number = c.len-number.result; task = s.task; members = xs })) (sym (c.in_ok-members.ensures ∙ ap (λ (xs : List Member). xs ++ x ∷ []) grown)) (record {
      task = c.requires.ledger.task;
      some = omega (arith, length-append s.grown.items (x ∷ []));
      different = c.requires.different;
      members = All-push (IsMemberOf s.task.model) s.grown.items x c.requires.ledger.grown c.requires.member;
    }))

pub returns-clause-entry : goal.returns-clause-entry
returns-clause-entry c =
    let s = c.take_worths.new.self in
    let x : Member = record { id = c.args.id; action = c.args.action; vector = c.args.vector.now } in
    let long : vec_len s.editions ≡ length s.editions.items = search (rules, places) in
    let number = c.len-number.ensures ∙ long ∙ sym (length-map s.editions.items arc_value) in
    let members = c.in_ok-members.ensures ∙ ap (λ (xs : List Member). xs ++ x ∷ []) c.deref-4.ensures.value in
    record {
      known = subst (λ (y : LedgerContents). IsMemberOf y.task.model x) (sym c.take_worths.ensures.same) c.requires.member;
      worths = c.in_ok-take_worths.ensures.worths.each;
      due = (
        up_same _ _ _ _ _ _ c.deref.ensures.value c.deref-2.ensures.value c.deref-3.ensures.value c.if-not-are_all_raised.ensures,
        c.in_ok-edition.ensures ∙ (λ i. let r : EditionParts = record { number = number i; task = c.task.ensures i; members = members i } in r),
      );
    }

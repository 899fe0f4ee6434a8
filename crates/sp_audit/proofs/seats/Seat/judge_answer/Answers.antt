use Rattle.std.proofs.Common.{◌≡◌, ◌∙◌, sym, ap, subst, arith, ℕ, ◌<◌, length, map, get_or}
use Rattle.std.specs.Arc.{arc_value}
use Rattle.std.proofs.lemmas.List.{length-map}
use Rattle.sp_theory.specs.Values as theory
use Rattle.sp_model.specs.Problem.{shape_of}
use Rattle.sp_value.specs.Editions.{members_in}
use Rattle.sp_audit.specs.Seats.{editions_in}
use Rattle.sp_ledger.proofs.Reading.{read_at}
use Rattle.sp_audit.proofs.Answering.{own_model, answer_is, answer_known}
use Rattle.sp_audit.proofs.seats.Seat.judge_answer.Goals as goal

pub greatest_place-requires : goal.greatest_place-requires
greatest_place-requires c =
    let es = map arc_value c.args.editions.now in
    let less : c.args.edition < length es = omega (arith, c.if-edition-editions.false, length-map c.args.editions.now arc_value) in
    let within : c.args.edition < length (editions_in es) = omega (arith, less, length-map es members_in) in
    let e = c.deref-base.result.now in
    let is : e ≡ get_or es c.args.edition e = read_at arc_value c.args.editions.now c.args.edition c.index-editions-edition.result e (omega (arith, c.if-edition-editions.false)) c.index-editions-edition.is c.deref-base.ensures in
    c.requires.seat.shape ∙ ap shape_of (sym (own_model c.args.model.now es c.requires.editions c.args.self.now c.args.edition less e is))

pub returns-then-greatest-member : goal.returns-then-greatest-member
returns-then-greatest-member c =
    let es = map arc_value c.args.editions.now in
    let less : c.args.edition < length es = omega (arith, c.if-edition-editions.false, length-map c.args.editions.now arc_value) in
    let within : c.args.edition < length (editions_in es) = omega (arith, less, length-map es members_in) in
    let e = c.deref-base.result.now in
    let is : e ≡ get_or es c.args.edition e = read_at arc_value c.args.editions.now c.args.edition c.index-editions-edition.result e (omega (arith, c.if-edition-editions.false)) c.index-editions-edition.is c.deref-base.ensures in
    let found = answer_is c.args.model.now es c.requires.editions c.args.self.now c.args.edition less e is c.in_ok-place.place c.in_ok-place.ensures.0 c.members.result.now c.members.ensures.value c.at-greatest.result.now c.at-greatest.ensures in
    let id = ap (λ (x : theory.Member). x.id) found in
    let action = ap (λ (x : theory.Member). x.action) found in
    (within, c.if-edition-self.false, λ same. c.if-greatest-member.true (id ∙ sym same))

pub returns-then-greatest-action : goal.returns-then-greatest-action
returns-then-greatest-action c =
    let es = map arc_value c.args.editions.now in
    let less : c.args.edition < length es = omega (arith, c.if-edition-editions.false, length-map c.args.editions.now arc_value) in
    let within : c.args.edition < length (editions_in es) = omega (arith, less, length-map es members_in) in
    let e = c.deref-base.result.now in
    let is : e ≡ get_or es c.args.edition e = read_at arc_value c.args.editions.now c.args.edition c.index-editions-edition.result e (omega (arith, c.if-edition-editions.false)) c.index-editions-edition.is c.deref-base.ensures in
    let found = answer_is c.args.model.now es c.requires.editions c.args.self.now c.args.edition less e is c.in_ok-place.place c.in_ok-place.ensures.0 c.members.result.now c.members.ensures.value c.at-greatest.result.now c.at-greatest.ensures in
    let id = ap (λ (x : theory.Member). x.id) found in
    let action = ap (λ (x : theory.Member). x.action) found in
    (within, c.if-edition-self.false, sym c.if-greatest-member.false ∙ id, λ same. c.if-greatest-action.true (action ∙ sym same))

pub returns : goal.returns
returns c =
    let es = map arc_value c.args.editions.now in
    let less : c.args.edition < length es = omega (arith, c.if-edition-editions.false, length-map c.args.editions.now arc_value) in
    let within : c.args.edition < length (editions_in es) = omega (arith, less, length-map es members_in) in
    let e = c.deref-base.result.now in
    let is : e ≡ get_or es c.args.edition e = read_at arc_value c.args.editions.now c.args.edition c.index-editions-edition.result e (omega (arith, c.if-edition-editions.false)) c.index-editions-edition.is c.deref-base.ensures in
    let found = answer_is c.args.model.now es c.requires.editions c.args.self.now c.args.edition less e is c.in_ok-place.place c.in_ok-place.ensures.0 c.members.result.now c.members.ensures.value c.at-greatest.result.now c.at-greatest.ensures in
    let id = ap (λ (x : theory.Member). x.id) found in
    let action = ap (λ (x : theory.Member). x.action) found in
    let known = answer_known c.args.model.now es c.requires.editions c.args.self.now c.args.edition less e is c.members.ensures.known c.in_ok-place.place c.members.result.now c.members.ensures.value c.at-greatest.result.now c.at-greatest.ensures in
    (within, c.if-edition-self.false, sym c.if-greatest-member.false ∙ id, sym c.if-greatest-action.false ∙ action, subst (λ (a : ℕ). a < length c.args.model.now.actions) c.if-greatest-action.false known)

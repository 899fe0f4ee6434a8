use Rattle.std.proofs.Common.{◌≡◌, rules, ap, ◌∙◌, Bool, true, false, cond}
use Rattle.std.specs.Int.{w128}
use Rattle.std.specs.Prelude.{FitsSigned}
use Rattle.std.proofs.lemmas.Int.{to_z-of_z}
use Rattle.sp_value.specs.Scores.{outdoes}
use Rattle.sp_backup.specs.Posteriors.{id_of}
use Rattle.sp_backup.proofs.UnscaledSums.{member_is}
use Rattle.sp_backup.proofs.linking.LinkSearch.better_estimated.Goals as goal

pub returns-then-is_better-clause-chosen : goal.returns-then-is_better-clause-chosen
returns-then-is_better-clause-chosen c =
    let e = c.args.self.now.setting.now.edition.now in
    let new : FitsSigned w128 c.args.new = search rules in
    let old : FitsSigned w128 c.args.old = search rules in
    let test : true ≡ outdoes c.args.new (id_of e c.args.next.place) c.args.old (id_of e c.args.best.place) =
    c.if-is_better.ensures
    ∙ (λ i. outdoes (to_z-of_z w128 _ new i) (member_is e.members c.members-members.ensures.value c.args.next.place _ c.at.ensures i).id (to_z-of_z w128 _ old i) (member_is e.members c.members-members.ensures.value c.args.best.place _ c.at-2.ensures i).id) in
    ap (λ (b : Bool). cond b c.args.next.place c.args.best.place) test

pub returns-clause-chosen : goal.returns-clause-chosen
returns-clause-chosen c =
    let e = c.args.self.now.setting.now.edition.now in
    let new : FitsSigned w128 c.args.new = search rules in
    let old : FitsSigned w128 c.args.old = search rules in
    let test : false ≡ outdoes c.args.new (id_of e c.args.next.place) c.args.old (id_of e c.args.best.place) =
    c.if-is_better.ensures
    ∙ (λ i. outdoes (to_z-of_z w128 _ new i) (member_is e.members c.members-members.ensures.value c.args.next.place _ c.at.ensures i).id (to_z-of_z w128 _ old i) (member_is e.members c.members-members.ensures.value c.args.best.place _ c.at-2.ensures i).id) in
    ap (λ (b : Bool). cond b c.args.next.place c.args.best.place) test

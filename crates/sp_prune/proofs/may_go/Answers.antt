use Rattle.std.proofs.Common.{◌∙◌, sym}
use Rattle.sp_model.specs.Problem.{problem}
use Rattle.sp_value.specs.Editions.{member_of}
use Rattle.sp_prune.proofs.LeastLemmas.{own_stays, above_stays, greater_goes, lesser_goes}
use Rattle.sp_prune.proofs.may_go.Goals as goal

pub returns-then-member-other : goal.returns-then-member-other
returns-then-member-other c =
    let p = c.args.model.now in
    own_stays (problem p) (member_of p c.args.member.now) (member_of p c.args.other.now) c.if-member-other.true

pub returns-then-not-branch : goal.returns-then-not-branch
returns-then-not-branch c =
    let p = c.args.model.now in
    above_stays (problem p) (member_of p c.args.member.now) (member_of p c.args.other.now) (sym c.in_ok-is_nowhere_above.ensures ∙ c.if-not-branch.true)

pub returns-then-other-member : goal.returns-then-other-member
returns-then-other-member c =
    let p = c.args.model.now in
    greater_goes (problem p) (member_of p c.args.member.now) (member_of p c.args.other.now) c.if-member-other.false (sym c.in_ok-is_nowhere_above.ensures ∙ c.if-not-branch.false) c.if-other-member.true

pub returns : goal.returns
returns c =
    let p = c.args.model.now in
    lesser_goes (problem p) (member_of p c.args.member.now) (member_of p c.args.other.now) c.if-member-other.false (sym c.in_ok-is_nowhere_above.ensures ∙ c.if-not-branch.false) c.if-other-member.false c.in_ok-equal.equal c.in_ok-equal.ensures

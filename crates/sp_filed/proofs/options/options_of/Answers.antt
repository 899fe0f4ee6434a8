use Rattle.std.proofs.Common.{rules, sym}
use Rattle.sp_value.specs.declared.tasks.Options.{Options}
use Rattle.std.proofs.Common.{subst}
use Rattle.sp_planfile.specs.Form.{AreInRange}
use Rattle.sp_lines.proofs.Spaces.{pair_told}
use Rattle.sp_filed.proofs.Lines.{first_pair, second_pair, options_same, behind_depth, choices}
use Rattle.sp_filed.proofs.options.options_of.Goals as goal

pub returns-in_default-pair_first-2 : goal.returns-in_default-pair_first-2
returns-in_default-pair_first-2 c = λ o good is.
    let first = first_pair c.args.line.now c.in-Some.text.now o good c.in-Some.ensures is in
    let same = pair_told c.in-Some.text.now c.in-Some-pair_first.beliefs c.in-Some-pair_first.depth c.in-Some-pair_first.text.now o.beliefs o.depth (behind_depth o) c.in-Some-pair_first.ensures first in
    c.in_default-pair_first-2.ensures o.stages o.seed (choices o) (second_pair c.args.line.now c.in-Some.text.now o good c.in-Some.ensures is c.in-Some-pair_first.text.now same.2)

pub returns-in_default-choices_of : goal.returns-in_default-choices_of
unfolding choices
returns-in_default-choices_of c = λ o good is.
    let first = first_pair c.args.line.now c.in-Some.text.now o good c.in-Some.ensures is in
    let same = pair_told c.in-Some.text.now c.in-Some-pair_first.beliefs c.in-Some-pair_first.depth c.in-Some-pair_first.text.now o.beliefs o.depth (behind_depth o) c.in-Some-pair_first.ensures first in
    let second = second_pair c.args.line.now c.in-Some.text.now o good c.in-Some.ensures is c.in-Some-pair_first.text.now same.2 in
    let more = pair_told c.in-Some-pair_first.text.now c.in-Some-pair_first-2.stages c.in-Some-pair_first-2.seed c.in-Some-pair_first-2.text.now o.stages o.seed (choices o) c.in-Some-pair_first-2.ensures second in
    c.in_default-choices_of.ensures o.explore o.prune more.2

pub returns-else-are_in_range : goal.returns-else-are_in_range
returns-else-are_in_range c = λ o good is.
    let read : Options = record { beliefs = c.in-Some-pair_first.beliefs; depth = c.in-Some-pair_first.depth; stages = c.in-Some-pair_first-2.stages; seed = c.in-Some-pair_first-2.seed; explore = c.in-Some-choices_of.explore; prune = c.in-Some-choices_of.prune } in
    let same = options_same c.args.line.now c.in-Some.text.now c.in-Some-pair_first.text.now c.in-Some-pair_first-2.text.now o read good c.in-Some.ensures c.in-Some-pair_first.ensures c.in-Some-pair_first-2.ensures c.in-Some-choices_of.ensures is in
    let range = subst AreInRange (sym same) good in
    search (rules, range)

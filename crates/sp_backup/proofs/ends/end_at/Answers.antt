use Rattle.std.proofs.Common.{◌≡◌, rules, ◌∙◌}
use Rattle.std.specs.Int.{w128}
use Rattle.std.specs.Prelude.{FitsSigned}
use Rattle.std.proofs.lemmas.Int.{to_z-of_z}
use Rattle.sp_dd.specs.Operations.{everywhere}
use Rattle.sp_backup.proofs.LinkSums.{constant_vector}
use Rattle.sp_backup.proofs.ends.end_at.Goals.{In_ok-all}
use Rattle.sp_backup.proofs.ends.end_at.Goals as goal

all-is : (c : In_ok-all) → c.in_ok-all.all ≡ everywhere c.args.model.now.scope c.args.value
all-is c =
    let fits : FitsSigned w128 c.args.value = search rules in
    c.in_ok-all.ensures ∙ (λ i. everywhere (c.scope.ensures i) (to_z-of_z w128 _ fits i))

pub new-requires-clause-vector : goal.new-requires-clause-vector
new-requires-clause-vector c = constant_vector c.args.model.now c.parts.ensures.known c.args.value c.requires.low c.requires.high c.in_ok-all.all (all-is (goal.at.new-requires-clause-vector c).In_ok-all)

pub returns : goal.returns
returns c = record {
  projection = c.in_ok-made.ensures.is;
  action_is = c.in_ok-made.ensures.action;
  joint_is = c.in_ok-made.ensures.joint;
  vector = c.in_ok-made.ensures.vector ∙ all-is (goal.at.returns c).In_ok-all;
}

use Rattle.std.proofs.Common.{◌∙◌}
use Rattle.sp_trees.proofs.NodeLemmas.{are_parts}
use Rattle.sp_trees.proofs.nodes.chosen.Goals as goal

pub branch-alloc-requires-clause-parts : goal.branch-alloc-requires-clause-parts
branch-alloc-requires-clause-parts c =
    (are_parts c.args.scope.now c.args.node.left c.args.branches.now c.args.node.count c.in_ok-refusal.field-0 c.in-Ok.parts c.as_slice.result.now c.requires.good c.in_ok-refusal.ensures c.in-Ok.is c.as_slice.ensures).long
    ∙ c.requires.count

pub branch-alloc-requires-clause-scopes : goal.branch-alloc-requires-clause-scopes
branch-alloc-requires-clause-scopes c =
    (are_parts c.args.scope.now c.args.node.left c.args.branches.now c.args.node.count c.in_ok-refusal.field-0 c.in-Ok.parts c.as_slice.result.now c.requires.good c.in_ok-refusal.ensures c.in-Ok.is c.as_slice.ensures).scopes

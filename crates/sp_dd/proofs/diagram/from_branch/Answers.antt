use Rattle.std.proofs.Common.{◌∙◌}
use Rattle.sp_dd.proofs.Diagramming.{scope_positive, walked_from}
use Rattle.sp_dd.proofs.Steps.{walked_whole}
use Rattle.sp_dd.proofs.diagram.from_branch.Goals as goal

pub walk_branch-requires-clause-positive : goal.walk_branch-requires-clause-positive
walk_branch-requires-clause-positive g c = scope_positive _ c.slots.ensures.known

pub invariant_of-result : goal.invariant_of-result
invariant_of-result g c =
    (walked_from c.args.scope.now (g.S.Source.meaning c.args.source.now c.args.state) _ _ _ _ c.slots.ensures.known c.in_ok-draft.ensures (walked_whole _ _ _ _ _ _ _ c.in_ok-walk_branch.ensures.made c.in_ok-stack.ensures c.get-root.ensures) (c.in_ok-nodes.ensures ∙ c.finish.ensures)).diagram

pub returns : goal.returns
returns g c =
    (walked_from c.args.scope.now (g.S.Source.meaning c.args.source.now c.args.state) _ _ _ _ c.slots.ensures.known c.in_ok-draft.ensures (walked_whole _ _ _ _ _ _ _ c.in_ok-walk_branch.ensures.made c.in_ok-stack.ensures c.get-root.ensures) (c.in_ok-nodes.ensures ∙ c.finish.ensures)).function

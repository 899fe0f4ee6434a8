use Rattle.std.proofs.Common.{◌∙◌}
use Rattle.sp_dd.proofs.Diagramming.{scope_positive, walked_from}
use Rattle.sp_dd.proofs.Doubles.{with_root}
use Rattle.sp_dd.proofs.diagram.from_short.Goals as goal

pub walk_short-requires-clause-positive : goal.walk_short-requires-clause-positive
walk_short-requires-clause-positive g c = scope_positive _ c.slots.ensures.known

pub invariant_of-result : goal.invariant_of-result
invariant_of-result g c =
    (walked_from c.args.scope.now (g.S.Source.meaning c.args.source.now c.args.state) _ _ _ _ c.slots.ensures.known c.in_ok-draft.ensures (with_root _ _ _ c.in_ok-word.ensures.made c.part_of.ensures) (c.in_ok-nodes.ensures ∙ c.finish.ensures)).diagram

pub returns : goal.returns
returns g c =
    (walked_from c.args.scope.now (g.S.Source.meaning c.args.source.now c.args.state) _ _ _ _ c.slots.ensures.known c.in_ok-draft.ensures (with_root _ _ _ c.in_ok-word.ensures.made c.part_of.ensures) (c.in_ok-nodes.ensures ∙ c.finish.ensures)).function

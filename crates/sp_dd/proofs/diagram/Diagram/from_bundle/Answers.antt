use Rattle.std.proofs.Common.{◌∙◌, drop}
use Rattle.sp_dd.specs.NodeLists.{made_node}
use Rattle.sp_dd.proofs.BundleLemmas.{bundles_none}
use Rattle.sp_dd.proofs.Diagramming.{scope_positive, walked_from}
use Rattle.sp_dd.proofs.Steps.{walked_whole}
use Rattle.sp_dd.proofs.diagram.Diagram.from_bundle.Goals as goal

pub walk_bundle-requires-clause-positive : goal.walk_bundle-requires-clause-positive
walk_bundle-requires-clause-positive g c = scope_positive _ c.slots.ensures.known

pub walk_bundle-requires-clause-known : goal.walk_bundle-requires-clause-known
walk_bundle-requires-clause-known g c = bundles_none _ _ _ _ _ c.new-memo.ensures.bundles c.new-memo.ensures.parts

pub invariant_of-result : goal.invariant_of-result
invariant_of-result g c =
    (walked_from c.args.scope.now (g.S.BundleSource.meaning c.args.source.now (made_node c.args.slot (drop c.args.start c.args.list.now.items))) _ _ _ _ c.slots.ensures.known c.in_ok-draft.ensures (walked_whole _ _ _ _ _ _ _ c.in_ok-walk_bundle.ensures.made c.in_ok-stack.ensures c.get-root.ensures) (c.in_ok-nodes.ensures ∙ c.finish.ensures)).diagram

pub returns : goal.returns
returns g c =
    (walked_from c.args.scope.now (g.S.BundleSource.meaning c.args.source.now (made_node c.args.slot (drop c.args.start c.args.list.now.items))) _ _ _ _ c.slots.ensures.known c.in_ok-draft.ensures (walked_whole _ _ _ _ _ _ _ c.in_ok-walk_bundle.ensures.made c.in_ok-stack.ensures c.get-root.ensures) (c.in_ok-nodes.ensures ∙ c.finish.ensures)).function

use Rattle.sp_trees.proofs.EnvLemmas.{few_values}
use Rattle.sp_trees.proofs.nodes.known_node.Goals as goal

pub node_rows-requires-clause-count : goal.node_rows-requires-clause-count
node_rows-requires-clause-count c = few_values c.args.scope.now c.args.node.slot c.args.node.count c.slots.ensures.known c.requires.count

use Rattle.sp_written.proofs.Nodes.{accepted_nodes}
use Rattle.sp_written.proofs.laws.nodes_are_accepted.Goals as goal

pub returns : goal.returns
returns c = accepted_nodes

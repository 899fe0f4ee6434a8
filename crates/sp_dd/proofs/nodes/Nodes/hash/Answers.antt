use Rattle.std.proofs.Common.{◌∙◌, ap, sym}
use Rattle.sp_dd.specs.Hashes.{node_hash}
use Rattle.sp_dd.proofs.Flattened.{node_here, within_here}
use Rattle.sp_dd.proofs.nodes.Nodes.hash.Goals as goal

pub hash_of-requires : goal.hash_of-requires
hash_of-requires c = within_here _ _ _ _ _ c.self.view_is c.self.invariant c.requires c.index-head.ensures

pub returns : goal.returns
returns c = c.hash_of.ensures ∙ ap node_hash (sym (node_here _ _ _ _ _ c.self.view_is c.requires c.index-head.ensures))

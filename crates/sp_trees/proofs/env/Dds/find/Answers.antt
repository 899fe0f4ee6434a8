use Rattle.std.proofs.Common.{◌∙◌, ap}
use Rattle.sp_trees.specs.Dds.{dd_of_name}
use Rattle.sp_trees.proofs.DdLemmas.{lookup_is}
use Rattle.sp_trees.proofs.env.Dds.find.Goals as goal

pub returns : goal.returns
returns c = c.get.ensures.value ∙ lookup_is c.args.name.now c.self.inside.by_name.entries ∙ ap (dd_of_name c.args.name.now) c.self.view_is

use Rattle.std.proofs.Common.{◌∙◌, ap, ◌++◌, ◌∷◌, []}
use Rattle.sp_trees.specs.Dds.{dds_by_name, dd_of_name}
use Rattle.sp_trees.proofs.DdLemmas.{lookup_is, insert_is}
use Rattle.sp_trees.proofs.env.Dds.declare.Goals as goal

pub returns-in-Ok-clause-ok : goal.returns-in-Ok-clause-ok
returns-in-Ok-clause-ok c =
    ap dds_by_name c.in-Ok.ensures.entries
    ∙ insert_is c.args.name c.args.dd c.self.inside.by_name.entries (lookup_is c.args.name.now c.self.inside.by_name.entries ∙ ap (dd_of_name c.args.name.now) c.self.view_is ∙ c.requires)
    ∙ ap (λ ds. ds ++ (c.args.name.now, c.args.dd) ∷ []) c.self.view_is

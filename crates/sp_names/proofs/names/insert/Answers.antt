use Rattle.std.proofs.Common.{◌∙◌, ap}
use Rattle.std.specs.Prelude.{not}
use Rattle.sp_names.specs.Names.{texts}
use Rattle.sp_names.proofs.NameLemmas.{is_declared, names_are}
use Rattle.sp_names.proofs.names.insert.Goals as goal

pub returns-in-Ok-clause-new : goal.returns-in-Ok-clause-new
returns-in-Ok-clause-new c = c.in-Ok.ensures.added ∙ ap not (is_declared c.args.name c.args.index.now.keys)

pub returns-in-Ok-clause-names : goal.returns-in-Ok-clause-names
returns-in-Ok-clause-names c = ap texts c.in-Ok.ensures.keys ∙ names_are c.args.name c.args.index.now.keys

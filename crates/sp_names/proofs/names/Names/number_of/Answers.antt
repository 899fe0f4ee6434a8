use Rattle.std.proofs.Common.{◌∙◌, ap, sym}
use Rattle.std.specs.Prelude.{◌≡◌, Option, Some, None}
use Rattle.sp_names.specs.Names.{number_of}
use Rattle.sp_names.proofs.NameLemmas.{number_is}
use Rattle.sp_names.proofs.names.Names.number_of.Goals as goal

pub returns-in-Some : goal.returns-in-Some
returns-in-Some c = rw (← c.self.view_is) (c.in-Some.ensures.index ∙ number_is c.args.name.now c.self.inside.index.keys)

pub returns-in-None : goal.returns-in-None
returns-in-None c = rw (← c.self.view_is) (c.in-None.ensures.index ∙ number_is c.args.name.now c.self.inside.index.keys)

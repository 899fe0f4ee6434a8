use Rattle.sp_declarations.proofs.DeclarationLemmas.{declarations_ok}
use Rattle.sp_declarations.proofs.declarations.declarations_of.Goals as goal

pub returns : goal.returns
returns c = declarations_ok c.args.source.now c.args.text.now c.in_ok-variables.variables c.in_ok-sights.sights c.in_ok-variables.ensures c.in_ok-sights.ensures

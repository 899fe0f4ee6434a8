use Rattle.std.proofs.Common.{sym, subst}
use Rattle.sp_model.specs.declared.parts.Parts.{Parts}
use Rattle.sp_value.specs.Editions.{IsVector}
use Rattle.sp_backup.proofs.projections.Projection.new.Goals as goal

pub project-requires : goal.project-requires
project-requires c = subst (λ (p : Parts). IsVector p c.args.vector.now) (sym c.in_ok-tables.ensures.model) c.requires.vector

use Rattle.std.proofs.Common.{◌∙◌, sym}
use Rattle.sp_backup.proofs.Listed.{none_some}
use Rattle.sp_backup.proofs.projections.Kept.take_tables.Goals as goal

pub invariant_of-self : goal.invariant_of-self
invariant_of-self c = record {
  prepared = c.self.invariant.prepared;
  successors = c.self.invariant.successors;
  projections = c.self.invariant.projections;
  ends = c.self.invariant.ends;
  tables = λ ts e. absurd (none_some ts (sym c.take.ensures.after ∙ e));
}

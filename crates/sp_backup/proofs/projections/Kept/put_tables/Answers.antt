use Rattle.std.proofs.Common.{subst, sym, List}
use Rattle.std.specs.Arc.{arc_value}
use Rattle.sp_model.specs.declared.parts.Parts.{Parts}
use Rattle.sp_model.specs.Problem.{shape_of}
use Rattle.sp_backup.specs.declared.values.MemberTable.{MemberTable}
use Rattle.sp_backup.specs.MemberTables.{AreTables}
use Rattle.sp_backup.proofs.Listed.{some-same}
use Rattle.sp_backup.proofs.projections.Kept.put_tables.Goals as goal

pub invariant_of-self : goal.invariant_of-self
invariant_of-self c = record {
  prepared = c.self.invariant.prepared;
  successors = c.self.invariant.successors;
  projections = c.self.invariant.projections;
  ends = c.self.invariant.ends;
  tables = λ ts e. subst (λ (l : List MemberTable). AreTables (shape_of (arc_value c.self.inside.task).model) l) (some-same c.args.tables ts e) (subst (λ (p : Parts). AreTables (shape_of p) c.args.tables) (sym c.self.view_is) c.requires);
}

use Rattle.std.proofs.Common.{nat_eq, sym, subst}
use Rattle.sp_model.specs.declared.parts.Parts.{Parts}
use Rattle.sp_backup.specs.Preparing.{IsPrepared}
use Rattle.sp_backup.proofs.KeptLemmas.{tried}
use Rattle.sp_backup.proofs.projections.Kept.put_prepared.Goals as goal

pub invariant_of-self : goal.invariant_of-self
invariant_of-self c = record {
  prepared =
      tried (IsPrepared _) nat_eq c.self.inside.prepared c.put.new.self c.args.prepared.tables.action c.args.prepared c.put.result c.put.ensures.entries c.put.ensures.err c.self.invariant.prepared
      (subst (λ (p : Parts). IsPrepared p c.args.prepared) (sym c.self.view_is) c.requires);
  successors = c.self.invariant.successors;
  projections = c.self.invariant.projections;
  ends = c.self.invariant.ends;
  tables = c.self.invariant.tables;
}

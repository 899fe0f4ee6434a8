use Rattle.std.proofs.Common.{sym, subst}
use Rattle.sp_model.specs.declared.parts.Parts.{Parts}
use Rattle.sp_backup.specs.contracts.projections.TriplePartialEq.TheImpl as same
use Rattle.sp_backup.specs.Projections.{IsProjection}
use Rattle.sp_backup.proofs.KeptLemmas.{tried}
use Rattle.sp_backup.proofs.projections.Kept.put_projection.Goals as goal

pub invariant_of-self : goal.invariant_of-self
invariant_of-self c = record {
  prepared = c.self.invariant.prepared;
  successors = c.self.invariant.successors;
  projections =
      tried (IsProjection _) same.ghosts.eq c.self.inside.projections c.put.new.self (record { id = c.args.id; action = c.args.projection.action; joint = c.args.projection.joint }) c.args.projection c.put.result c.put.ensures.entries c.put.ensures.err c.self.invariant.projections
      (subst (λ (p : Parts). IsProjection p c.args.projection) (sym c.self.view_is) c.requires);
  ends = c.self.invariant.ends;
  tables = c.self.invariant.tables;
}

use Rattle.std.proofs.Common.{sym, subst}
use Rattle.sp_model.specs.declared.parts.Parts.{Parts}
use Rattle.sp_backup.specs.contracts.projections.PairPartialEq.TheImpl as same
use Rattle.sp_backup.specs.Posteriors.{AreSuccessors}
use Rattle.sp_backup.proofs.KeptLemmas.{tried}
use Rattle.sp_backup.proofs.projections.Kept.put_successors.Goals as goal

pub invariant_of-self : goal.invariant_of-self
invariant_of-self c = record {
  prepared = c.self.invariant.prepared;
  successors =
      tried (AreSuccessors _) same.ghosts.eq c.self.inside.successors c.put.new.self (record { belief = c.args.belief; action = c.args.successors.action }) c.args.successors c.put.result c.put.ensures.entries c.put.ensures.err c.self.invariant.successors
      (subst (λ (p : Parts). AreSuccessors p c.args.successors) (sym c.self.view_is) c.requires);
  projections = c.self.invariant.projections;
  ends = c.self.invariant.ends;
  tables = c.self.invariant.tables;
}

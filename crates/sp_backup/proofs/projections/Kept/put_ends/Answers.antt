use Rattle.std.proofs.Common.{sym, subst}
use Rattle.sp_model.specs.declared.parts.Parts.{Parts}
use Rattle.sp_backup.specs.contracts.projections.SightPartialEq.TheImpl as same
use Rattle.sp_backup.specs.Projections.{AreEnds}
use Rattle.sp_backup.proofs.KeptLemmas.{tried}
use Rattle.sp_backup.proofs.projections.Kept.put_ends.Goals as goal

pub invariant_of-self : goal.invariant_of-self
invariant_of-self c = record {
  prepared = c.self.invariant.prepared;
  successors = c.self.invariant.successors;
  projections = c.self.invariant.projections;
  ends =
      tried (AreEnds _) same.ghosts.eq c.self.inside.ends c.put.new.self (record { action = c.args.ends.low.action; joint = c.args.ends.low.joint }) c.args.ends c.put.result c.put.ensures.entries c.put.ensures.err c.self.invariant.ends
      (subst (λ (p : Parts). AreEnds p c.args.ends) (sym c.self.view_is) c.requires);
  tables = c.self.invariant.tables;
}

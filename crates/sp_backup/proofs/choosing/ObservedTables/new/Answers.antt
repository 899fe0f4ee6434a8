use Rattle.std.proofs.Common.{sym, ap, ◌∙◌, subst}
use Rattle.sp_theory.specs.Points.{IsPoint}
use Rattle.sp_theory.proofs.Numbers.{point_of-point}
use Rattle.sp_model.specs.Problem.{sizes_of}
use Rattle.sp_backup.specs.Choosing.{observed_tables}
use Rattle.sp_backup.proofs.choosing.ObservedTables.new.Goals as goal

pub observed-requires-clause-seen : goal.observed-requires-clause-seen
observed-requires-clause-seen c =
    subst (IsPoint (sizes_of c.args.model.now.sights)) (sym (c.as_slice.ensures ∙ c.in_ok-seen.ensures)) (point_of-point (sizes_of c.args.model.now.sights) c.args.joint c.requires.joint)

pub invariant_of-result-clause-tables_are : goal.invariant_of-result-clause-tables_are
invariant_of-result-clause-tables_are c = c.in_ok-tables.ensures ∙ ap (observed_tables c.args.model.now c.args.action 0) (c.as_slice.ensures ∙ c.in_ok-seen.ensures)

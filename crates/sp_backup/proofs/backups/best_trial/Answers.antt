use Rattle.std.proofs.Common.{ap, sym, ◌∙◌, subst}
use Rattle.std.specs.Prelude.{IfOk}
use Rattle.sp_dd.specs.Func.{Func}
use Rattle.sp_theory.specs.Backup.{choice}
use Rattle.sp_model.specs.declared.parts.Parts.{Parts}
use Rattle.sp_model.specs.Problem.{problem, shape_of}
use Rattle.sp_model.specs.Links.{weights_of}
use Rattle.sp_value.specs.Tasks.{TaskParts, sampled_func}
use Rattle.sp_value.specs.Editions.{EditionParts, members_in}
use Rattle.sp_backup.specs.MemberTables.{AreTables}
use Rattle.sp_backup.specs.Trials.{IsTrial}
use Rattle.sp_backup.proofs.Listed.{tables_shaped}
use Rattle.sp_backup.proofs.backups.best_trial.Goals as goal

pub new-setting-requires-clause-scope : goal.new-setting-requires-clause-scope
new-setting-requires-clause-scope c = c.weights.ensures.shape ∙ ap (λ (t : TaskParts). shape_of t.model) (c.deref.ensures ∙ c.task.ensures)

pub tables_for-requires : goal.tables_for-requires
tables_for-requires c = subst (λ (p : Parts). AreTables (shape_of p) c.take_tables-before.result) c.in_ok-held.ensures c.take_tables-before.ensures.shape

pub put_tables-requires : goal.put_tables-requires
put_tables-requires c =
    let tables = c.in_ok-tables.tables in
    subst (λ (p : Parts). AreTables (shape_of p) tables) (sym (c.trial_of-found.ensures.kept ∙ c.take_tables-before.ensures.same ∙ c.in_ok-held.ensures))
    (tables_shaped c.args.edition.now c.members.ensures.known tables c.in_ok-tables.ensures)

pub returns : goal.returns
returns c =
    let found = c.trial_of-found.result in
    let weights = c.new-setting.ensures.weights ∙ c.weights.ensures.value ∙ ap (λ (t : TaskParts). sampled_func t c.args.belief) (c.deref.ensures ∙ c.task.ensures) in
    subst (λ (x : EditionParts). IfOk found (IsTrial x (weights_of x.task.model (sampled_func c.args.edition.now.task c.args.belief)) (choice (problem x.task.model) (members_in x) (weights_of x.task.model (sampled_func c.args.edition.now.task c.args.belief))))) c.new-setting.ensures.edition
    (subst (λ (u : Func). IfOk found (IsTrial c.new-setting.result.edition.now (weights_of c.new-setting.result.edition.now.task.model u) (choice (problem c.new-setting.result.edition.now.task.model) (members_in c.new-setting.result.edition.now) (weights_of c.new-setting.result.edition.now.task.model u)))) weights c.trial_of-found.ensures.trial)

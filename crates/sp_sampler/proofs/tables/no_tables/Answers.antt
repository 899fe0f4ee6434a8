use Rattle.std.proofs.Common.{◌≡◌, ℕ, Option, None, IfSome}
use Rattle.sp_belief.specs.declared.tables.ActionTables.{ActionTables}
use Rattle.sp_belief.specs.Tables.{AreActionTables}
use Rattle.sp_belief.proofs.Appended.{each_pushed, count_pushed}
use Rattle.sp_sampler.proofs.tables.no_tables.Goals as goal

pub loop-action-preserved : goal.loop-action-preserved
loop-action-preserved c =
    let is = c.loop-action.invariant in
    record {
      count = count_pushed c.loop-action._action _ _ _ is.count c.in_ok-push_none.ensures;
      each = each_pushed (λ (a : ℕ) (o : Option ActionTables). IfSome o (λ x. AreActionTables c.args.model.now x × (x.action ≡ a))) None c.loop-action._action _ _ _ is.count is.each tt c.in_ok-push_none.ensures;
    }

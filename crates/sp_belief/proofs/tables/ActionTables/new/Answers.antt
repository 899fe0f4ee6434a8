use Rattle.std.proofs.Common.{ℕ, [], get_or}
use Rattle.sp_model.specs.Problem.{sizes_of}
use Rattle.sp_belief.specs.Tables.{AreChances}
use Rattle.sp_belief.proofs.Appended.{each_pushed, count_pushed}
use Rattle.sp_belief.proofs.tables.ActionTables.new.Goals as goal

pub loop-variable-preserved : goal.loop-variable-preserved
loop-variable-preserved c =
    let p = c.args.model.now in
    let is = c.loop-variable.invariant in
    let pushed = c.in_ok-push.ensures.ok in
    record {
      count = count_pushed c.loop-variable.variable _ _ _ is.count pushed;
      each = each_pushed (λ (j : ℕ). AreChances p c.args.action j (get_or (sizes_of p.sights) j 0)) [] c.loop-variable.variable _ _ _ is.count is.each c.in_ok-chances_of.ensures pushed;
    }

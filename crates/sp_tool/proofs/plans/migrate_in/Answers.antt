use Rattle.sp_tool.proofs.plans.migrate_in.Goals as goal

pub returns-in-Err-clause-fault : goal.returns-in-Err-clause-fault
returns-in-Err-clause-fault c = c.plan_fault.ensures c.args.source.now c.in-Err.ensures.err

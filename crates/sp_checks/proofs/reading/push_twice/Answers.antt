use Rattle.sp_checks.proofs.StartLemmas.{twice_more}
use Rattle.sp_checks.proofs.reading.push_twice.Goals as goal

pub loop-decl-preserved : goal.loop-decl-preserved
loop-decl-preserved c =
    twice_more c.args.sizes.now c.loop-decl.sizes c.push_pair.new.sizes c.args.decls.now c.loop-decl.decl-index c.len.result c.decl-item.result c.loop-decl-test.true c.decl-item.is c.loop-decl.invariant c.len.ensures c.in_ok-push_pair.ensures

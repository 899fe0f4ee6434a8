use Rattle.std.proofs.Common.{subst}
use Rattle.sp_value.specs.Candidates.{IsCandidate}
use Rattle.sp_core.proofs.SettledLedgers.{same_ledger, settled_all}
use Rattle.sp_core.proofs.ledger.Ledger.settle_ours.Goals as goal

pub returns-in-Ok-clause-ledger : goal.returns-in-Ok-clause-ledger
returns-in-Ok-clause-ledger c =
    let is = subst IsCandidate c.candidate.view_is c.candidate.invariant in
    (settled_all _ _ _ _ c.requires.ledger c.if-self.false c.in-Ok.ensures.same c.in-Ok.ensures.count c.args.candidate is c.requires.ours c.in-Ok.plan c.in-Ok.ensures.plan c.commit.ensures.changed _ c.commit.ensures.answer).0

pub returns-in-Ok-clause-ok : goal.returns-in-Ok-clause-ok
returns-in-Ok-clause-ok c =
    let is = subst IsCandidate c.candidate.view_is c.candidate.invariant in
    (settled_all _ _ _ _ c.requires.ledger c.if-self.false c.in-Ok.ensures.same c.in-Ok.ensures.count c.args.candidate is c.requires.ours c.in-Ok.plan c.in-Ok.ensures.plan c.commit.ensures.changed _ c.commit.ensures.answer).1

pub returns-in-Err-clause-ledger : goal.returns-in-Err-clause-ledger
returns-in-Err-clause-ledger c = same_ledger _ _ _ c.in-Err.ensures.count c.requires.ledger c.in-Err.ensures.same

use Rattle.std.proofs.Common.{subst, refl}
use Rattle.sp_audit.specs.States.{contents, IsEntrant}
use Rattle.sp_audit.proofs.Following.{settled, settled_without}
use Rattle.sp_audit.proofs.states.RunState.settle.Goals as goal

pub returns-in-None : goal.returns-in-None
returns-in-None c =
    let own = contents c.args.self.now in
    settled_without own c.requires.going c.args.candidate c.in_ok-entrant.ensures.known c.requires.base (subst (IsEntrant own c.args.candidate) c.in-None.is c.in_ok-entrant.ensures.entrant) _ refl

pub returns-in_ok-enter-in-Some : goal.returns-in_ok-enter-in-Some
returns-in_ok-enter-in-Some c =
    let own = contents c.args.self.now in
    let d = c.args.candidate in
    settled own c.requires.going d c.in_ok-entrant.ensures.known c.requires.base c.in-Some.member c.enter.new.self.worths.items c.enter.ensures.count c.in_ok-enter-in-Some.ensures.worths
    (subst (IsEntrant own d) c.in-Some.is c.in_ok-entrant.ensures.entrant) _ c.in_ok-enter-in-Some.ensures.changed

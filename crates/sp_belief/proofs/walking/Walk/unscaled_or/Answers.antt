use Rattle.std.proofs.Common.{sym, subst, Option, IfNone}
use Rattle.sp_dd.specs.Func.{Func}
use Rattle.sp_belief.specs.Paths.{HasNoWeight, IsUnscaled}
use Rattle.sp_belief.proofs.PathLemmas.{none_unscaled}
use Rattle.sp_belief.proofs.walking.Walk.unscaled_or.Goals as goal

pub returns-in_ok-copy-in-None-clause-value : goal.returns-in_ok-copy-in-None-clause-value
returns-in_ok-copy-in-None-clause-value c =
    let x = c.args.self.now.carried.now in
    subst (IsUnscaled x.model.now x.weights.now x.action c.args.observation) (sym c.in_ok-copy-in-None.ensures)
    (none_unscaled x.model.now c.parts.ensures.known x.weights.now x.scope c.func.ensures.known x.action c.args.observation x.known c.requires.observation c.args.none.now c.requires.none
    (subst (λ (o : Option Func). IfNone o (HasNoWeight x.model.now x.weights.now x.action c.args.observation)) c.in-None.is c.in_ok-raw.ensures.none))

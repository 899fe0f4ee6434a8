use Rattle.std.proofs.Common.{ℕ, ◌∙◌, subst}
use Rattle.std.specs.Prelude.{IsTrue, IfOk}
use Rattle.sp_backup.specs.Posteriors.{AreAlike}
use Rattle.sp_backup.proofs.posteriors.rules_out.Goals as goal

pub are_alike-alike-requires-clause-scope : goal.are_alike-alike-requires-clause-scope
are_alike-alike-requires-clause-scope c = c.args.carried.now.scope ∙ c.parts.ensures.known.scope

pub returns-clause-alike : goal.returns-clause-alike
returns-clause-alike c =
    let x = c.args.carried.now in
    subst (λ (o : ℕ). IfOk c.are_alike-alike.result (λ b. IsTrue b → AreAlike x.model.now x.weights.now x.action o)) c.in_ok-ends.ensures.joint
    (subst (λ (a : ℕ). IfOk c.are_alike-alike.result (λ b. IsTrue b → AreAlike x.model.now x.weights.now a c.in_ok-ends.ends.low.joint)) c.in_ok-ends.ensures.action c.are_alike-alike.ensures)

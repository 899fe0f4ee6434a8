use Rattle.std.proofs.Common.{◌≡◌, ap, arith, length, subst}
use Rattle.sp_model.specs.declared.parts.Parts.{Parts}
use Rattle.sp_model.specs.Problem.{sight_of}
use Rattle.sp_model.proofs.RowLaw.{sight_total, sight_is}
use Rattle.sp_model.proofs.factored.Model.sight.Goals as goal

pub at-requires-2 : goal.at-requires-2
at-requires-2 c =
    let total = sight_total c.self.inside.parts c.self.invariant.model c.args.action _ c.at.ensures in
    omega (arith, total, ap (λ (p : Parts). length p.sights) c.self.view_is, c.requires.variable)

pub returns : goal.returns
returns c =
    let P : Parts → Type 0 = λ p. c.at-2.result.now ≡ sight_of p c.args.action c.args.variable in
    subst P c.self.view_is (sight_is c.self.inside.parts c.args.action c.args.variable _ _ c.at.ensures c.at-2.ensures)

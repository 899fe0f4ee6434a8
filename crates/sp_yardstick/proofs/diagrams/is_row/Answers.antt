use Rattle.std.proofs.Common.{arith, rules}
use Rattle.std.specs.Prelude.{FitsSigned}
use Rattle.std.specs.Int.{w128}
use Rattle.std.proofs.lemmas.Bool.{false≢true, iff_false}
use Rattle.std.proofs.lemmas.Int.{ints, to_z-of_z}
use Rattle.sp_table.proofs.RowLemmas.{row_small}
use Rattle.sp_yardstick.proofs.RowGuards.{row_yes, row_whole, row_positive}
use Rattle.sp_yardstick.proofs.diagrams.is_row.Goals as goal

pub returns-then-least-lt0 : goal.returns-then-least-lt0
returns-then-least-lt0 c =
    let fits : FitsSigned w128 c.least.result = search rules in
    (λ h. absurd (false≢true h), λ row. absurd (row_positive c.args.p.now c.args.slot c.least.result c.requires c.least.ensures (omega (arith, ints, to_z-of_z w128 _ fits, c.if-least-lt0.true)) row))

pub returns-then-not-is_within : goal.returns-then-not-is_within
returns-then-not-is_within c = (λ h. absurd (false≢true h), λ row. absurd (iff_false c.is_within.ensures c.if-not-is_within.true (row_small c.args.p.now c.args.slot c.requires row)))

pub returns : goal.returns
returns c =
    let fits : FitsSigned w128 c.least.result = search rules in (
      λ yes. row_yes c.args.p.now c.args.slot c.least.result c.scope.ensures.known c.least.ensures (omega (arith, ints, to_z-of_z w128 _ fits, c.if-least-lt0.false)) (c.in_ok-whole.ensures.0 yes),
      λ row. c.in_ok-whole.ensures.1 (row_whole c.args.p.now c.args.slot c.scope.ensures.known row),
    )

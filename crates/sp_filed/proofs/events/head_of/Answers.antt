use Rattle.std.proofs.Common.{sym}
use Rattle.sp_lines.specs.Lines.{BeginsSpaced}
use Rattle.std.proofs.Common.{subst}
use Rattle.sp_lines.proofs.Spaces.{pair_told}
use Rattle.sp_filed.proofs.events.head_of.Goals as goal

pub returns-in-None : goal.returns-in-None
returns-in-None c = λ k e a rest begins.
    let same = pair_told c.args.text.now c.in_ok-belief.belief c.in_ok-belief.base c.in_ok-belief.middle.now k e begins.middle c.in_ok-belief.ensures begins.pair in
    c.in-None.ensures a rest (subst (λ l. BeginsSpaced l a rest) (sym same.2) begins.third)

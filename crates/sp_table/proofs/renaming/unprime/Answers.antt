use Rattle.std.proofs.Common.{◌*◌, ◌+◌, arith, subst, ◌≡◌, ℕ}
use Rattle.sp_dd.specs.Func.{IsIndependentOf}
use Rattle.sp_table.proofs.renaming.unprime.Goals as goal

pub renamed-requires-clause-free : goal.renamed-requires-clause-free
renamed-requires-clause-free c i less =
    let same : 2 * i ≡ 2 * i + 0 = omega arith in
    let P : ℕ → Type 0 = λ j. IsIndependentOf c.args.f.now j in
    subst P same (c.requires.not_unprimed i less)

use Rattle.std.proofs.Common.{◌≡◌, length, arith, rules}
use Rattle.std.proofs.lemmas.Grind.{common_steps}
use Rattle.sp_dd.proofs.Worded.{wide_is}
use Rattle.sp_dd.proofs.leaves.Leaves.wide_word.Goals as goal

pub returns : goal.returns
returns c =
    let y : c.index-2.result.now ≡ c.args.value = grind (arith, common_steps) in
    let n : c.len.result ≡ length c.self.inside.values.items = search rules in
    wide_is _ _ _ _ _ c.self.view_is (omega (arith, n)) c.index-2.ensures y (omega arith)

use Rattle.std.proofs.Common.{arith, ◌<◌}
use Rattle.sp_dd.proofs.Worded.{hash_with}
use Rattle.sp_dd.proofs.words.Words.mixed_with.Goals as goal

pub returns-then-is_plain : goal.returns-then-is_plain
returns-then-is_plain c =
    let l : c.index-word.result.now < 18446744073709551616 = omega arith in
    hash_with _ _ _ _ _ _ _ c.self.view_is c.requires c.index-word.ensures c.if-is_plain.ensures l c.mix.ensures

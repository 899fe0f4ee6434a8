use Rattle.std.proofs.Common.{◌≡◌, take, arith}
use Rattle.std.proofs.lemmas.Grind.{common_steps}
use Rattle.sp_dd.proofs.Worded.{parts_take}
use Rattle.sp_dd.proofs.words.Words.truncate.Goals as goal

pub returns : goal.returns
returns c =
    let e : c.truncate.new.self.items ≡ take c.args.count c.self.inside.words.items = grind (arith, common_steps) in
    parts_take _ _ _ _ _ c.self.view_is e

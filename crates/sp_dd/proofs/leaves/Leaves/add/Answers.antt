use Rattle.std.proofs.Common.{◌≡◌, ◌++◌, ◌∷◌, [], length, arith}
use Rattle.std.proofs.lemmas.Grind.{common_steps}
use Rattle.sp_dd.proofs.Worded.{wide_added}
use Rattle.sp_dd.proofs.leaves.Leaves.add.Goals as goal

pub returns : goal.returns
returns c =
    let e : c.push.new.self.items ≡ c.args.self.now ++ c.args.value ∷ [] = grind (arith, common_steps) in
    let n : c.len-place.result ≡ length c.args.self.now = grind (arith, common_steps) in
    record { ok = wide_added _ _ _ _ e n (omega arith); err = tt }

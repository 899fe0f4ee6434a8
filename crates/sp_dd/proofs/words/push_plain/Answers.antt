use Rattle.std.proofs.Common.{◌≡◌, ◌++◌, ◌∷◌, [], arith}
use Rattle.std.proofs.lemmas.Grind.{common_steps}
use Rattle.sp_dd.proofs.Doubles.{plain_of}
use Rattle.sp_dd.proofs.Worded.{parts_kept, grown_none}
use Rattle.sp_dd.proofs.words.push_plain.Goals as goal

pub returns-clause-ok : goal.returns-clause-ok
returns-clause-ok c =
    let w : c.push.new.self.items ≡ c.words.inside.words.items ++ c.args.word ∷ [] = grind (arith, common_steps) in
    parts_kept _ _ _ _ _ _ _ c.words.view_is c.words.invariant (grown_none _) w (plain_of _ _ c.requires)

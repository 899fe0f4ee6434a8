use Rattle.std.proofs.Common.{◌≡◌, ◌++◌, ◌∷◌, [], arith}
use Rattle.std.proofs.lemmas.Grind.{common_steps}
use Rattle.sp_dd.proofs.Worded.{parts_kept, grown_none, word_from}
use Rattle.sp_dd.proofs.words.Words.push_from.Goals as goal

pub returns-then-is_plain-clause-ok : goal.returns-then-is_plain-clause-ok
returns-then-is_plain-clause-ok c =
    let w : c.push.new.self.items ≡ c.self.inside.words.items ++ c.index-word.result.now ∷ [] = grind (arith, common_steps) in
    parts_kept _ _ _ _ _ _ _ c.self.view_is c.self.invariant (grown_none _) w (word_from _ _ _ _ _ _ c.other.view_is c.requires c.index-word.ensures c.if-is_plain.ensures)

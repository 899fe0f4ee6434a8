use Rattle.std.proofs.Common.{◌≡◌, ◌++◌, ◌∷◌, [], arith}
use Rattle.std.proofs.lemmas.Grind.{common_steps}
use Rattle.sp_dd.proofs.Flattened.{on_err}
use Rattle.sp_dd.proofs.Worded.{parts_kept, parts_same}
use Rattle.sp_dd.proofs.words.Words.push.Goals as goal

pub returns-in_err-map_err-clause-err : goal.returns-in_err-map_err-clause-err
returns-in_err-map_err-clause-err c =
    let w : c.push.new.self.items ≡ c.self.inside.words.items = grind (arith, common_steps) in
    on_err _ _ (parts_same _ _ _ _ _ c.self.view_is c.self.invariant c.in_ok-word.ensures.ok.0 w)

pub returns-clause-ok : goal.returns-clause-ok
returns-clause-ok c =
    let w : c.push.new.self.items ≡ c.self.inside.words.items ++ c.in_ok-word.word ∷ [] = grind (arith, common_steps) in
    parts_kept _ _ _ _ _ _ _ c.self.view_is c.self.invariant c.in_ok-word.ensures.ok.0 w c.in_ok-word.ensures.ok.1

use Rattle.std.proofs.lemmas.Bool.Decides.{Decides-eqb}
use Rattle.sp_dd.proofs.Worded.{same_words}
use Rattle.sp_dd.proofs.words.Words.same.Goals as goal

pub returns-then-is_plain-2 : goal.returns-then-is_plain-2
returns-then-is_plain-2 c =
    let one = Decides-eqb c.index-left.result.now c.index-right.result.now in
    let two = same_words _ _ _ _ _ _ _ _ _ _ c.self.view_is c.other.view_is c.requires.at c.requires.place c.index-left.ensures c.index-right.ensures c.if-is_plain.ensures c.if-is_plain-2.ensures in
    (λ t. two.0 (one.0 t), λ q. one.1 (two.1 q))

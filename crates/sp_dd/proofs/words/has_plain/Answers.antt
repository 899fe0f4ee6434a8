use Rattle.std.proofs.lemmas.Bool.Decides.{Decides-eqb}
use Rattle.sp_dd.proofs.Doubles.{plain_here}
use Rattle.sp_dd.proofs.words.has_plain.Goals as goal

pub returns-then-is_plain : goal.returns-then-is_plain
returns-then-is_plain c =
    let one = Decides-eqb c.index-here.result.now c.args.word in
    let two = plain_here _ _ _ _ _ _ c.words.view_is c.requires.at c.index-here.ensures c.if-is_plain.ensures c.requires.plain in
    (λ t. two.0 (one.0 t), λ q. one.1 (two.1 q))

use Rattle.std.proofs.Common.{◌≡◌, ◌∙◌, sym, arith, ap, to_z, of_z}
use mir.Syntax.{w128}
use Rattle.std.proofs.lemmas.Grind.{common_steps}
use Rattle.sp_dd.specs.declared.part.Part.TheVariants.{Leaf}
use Rattle.sp_dd.proofs.Worded.{word_leaf, plain_low}
use Rattle.sp_dd.proofs.leaves.part_of.Goals as goal

pub returns-then-word-ge-LEAVES : goal.returns-then-word-ge-LEAVES
returns-then-word-ge-LEAVES c =
    let e : to_z w128 (of_z w128 c.leaf_of.result) ≡ c.leaf_of.result = grind (arith, common_steps) in
    ap Leaf (e ∙ c.leaf_of.ensures) ∙ sym (word_leaf _ _ (omega arith))

pub returns : goal.returns
returns c = sym (plain_low _ _ c.requires (omega arith))

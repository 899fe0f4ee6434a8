use Rattle.std.proofs.Common.{◌≡◌, ◌∙◌, ap, arith, to_z, of_z}
use Rattle.std.proofs.lemmas.Grind.{common_steps}
use mir.Syntax.{w128}
use Rattle.sp_dd.specs.Hashes.{leaf_hash}
use Rattle.sp_dd.proofs.Indexing.{hash_of_leaf, hash_at}
use Rattle.sp_dd.proofs.mixing.mix_part.Goals as goal

pub returns-in-Leaf : goal.returns-in-Leaf
returns-in-Leaf c =
    let e : to_z w128 (of_z w128 c.in-Leaf.value) ≡ c.in-Leaf.value = grind (arith, common_steps) in
    hash_of_leaf _ _ _ _ _ c.in-Leaf.is (c.leaf_word.ensures ∙ ap leaf_hash e) c.mix.ensures

pub returns-in-At : goal.returns-in-At
returns-in-At c = hash_at _ _ _ _ c.in-At.is c.mix-in-At.ensures

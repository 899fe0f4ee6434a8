use Rattle.std.proofs.Common.{◌≡◌, ◌<◌, ◌-◌, length, get_or, pos, ◌∙◌, sym, arith, ap, to_z, of_z}
use mir.Syntax.{w128}
use Rattle.std.proofs.lemmas.Grind.{common_steps}
use Rattle.std.proofs.lemmas.List.{get_or_default}
use Rattle.sp_dd.specs.declared.part.Part.TheVariants.{Leaf}
use Rattle.sp_dd.proofs.Worded.{word_at, word_leaf, word_wide}
use Rattle.sp_dd.proofs.leaves.Leaves.part.Goals as goal

pub returns-then-word-ge-LEAVES : goal.returns-then-word-ge-LEAVES
returns-then-word-ge-LEAVES c =
    let e : to_z w128 (of_z w128 c.leaf_of.result) ≡ c.leaf_of.result = grind (arith, common_steps) in
    ap Leaf (e ∙ c.leaf_of.ensures) ∙ sym (word_leaf _ _ (omega arith))

pub returns-then-word-lt-NODES : goal.returns-then-word-lt-NODES
returns-then-word-lt-NODES c = sym (word_at _ _ (omega arith))

pub returns : goal.returns
returns c =
    let e : to_z w128 (of_z w128 c.index.result.now) ≡ c.index.result.now = grind (arith, common_steps) in
    let low : c.args.word - 4294967296 < length c.args.self.now = c.requires (omega arith) (omega arith) in
    let i : c.index.result.now ≡ get_or c.args.self.now (c.args.word - 4294967296) (pos 0) =
    c.index.ensures ∙ ap (λ l. get_or l (c.args.word - 4294967296) c.index.result.now) c.self.view_is ∙ get_or_default _ _ _ _ low in
    ap Leaf (e ∙ i) ∙ sym (word_wide _ _ (omega arith) (omega arith))

use Rattle.std.proofs.Common.{◌≡◌, ◌∙◌, arith, refl, sym, to_z, of_z}
use mir.Syntax.{w128}
use Rattle.std.proofs.lemmas.Grind.{common_steps}
use Rattle.sp_dd.proofs.Branching.{whole_leaf}
use Rattle.sp_dd.proofs.Known.{joined_more}
use Rattle.sp_dd.proofs.Doubles.{two_gathered, known_later, leaf_made, next_made}
use Rattle.sp_dd.proofs.Steps.{step_walk, next_walk}
use Rattle.sp_dd.proofs.short.+short.Goals as goal

pub walk_short-returns-clause-made : goal.walk_short-returns-clause-made
walk_short-returns-clause-made g t c =
    step_walk _ c.requires.positive _ _ refl c.requires.within _ c.requires.later _
    ∙ two_gathered _ _ _ _ _ _ _ _ _ _ (sym c.size.ensures ∙ c.if-size-ne2.false) c.in_ok-first.ensures.made c.in_ok-second.ensures.made c.in_ok-word.ensures.joined

pub walk_short-returns-clause-known : goal.walk_short-returns-clause-known
walk_short-returns-clause-known g t c = known_later (λ t. t.memo) _ _ _ _ _ (joined_more _ _ _ _ _ c.in_ok-word.ensures.joined) c.in_ok-second.ensures.known

pub short_part-returns-in-Leaf-clause-made : goal.short_part-returns-in-Leaf-clause-made
short_part-returns-in-Leaf-clause-made g t c =
    let z : to_z w128 (of_z w128 c.in-Leaf.leaf) ≡ c.in-Leaf.leaf = grind (arith, common_steps) in
    leaf_made _ _ _ _ _ (next_walk _ _ _ _ _ c.next-next.ensures.later c.next-next.ensures.value _ ∙ whole_leaf _ c.requires.positive _ c.in-Leaf.leaf c.in-Leaf.ensures.leaf _) z c.word_in.ensures.same

pub short_part-returns-in-Branch-clause-made : goal.short_part-returns-in-Branch-clause-made
short_part-returns-in-Branch-clause-made g t c =
    next_made _ _ _ _ (next_walk _ _ _ _ _ c.next-next.ensures.later c.next-next.ensures.value _) c.walk_short.ensures.made

use Rattle.std.proofs.Common.{◌∙◌, ap, arith, to_z, of_z, ◌≡◌, negsuc, pos, ◌≤ℤ◌, ◌+ℤ◌}
use mir.Syntax.{w128}
use Rattle.std.proofs.lemmas.Grind.{common_steps}
use Rattle.sp_dd.proofs.Worded.{plain_at, plain_leaf}
use Rattle.sp_dd.proofs.leaves.plain_word.Goals as goal

pub returns-then-at-lt4294967296 : goal.returns-then-at-lt4294967296
returns-then-at-lt4294967296 c = plain_at _ _ c.in-At.is (omega arith)

pub returns-then-value-lt-ZERO : goal.returns-then-value-lt-ZERO
returns-then-value-lt-ZERO c =
    let e : to_z w128 (of_z w128 c.in-Leaf.value) ≡ c.in-Leaf.value = grind (arith, common_steps) in
    let l : negsuc 9223372028264841215 ≤ℤ c.in-Leaf.value = grind (arith, common_steps) in
    plain_leaf _ _ _ c.in-Leaf.is (c.word_of.ensures ∙ ap (λ z. z +ℤ pos 9223372036854775808) e) l

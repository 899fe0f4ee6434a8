use Rattle.std.proofs.Common.{rules, ◌≡◌, ◌<◌, ◌∷◌, [], ℕ, List, length, arith, ap}
use Rattle.sp_filed.proofs.events.prune_at.Goals as goal
use Rattle.sp_lines.specs.Lines.{spaced_pairs}

some_pairs : (pairs : List (ℕ × ℕ)) (text : List ℕ) → 0 < length pairs → length text ≡ 0 → text ≡ spaced_pairs pairs → ⊥
some_pairs [] text some none e = omega (arith, some)
some_pairs ((x, y) ∷ pairs) text some none e = omega (arith, none, ap length e)

pub returns-then-is_empty : goal.returns-then-is_empty
returns-then-is_empty c = λ pairs good e. let none : length c.args.text.now ≡ 0 = search rules in some_pairs pairs c.args.text.now good.0 none e

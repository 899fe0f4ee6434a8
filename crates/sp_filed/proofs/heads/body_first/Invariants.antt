use Rattle.std.proofs.Common.{◌≡◌, ◌++◌, length, List, ℕ}
use Rattle.std.specs.List.{AllByRecursion}
use Rattle.sp_lines.specs.Lines.{lines_of}
use Rattle.sp_planfile.specs.Form.{IsModelLine}
use Rattle.sp_filed.proofs.heads.body_first.Given as goal

abbrev pub invariant-loop-line : goal.invariant-loop-line
invariant-loop-line l = (lines : List (List ℕ)) × (l.text ≡ lines_of (λ line. line) lines ++ l.rest) × AllByRecursion IsModelLine lines

abbrev pub decreases-loop-line : goal.decreases-loop-line
decreases-loop-line l = length l.rest

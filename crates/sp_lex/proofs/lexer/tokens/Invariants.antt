use Rattle.std.proofs.Common.{length, ◌-◌}
use Rattle.sp_lex.proofs.Steps.{IsReadTo}
use Rattle.sp_lex.proofs.lexer.tokens.Given as goal

abbrev pub invariant-loop-at : goal.invariant-loop-at
invariant-loop-at l = IsReadTo l.source l.list.items l.at

abbrev pub decreases-loop-at : goal.decreases-loop-at
decreases-loop-at l = length l.source - l.at

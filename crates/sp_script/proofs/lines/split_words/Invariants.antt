use Rattle.std.proofs.Common.{◌≡◌, ◌++◌, length}
use Rattle.sp_script.specs.Lines.{texts, words_of}
use Rattle.sp_script.proofs.lines.split_words.Given as goal

abbrev pub invariant-loop-rest : goal.invariant-loop-rest
invariant-loop-rest l = texts l.words.items ++ words_of l.rest ≡ words_of l.line

abbrev pub decreases-loop-rest : goal.decreases-loop-rest
decreases-loop-rest l = length l.rest

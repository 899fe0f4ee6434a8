use Rattle.std.proofs.Common.{◌≡◌, ◌++◌, suc, length}
use Rattle.sp_lines.specs.Lines.{lines_of}
use Rattle.sp_planfile.specs.Contents.{moves_of}
use Rattle.sp_planfile.specs.PlanText.{belief_line}
use Rattle.sp_filed.specs.Sampled.{AreSampledBy}
use Rattle.sp_filed.proofs.moves.beliefs_first.Given as goal

abbrev pub invariant-loop-k : goal.invariant-loop-k
invariant-loop-k l = record {
  count : length l.list ≡ suc l.k;
  read : l.text ≡ lines_of belief_line (moves_of l.list) ++ l.rest;
  sampled : AreSampledBy l.model l.sizes l.depth l.list;
}

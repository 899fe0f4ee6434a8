use Rattle.std.proofs.Common.{◌≡◌, ℕ, List}
use Rattle.sp_dd.specs.declared.part.Part.{Part}
use Rattle.sp_dd.specs.Flat.{nodes_of, ArePartsInBuffer}
use Rattle.sp_dd.proofs.nodes.count_uses_in.Given as goal

abbrev pub invariant-loop-i : goal.invariant-loop-i
invariant-loop-i l = record {
  nodes : (ps : List Part) → nodes_of ps l.heads ≡ nodes_of ps l.initial.heads;
  within : (n : ℕ) → ArePartsInBuffer n l.initial.heads → ArePartsInBuffer n l.heads;
}

use Rattle.std.proofs.Common.{◌≡◌, ◌≤◌, ◌++◌, length, take, drop}
use Rattle.sp_dd.proofs.words.Words.extend_from.Given as goal

abbrev pub invariant-loop-i : goal.invariant-loop-i
invariant-loop-i l = record {
  more : l.self ++ drop l.i l.parts ≡ l.initial.self ++ l.parts;
  room : l.count ≤ length l.self;
  kept : take l.count l.self ≡ l.initial.self;
}

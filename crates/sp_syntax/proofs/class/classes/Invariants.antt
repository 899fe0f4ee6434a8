-- The tokens so far have their classes.
use Rattle.std.proofs.Common.{◌≡◌, map, take}
use Rattle.sp_syntax.specs.Classes.{with_class}
use Rattle.sp_syntax.proofs.class.classes.Given as goal

abbrev pub invariant-loop-place : goal.invariant-loop-place
invariant-loop-place l = l.list.items ≡ map (with_class l.source) (take l.place l.tokens)

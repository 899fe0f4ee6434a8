use Rattle.std.proofs.Common.{◌≡◌, ◌++◌, take}
use Rattle.sp_model.specs.Problem.{sizes_of}
use Rattle.sp_checks.proofs.reading.push_once.Given as goal

abbrev pub invariant-loop-decl : goal.invariant-loop-decl
invariant-loop-decl l = l.sizes ≡ l.initial.sizes ++ sizes_of (take l.decl-index l.decls)

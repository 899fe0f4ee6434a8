use Rattle.std.proofs.Common.{◌≡◌, ◌++◌, take}
use Rattle.sp_model.specs.Problem.{twice_each, sizes_of}
use Rattle.sp_checks.proofs.reading.push_twice.Given as goal

abbrev pub invariant-loop-decl : goal.invariant-loop-decl
invariant-loop-decl l = l.sizes ≡ l.initial.sizes ++ twice_each (sizes_of (take l.decl-index l.decls))

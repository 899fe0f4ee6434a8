use Rattle.std.proofs.Common.{◌≡◌, ◌*◌, drop}
use Rattle.sp_theory.specs.Points.{count_of}
use Rattle.sp_model.specs.Problem.{sizes_of}
use Rattle.sp_model.proofs.counting.point_count.Given as goal

abbrev pub invariant-loop-decl : goal.invariant-loop-decl
invariant-loop-decl l = l.count * count_of (drop l.decl-index (sizes_of l.decls)) ≡ count_of (sizes_of l.decls)

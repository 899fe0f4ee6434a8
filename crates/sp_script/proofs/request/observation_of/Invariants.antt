use Rattle.std.proofs.Common.{◌≡◌, ◌+◌, ◌*◌, ◌≤◌, drop}
use Rattle.sp_theory.specs.Points.{count_of}
use Rattle.sp_model.specs.Problem.{sizes_of}
use Rattle.sp_script.specs.Lines.{texts}
use Rattle.sp_script.specs.Requests.{observation_from}
use Rattle.sp_script.proofs.request.observation_of.Given as goal

abbrev pub invariant-loop-variable : goal.invariant-loop-variable
invariant-loop-variable l = record {
  fits : (l.number + 1) * count_of (drop l.variable (sizes_of l.sights)) ≤ count_of (sizes_of l.sights);
  rest : observation_from l.number (drop l.variable l.sights) (drop l.variable (texts l.values)) ≡ observation_from 0 l.sights (texts l.values);
}

use Rattle.std.proofs.Common.{◌≡◌, arith, ap, subst}
use Rattle.sp_model.specs.Problem.{shape_of}
use Rattle.sp_value.specs.Tasks.{TaskParts}
use Rattle.sp_value.proofs.Vectors.{sampled_shape}
use Rattle.sp_value.proofs.tasks.Task.weights.Goals as goal

pub returns-clause-shape : goal.returns-clause-shape
returns-clause-shape c =
    let same = ap (λ (t : TaskParts). t.options.beliefs) c.self.view_is in
    subst (λ (t : TaskParts). c.weights.result.now.shape ≡ shape_of t.model) c.self.view_is (sampled_shape _ c.self.invariant c.args.belief (omega arith) _ c.weights.ensures)

use Rattle.sp_theory.specs.Values.{dot}
use Rattle.sp_model.specs.Problem.{problem}
use Rattle.sp_model.specs.Links.{weights_of}
use Rattle.sp_value.proofs.BestMember.{IsBestOf}
use Rattle.sp_value.proofs.editions.Edition.greatest_place.Given as goal

abbrev pub invariant-loop-k : goal.invariant-loop-k
invariant-loop-k l = IsBestOf l.self (λ x. dot (problem l.self.task.model) (weights_of l.self.task.model l.weights) x.vector) l.place l.k l.most

-- Functions of slots as vectors and weights of states.
use Rattle.std.specs.Prelude.{◌≡◌, unsigned_abs, pos, ◌≤ℤ◌}
use Rattle.sp_dd.specs.Func.{Func, Everywhere}
use Rattle.sp_dd.specs.Operations.{state_dot}
use Rattle.sp_theory.specs.Values as values
use Rattle.sp_theory.specs.Samples as samples
use Rattle.sp_model.specs.declared.beliefs.Sample.{Sample}
use Rattle.sp_model.specs.declared.parts.Parts.{Parts}
use Rattle.sp_model.specs.Problem.{shape_of, vector_of, problem}
use Rattle.sp_model.specs.Kept.{IsModel}

-- a function of the state that is nowhere negative as weights
abbrev pub weights_of : Parts → Func → values.Weights
weights_of p w state = unsigned_abs (vector_of p w state)

-- a sampled belief, as the theory has it
abbrev pub sample_of : Parts → Sample → samples.Sample
sample_of p x = record { action = x.action; observation = x.observation; weights = weights_of p x.weights }

-- the sum over all states of a product is the value of the vector at the weights
abbrev pub DotsAreTheSame : Type 0
DotsAreTheSame = (p : Parts) → IsModel p → (w f : Func) → w.shape ≡ shape_of p → f.shape ≡ shape_of p → Everywhere w (λ v. pos 0 ≤ℤ v)
    → state_dot w f ≡ values.dot (problem p) (weights_of p w) (vector_of p f)

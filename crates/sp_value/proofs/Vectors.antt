-- The range and the value of value vectors.
use Rattle.std.proofs.Common.{◌≡◌, ℕ, ◌^◌, ◌<◌, ◌≤◌, sym, ap, ◌∙◌, subst, arith, List, length, get_or, map, Some}
use Rattle.std.specs.Prelude.{pos, ◌≤ℤ◌, unsigned_abs, slice_get}
use Rattle.std.proofs.lemmas.List.{get_or-map}
use Rattle.std.proofs.lemmas.Option.{get_or_from_slice_get}
use Rattle.std.proofs.lemmas.Int.{ints}
use Rattle.std.proofs.lemmas.List.Elements.{All-get_or}
use Rattle.sp_dd.specs.Func.{Func, Everywhere}
use Rattle.sp_dd.specs.Operations.{state_dot}
use Rattle.sp_theory.specs.Points.{IsPoint}
use Rattle.sp_theory.specs.Model.{least_return, top}
use Rattle.sp_theory.specs.Values as values
use Rattle.sp_model.specs.declared.parts.Parts.{Parts}
use Rattle.sp_model.specs.declared.beliefs.Sample.{Sample}
use Rattle.sp_model.specs.Problem.{sizes_of, shape_of, vector_of, problem}
use Rattle.sp_model.specs.Kept.{IsModel}
use Rattle.sp_model.specs.Links.{weights_of}
use Rattle.sp_model.proofs.Bounds.{least_return_from, top_to}
use Rattle.sp_model.proofs.InitialLaw.{point_at}
use Rattle.sp_model.proofs.LinkLemmas.{state_dot-dot}
use Rattle.sp_value.specs.declared.editions.Member.{Member}
use Rattle.sp_value.specs.Tasks.{TaskParts, no_sample, sampled_func, IsTask}
use Rattle.sp_value.specs.Editions.{EditionParts, IsVector, IsMemberOf, IsEdition, no_member, member_sum}

-- a value vector is small
pub vector_small : (p : Parts) → IsModel p → (f : Func) → IsVector p f → Everywhere f (λ v. unsigned_abs v ≤ 10 ^ 18)
vector_small p known f is x at =
    let low = is.from_least x at in
    let high = is.to_top x at in
    let least = least_return_from p known in
    let most = top_to p known in
    omega (arith, ints, low, high, least, most)

-- at each state it is between the least return and the top
pub vector_range : (p : Parts) → IsModel p → (f : Func) → IsVector p f → (s : List ℕ) → IsPoint (sizes_of p.variables) s → (least_return (problem p) ≤ℤ vector_of p f s) × (vector_of p f s ≤ℤ top (problem p))
vector_range p known f is s at = let here = point_at p known f is.shape s at in (is.from_least _ here, is.to_top _ here)

-- the vector of a member
pub member_at : (e : EditionParts) → IsEdition e → (k : ℕ) → k < length e.members → IsMemberOf e.task.model (get_or e.members k no_member)
member_at e is k less = All-get_or (IsMemberOf e.task.model) e.members k no_member less is.members

-- the weights of a sampled belief
pub sampled_is : (t : TaskParts) (k : ℕ) (w : Func) → slice_get (map (λ (s : Sample). s.weights) t.samples.list) k ≡ Some w → k < length t.samples.list → w ≡ sampled_func t k
sampled_is t k w at less = sym (get_or_from_slice_get (map (λ (s : Sample). s.weights) t.samples.list) k w w at) ∙ get_or-map (λ (s : Sample). s.weights) t.samples.list k no_sample w less

-- they are on the model's scope
pub sampled_shape : (t : TaskParts) → IsTask t → (k : ℕ) → k < t.options.beliefs → (w : Func) → slice_get (map (λ (s : Sample). s.weights) t.samples.list) k ≡ Some w → w.shape ≡ shape_of t.model
sampled_shape t is k less w at =
    let count = is.count in
    ap (λ (f : Func). f.shape) (sampled_is t k w at (omega arith)) ∙ All-get_or (λ (s : Sample). s.weights.shape ≡ shape_of t.model) t.samples.list k no_sample (omega arith) is.scopes

-- the sum that a member gives at weights
pub dot_is : (p : Parts) → IsModel p → (w f : Func) → w.shape ≡ shape_of p → IsVector p f → Everywhere w (λ v. pos 0 ≤ℤ v) → state_dot w f ≡ values.dot (problem p) (weights_of p w) (vector_of p f)
dot_is p known w f shape is low = state_dot-dot p known w f shape is.shape low

-- the value vector of a member that was read
pub vector_at : (e : EditionParts) → IsEdition e → (members : List Member) → members ≡ e.members → (k : ℕ) → k < length e.members → (x : Member) → slice_get members k ≡ Some x → IsVector e.task.model x.vector
vector_at e is members same k less x at =
    subst (λ (y : Member). IsVector e.task.model y.vector) (ap (λ (xs : List Member). get_or xs k no_member) (sym same) ∙ get_or_from_slice_get members k x no_member at) ((member_at e is k less).vector)

pub sum_is : (e : EditionParts) → IsEdition e → (members : List Member) → members ≡ e.members → (k : ℕ) → k < length e.members → (x : Member) → slice_get members k ≡ Some x
    → (w : Func) → w.shape ≡ shape_of e.task.model → Everywhere w (λ v. pos 0 ≤ℤ v) → state_dot w x.vector ≡ member_sum e (weights_of e.task.model w) k
sum_is e is members same k less x at w shape low =
    dot_is e.task.model is.task.model w x.vector shape (vector_at e is members same k less x at) low
    ∙ ap (λ (y : Member). values.dot (problem e.task.model) (weights_of e.task.model w) (vector_of e.task.model y.vector)) (sym (ap (λ (xs : List Member). get_or xs k no_member) (sym same) ∙ get_or_from_slice_get members k x no_member at))

-- Sums and products, tree by tree.
use Rattle.std.proofs.Common.{◌≡◌, ℕ, suc, ◌+◌, ◌<◌, ◌≤◌, List, [], ◌∷◌, length, drop, get_or, Option, Some, None, refl, sym, ap, ◌∙◌, subst, arith, add-one, drop-cons, drop_of_length-le}
use Rattle.std.specs.Prelude.{Result, Ok, Err, IfOk, IfSome, MatchOption, if◌then◌else◌, All}
use Rattle.sp_dd.specs.Func.{Shape, Func, IsScope}
use Rattle.sp_dd.specs.Operations.{product_floor, HasPartialTick, IsProductWhole}
use Rattle.sp_trees.specs.declared.refusal.Refusal.{Refusal}
use Rattle.sp_trees.specs.declared.refusal.ModelKind.TheVariants as kind
use Rattle.sp_trees.specs.declared.judged.Judged.{Judged}
use Rattle.sp_trees.specs.declared.lists.Op.{Op}
use Rattle.sp_trees.specs.declared.lists.Op.TheVariants as op
use Rattle.sp_trees.specs.Lists.{partial_within_limit, result_of_operation, result_of_step, step, then_more, steps}
use Rattle.sp_trees.specs.Good.{IsFit, IsGood, IfGood}
use Rattle.sp_trees.specs.declared.slots.Slots.{Slots}
use Rattle.sp_trees.proofs.ConditionLemmas.{whole_true, whole_false}
use Rattle.sp_trees.proofs.GoodLemmas.{joined_fit}

-- ---- one product

pub product_some : (f g p : Func) (answer : Option Func) (o : Op) → IsScope f.shape → o ≡ op.Product
    → MatchOption answer (HasPartialTick f g) (λ r. IsProductWhole f g × (r ≡ product_floor f g)) → answer ≡ Some p → partial_within_limit p ≡ result_of_operation o f g
product_some f g p None o c e h n = cc
product_some f g p (Some q) o c e h n =
    let same : p ≡ product_floor f g = cc in
    ap partial_within_limit same ∙ sym (ap (λ a. result_of_operation a f g) e ∙ ap (λ b. if b then partial_within_limit (product_floor f g) else Err kind.TooFine) (whole_true f g c h.0))

pub product_none : (f g : Func) (answer : Option Func) (o : Op) → IsScope f.shape → o ≡ op.Product
    → MatchOption answer (HasPartialTick f g) (λ r. IsProductWhole f g × (r ≡ product_floor f g)) → answer ≡ None → Err kind.TooFine ≡ result_of_operation o f g
product_none f g (Some q) o c e h n = cc
product_none f g None o c e h n = sym (ap (λ a. result_of_operation a f g) e ∙ ap (λ b. if b then partial_within_limit (product_floor f g) else Err kind.TooFine) (whole_false f g c h))

-- ---- the loop

module _ (o : Op) (at : ℕ) (s : Option Func) (js : List Judged) (i : ℕ) where
  turn : (d : Judged) → i < length js → steps o at s (drop i js) ≡ then_more (step o at s (get_or js i d).outcome) (λ f. steps o at (Some f) (drop (i + 1) js))
  unfolding steps
  turn d h = ap (steps o at s) (let e : drop i js ≡ get_or js i d ∷ drop (i + 1) js = rw (add-one, drop-cons js i d) refl in e)

  pub turn_ok : (d : Judged) (r : Result Func Refusal) (f : Func) → i < length js → r ≡ step o at s (get_or js i d).outcome → r ≡ Ok f
      → steps o at (Some f) (drop (i + 1) js) ≡ steps o at s (drop i js)
  turn_ok d r f h e q = sym (turn d h ∙ ap (λ x. then_more x (λ f. steps o at (Some f) (drop (i + 1) js))) (sym e ∙ q))

  pub turn_err : (d : Judged) (r : Result Func Refusal) (x : Refusal) → i < length js → r ≡ step o at s (get_or js i d).outcome → r ≡ Err x
      → steps o at s (drop i js) ≡ Err x
  turn_err d r x h e q = turn d h ∙ ap (λ x. then_more x (λ f. steps o at (Some f) (drop (i + 1) js))) (sym e ∙ q)

  pub turns_over : length js ≤ i → steps o at s (drop i js) ≡ Ok s
  unfolding steps
  turns_over h = ap (steps o at s) (drop_of_length-le js h)

-- ---- what all functions keep

module _ (P : Func → Type 0) (o : Op) (at : ℕ) (keeps : (f g : Func) → P f → P g → IfOk (result_of_step o at f g) P) where
  pub step_keeps : (s : Option Func) (r : Result Func Refusal) → IfSome s P → IfOk r P → IfOk (step o at s r) P
  step_keeps None (Ok g) h k = k
  step_keeps None (Err e) h k = tt
  step_keeps (Some f) (Ok g) h k = keeps f g h k
  step_keeps (Some f) (Err e) h k = tt

  abbrev pub Kept : Result (Option Func) Refusal → Type 0
  Kept r = IfOk r (λ s. IfSome s P)

  pub steps_keep : (s : Option Func) (js : List Judged) → IfSome s P → All (λ j. IfOk j.outcome P) js → Kept (steps o at s js)
  unfolding steps
  steps_keep s [] h k = h
  steps_keep s (j ∷ js) h k = go (step o at s j.outcome) (step_keeps s j.outcome h (k 0 j (omega arith))) (λ f p. steps_keep (Some f) js p (λ i d l. k (suc i) d (omega arith)))
    where
      go : (r : Result Func Refusal) → IfOk r P → ((f : Func) → P f → Kept (steps o at (Some f) js)) → Kept (then_more r (λ f. steps o at (Some f) js))
      go (Ok f) p more = more f p
      go (Err e) p more = tt

-- ---- a partial result fits

fit_of : (s : Shape) (m : Slots) (r : Result Func Refusal) → IfOk r (IsGood s m) → IfOk r (IsFit s)
fit_of s m (Ok f) h = h.fit
fit_of s m (Err e) h = tt

pub fit_next : (s : Shape) (o : Op) (at : ℕ) (so_far : Option Func) (j : Judged) (r : Result Func Refusal) (f : Func) → IsScope s → IfSome so_far (IsFit s) → IfGood s j
    → r ≡ step o at so_far j.outcome → r ≡ Ok f → IsFit s f
fit_next s o at so_far j r f c h k e q =
    subst (λ x. IfOk x (IsFit s)) (sym e ∙ q) (step_keeps (IsFit s) o at (joined_fit s o at c) so_far j.outcome h (fit_of s j.mentions j.outcome k))

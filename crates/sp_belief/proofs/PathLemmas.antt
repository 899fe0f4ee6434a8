-- Paths of thinned weights.
use Rattle.std.proofs.Common.{◌≡◌, ℕ, zero, suc, ◌+◌, ◌<◌, ◌≤◌, refl, sym, ◌∙◌, ap, subst, arith, List, [], ◌∷◌, ◌++◌, length, get_or, take}
use Rattle.std.specs.Prelude.{ℤ, pos, unsigned_abs}
use Rattle.std.proofs.lemmas.Int.{ints}
use Rattle.std.proofs.lemmas.List.{get_or-take, get_or_append_left}
use Rattle.sp_dd.specs.Func.{Func, Everywhere}
use Rattle.sp_dd.specs.Operations.{everywhere}
use Rattle.sp_theory.specs.Sums.{times, floor}
use Rattle.sp_theory.specs.Points as theory
use Rattle.sp_theory.specs.Draws.{q, Draws, after, thinned}
use Rattle.sp_theory.specs.Values as values
use Rattle.sp_theory.specs.Beliefs.{moved}
use Rattle.sp_theory.specs.Samples.{total_seen}
use Rattle.sp_theory.proofs.Whole.{times-zero, floor-times}
use Rattle.sp_theory.proofs.Weighing.{q_pos}
use Rattle.sp_theory.proofs.Numbers.{point_of-point}
use Rattle.sp_theory.proofs.Backups.{sum_over-zero}
use Rattle.sp_theory.proofs.Updates.{unscaled_next-is}
use Rattle.sp_model.specs.declared.parts.Parts.{Parts}
use Rattle.sp_model.specs.Problem.{sizes_of, in_turn, problem}
use Rattle.sp_model.specs.Kept.{IsModel}
use Rattle.sp_model.specs.Links.{weights_of}
use Rattle.sp_model.specs.Weights.{AreWeights}
use Rattle.sp_model.proofs.RowLaw.{problem_lawful}
use Rattle.sp_belief.specs.declared.walking.Step.{Step}
use Rattle.sp_belief.specs.Transfers.{HasWeights, IsOfNext, AreWeightValues}
use Rattle.sp_belief.specs.Updates.{unscaled_after, total_after}
use Rattle.sp_belief.specs.Progress.{IsCarried, IsThinned}
use Rattle.sp_belief.specs.Paths.{no_step, func_after, IsPath, LeadsTo, HasNoWeight, IsZero, IsUnscaled}
use Rattle.sp_belief.proofs.Appended.{each_pushed, count_pushed}
use Rattle.sp_belief.proofs.CarryLemmas.{length-take-le}
use Rattle.sp_belief.proofs.SeenLemmas.{IsSeen, seen_begin, seen_next, next_everywhere}
use Rattle.sp_belief.proofs.SlotLemmas.{at_point, point_in, everywhere_from, made-value}
use Rattle.sp_belief.proofs.ScaleLemmas.{total_low, next_few}
use Rattle.sp_belief.proofs.WeightLemmas.{total_same}

-- ---- weights that are zero stay zero
thinned-zero : (draws : Draws) (xs : List ℕ) → thinned draws xs (pos 0) ≡ pos 0
unfolding thinned
thinned-zero draws [] = refl
thinned-zero draws (x ∷ xs) =
    ap (thinned (after x draws) xs) (ap (λ (z : ℤ). floor z q) (times-zero (draws [] x) ∙ sym (times-zero q)) ∙ floor-times q (pos 0) q_pos)
    ∙ thinned-zero (after x draws) xs

thinned-gone : (draws : Draws) (xs : List ℕ) (j : ℕ) (z : ℤ) → thinned draws (take j xs) z ≡ pos 0 → thinned draws xs z ≡ pos 0
unfolding thinned
thinned-gone draws [] zero z e = e
thinned-gone draws [] (suc j) z e = e
thinned-gone draws (x ∷ xs) zero z e = ap (thinned draws (x ∷ xs)) e ∙ thinned-zero draws (x ∷ xs)
thinned-gone draws (x ∷ xs) (suc j) z e = thinned-gone (after x draws) xs j (floor (times (draws [] x) z) q) e

-- ---- a path cut, and one with a step more
func_after-take : (f : Func) (path : List Step) (n k : ℕ) → k ≤ n → func_after f (take n path) k ≡ func_after f path k
func_after-take f path n zero h = refl
func_after-take f path n (suc k) h = ap (λ (x : Step). x.func) (get_or-take n path k no_step (omega arith))

func_after-push : (f : Func) (path : List Step) (x : Step) (k : ℕ) → k ≤ length path → func_after f (path ++ x ∷ []) k ≡ func_after f path k
func_after-push f path x zero h = refl
func_after-push f path x (suc k) h = ap (λ (x : Step). x.func) (get_or_append_left path (x ∷ []) no_step k (omega arith))

module _ (p : Parts) (a : ℕ) (f : Func) where
  abbrev IsStepOf : List Step → ℕ → Step → Type 0
  IsStepOf path k x = IsThinned p a k x.value (func_after f path k) x.func

  pub path_begin : (path : List Step) → path ≡ [] → IsPath p a f path
  path_begin path none = subst (IsPath p a f) (sym none) (record { within = omega arith; each = λ k less. absurd (omega arith) })

  pub path_cut : (path cut : List Step) (n : ℕ) → n ≤ length path → cut ≡ take n path → IsPath p a f path → IsPath p a f cut
  path_cut path cut n less is_cut is = subst (IsPath p a f) (sym is_cut) (record {
    within = (let c = length-take-le n path less in let w = is.within in omega (arith, c, w, less));
    each = λ k within.
        let c = length-take-le n path less in
        let early : k < n = omega (arith, c, within) in
        subst (λ (x : Step). IsStepOf (take n path) k x) (sym (get_or-take n path k no_step early))
        (subst (λ (g : Func). IsThinned p a k (get_or path k no_step).value g (get_or path k no_step).func) (sym (func_after-take f path n k (omega (arith, early)))) (is.each k (omega (arith, early, less))));
  })

  pub path_more : (path more : List Step) (x : Step) → length path < length p.sights → IsPath p a f path → IsThinned p a (length path) x.value (func_after f path (length path)) x.func → more ≡ path ++ x ∷ [] → IsPath p a f more
  path_more path more x less is thins pushed = record {
    within = (let c = count_pushed (length path) path more x refl pushed in omega (arith, c, less));
    each = λ k within.
        let c = count_pushed (length path) path more x refl pushed in
        subst (λ (g : Func). IsThinned p a k (get_or more k no_step).value g (get_or more k no_step).func) (sym (ap (λ (l : List Step). func_after f l k) pushed ∙ func_after-push f path x k (omega (arith, c, within))))
        (each_pushed (λ k y. IsStepOf path k y) no_step (length path) path more x refl is.each thins pushed k (omega (arith, c, within)));
  }

pub leads_cut : (p : Parts) (path cut : List Step) (o n : ℕ) → n ≤ length path → cut ≡ take n path → ((k : ℕ) → k < n → (get_or path k no_step).value ≡ get_or (theory.point_of (sizes_of p.sights) o) k 0) → LeadsTo p cut o n
leads_cut p path cut o n less is_cut same = subst (λ (l : List Step). LeadsTo p l o n) (sym is_cut) (record {
  count = length-take-le n path less;
  values = λ k early. ap (λ (x : Step). x.value) (get_or-take n path k no_step early) ∙ same k early;
})

pub leads_more : (p : Parts) (path more : List Step) (x : Step) (o n : ℕ) → LeadsTo p path o n → x.value ≡ get_or (theory.point_of (sizes_of p.sights) o) n 0 → more ≡ path ++ x ∷ [] → LeadsTo p more o (n + 1)
leads_more p path more x o n is same pushed = record {
  count = count_pushed n path more x is.count pushed;
  values = each_pushed (λ k (y : Step). y.value ≡ get_or (theory.point_of (sizes_of p.sights) o) k 0) no_step n path more x is.count is.values same pushed;
}

-- ---- where a path leads
module _ (p : Parts) (known : IsModel p) (w : Func) (a : ℕ) (act : a < length p.actions) (f : Func) (carried : IsCarried p w a f) (path : List Step) (is : IsPath p a f path) where
  pub after_next : (k : ℕ) → k ≤ length path → IsOfNext p (func_after f path k)
  after_next zero h = carried.next
  after_next (suc k) h = (is.each k (omega arith)).next

  pub after_small : (k : ℕ) → k ≤ length path → AreWeightValues (func_after f path k)
  after_small zero h = carried.small
  after_small (suc k) h = (is.each k (omega arith)).small

  module _ (o : ℕ) (less : o < theory.count_of (sizes_of p.sights)) where
    pub path_seen : (n : ℕ) → LeadsTo p path o n → (k : ℕ) → k ≤ n → IsSeen p w a o k (func_after f path k)
    path_seen n leads zero h = seen_begin p known a act w o less f carried
    path_seen n leads (suc k) h =
        let count = leads.count in
        let within = is.within in
        subst (λ (i : ℕ). IsSeen p w a o i (func_after f path (suc k))) (let e : k + 1 ≡ suc k = omega arith in e)
        (seen_next p known a act w o less k (omega (arith, count, within)) (get_or path k no_step).value (func_after f path k) (func_after f path (suc k)) (path_seen n leads k (omega arith)) (leads.values k (omega arith)) (is.each k (omega (arith, count))))

    pub seen_none : (k : ℕ) (g : Func) → IsSeen p w a o k g → Everywhere g (λ v. v ≡ pos 0) → HasNoWeight p w a o
    unfolding problem
    seen_none k g seen none s at =
        let zero_here = next_everywhere p known a act g seen.next (λ v. v ≡ pos 0) none s at in
        let gone = thinned-gone ((problem p).sights a s) (theory.point_of (problem p).sight_sizes o) k (moved (problem p) (weights_of p w) a s) (sym (seen.value s at) ∙ zero_here) in
        let is = unscaled_next-is (problem p) (problem_lawful p known) (weights_of p w) a act (theory.point_of (problem p).sight_sizes o) (point_of-point (sizes_of p.sights) o less) s at ∙ gone in
        omega (arith, ints, is)

    pub none_left : (n : ℕ) (g : Func) → LeadsTo p path o n → g ≡ func_after f path (length path) → Everywhere g (λ v. v ≡ pos 0) → HasNoWeight p w a o
    none_left n g leads is_end none =
        let count = leads.count in
        let seen = subst (IsSeen p w a o n) (ap (func_after f path) (sym count) ∙ sym is_end) (path_seen n leads n (omega arith)) in
        seen_none n g seen none

    pub end_seen : (n : ℕ) (g : Func) → LeadsTo p path o n → g ≡ func_after f path (length path) → IsSeen p w a o n g
    end_seen n g leads is_end =
        let count = leads.count in
        subst (IsSeen p w a o n) (ap (func_after f path) (sym count) ∙ sym is_end) (path_seen n leads n (omega arith))

-- ---- no weight at all
pub none-total : (p : Parts) (w : Func) (a o : ℕ) → HasNoWeight p w a o → total_after p w a o ≡ 0
unfolding total_seen problem values.dot theory.sum_over
none-total p w a o none = total_same (problem p) (unscaled_after p w a o) (λ s. 0) none ∙ ap unsigned_abs (sum_over-zero (sizes_of p.variables))

pub none_unscaled : (p : Parts) (known : IsModel p) (w : Func) → w.shape ≡ p.scope → AreWeights w → (a o : ℕ) → a < length p.actions → o < theory.count_of (sizes_of p.sights) → (r : Func) → IsZero p r → HasNoWeight p w a o → IsUnscaled p w a o r
none_unscaled p known w scope are a o act less r is none =
    let has : HasWeights p r (unscaled_after p w a o) = record {
      shape = is.shape;
      same = λ s t z at to sees. is.zero _ (point_in p known r is.shape s t z at to sees) ∙ ap pos (sym (none s at));
    } in
    record {
      has = has;
      small = λ x at. let e = is.zero x at in (omega (arith, ints, e), omega (arith, ints, e));
      few = total_low p known r (unscaled_after p w a o) has (next_few p w a o known scope are act less);
    }

pub zero_is : (p : Parts) → IsModel p → IsZero p (everywhere p.scope (pos 0))
zero_is p known = record {
  shape = known.scope;
  zero = everywhere_from p known (everywhere p.scope (pos 0)) known.scope (λ v. v ≡ pos 0) (λ s t z at to sees. made-value p known p.scope (λ x. pos 0) known.scope (in_turn s t ++ z) (at_point p known s t z at to sees));
}

-- The posteriors of an action, one joint observation after another.
use Rattle.std.proofs.Common.{◌≡◌, ℕ, Bool, Option, ◌+◌, ◌^◌, ◌<◌, ◌≤◌, ⊎_elim, sym, subst, arith, List, [], ◌∷◌, ◌++◌, get_or, length-append}
use Rattle.std.proofs.lemmas.Bool.{cases_lt}
use Rattle.std.specs.Prelude.{pos, ◌≤ℤ◌, IsTrue}
use Rattle.sp_dd.specs.Func.{Func}
use Rattle.sp_dd.specs.Operations.{state_total}
use Rattle.sp_model.specs.declared.parts.Parts.{Parts}
use Rattle.sp_backup.specs.declared.posteriors.Posterior.{Posterior}
use Rattle.sp_belief.specs.Transfers.{HasWeights}
use Rattle.sp_belief.specs.Updates.{unscaled_after}
use Rattle.sp_belief.specs.Paths.{IsUnscaled}
use Rattle.sp_backup.specs.MemberTables.{IsNothingOr}
use Rattle.sp_backup.specs.Posteriors.{AreAlike, IsPosterior, ArePosteriors, no_posterior}
use Rattle.sp_backup.proofs.SeenWeighed.{at_front, at_last}

pub posteriors_push : (p : Parts) (w : Func) (a n k : ℕ) (xs ys : List Posterior) (x : Posterior) → k ≡ n + 1 → ArePosteriors p w a n xs → IsPosterior p w a n x → ys ≡ xs ++ x ∷ [] → ArePosteriors p w a k ys
posteriors_push p w a n k xs ys x more before is pushed = subst (ArePosteriors p w a k) (sym pushed) (record {
  count = (let c = before.count in omega (arith, length-append xs (x ∷ []), c, more));
  each = λ o less. (let c = before.count in ⊎_elim (λ (early : o < n). subst (IsPosterior p w a o) (sym (at_front xs x no_posterior o (omega arith))) (before.each o early))
      (λ (late : n ≤ o). let here : n ≡ o = omega arith in subst (λ (m : ℕ). IsPosterior p w a m (get_or (xs ++ x ∷ []) o no_posterior)) here (subst (IsPosterior p w a n) (sym (at_last xs x no_posterior o (omega arith))) is))
      (cases_lt o n));
})

-- a posterior of the next weights before scaling
pub posterior_is : (p : Parts) (w : Func) (a o : ℕ) (raw copy : Func) (list : Option Func) (alike : Bool) → IsUnscaled p w a o raw → copy ≡ raw → IsNothingOr list raw → (IsTrue alike → AreAlike p w a o) → IsPosterior p w a o (record { weights = copy; list = list; is_alike = alike })
posterior_is p w a o raw copy list alike is same listed even = record {
  has = subst (λ (f : Func). HasWeights p f (unscaled_after p w a o)) (sym same) is.has;
  few = subst (λ (f : Func). state_total f ≤ℤ pos (2 ^ 62)) (sym same) is.few;
  listed = subst (IsNothingOr list) (sym same) listed;
  alike = even;
}

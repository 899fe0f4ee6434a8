-- Variables that keep their values, on the way through the tables of an action.
use Rattle.std.proofs.Common.{◌≡◌, ◌≢◌, ℕ, zero, suc, ◌+◌, ◌-◌, ◌*◌, ◌<◌, ◌≤◌, refl, sym, ◌∙◌, ap, subst, arith, length, Bool, true, false, nat_eq}
use Rattle.std.proofs.lemmas.Bool.Decides.{Decides-eqb}
use Rattle.sp_dd.specs.Func.{Shape, Func, IsScope, IsFunc}
use Rattle.sp_dd.specs.Operations as operations
use Rattle.sp_diagonals.specs.declared.diagonals.Side.TheVariants.{Next}
use Rattle.sp_diagonals.specs.Diagonals.{filled, on_diagonals}
use Rattle.sp_diagonals.proofs.Identities.{product_on_diagonals}
use Rattle.sp_model.specs.declared.parts.Parts.{Parts}
use Rattle.sp_model.specs.Problem.{move_of, problem}
use Rattle.sp_model.specs.Kept.{IsModel}
use Rattle.sp_belief.specs.Progress.{goes, IsCarrying, IsOnTheWay}
use Rattle.sp_belief.specs.Tables.{IsKeptTable}
use Rattle.sp_belief.proofs.CarryLemmas.{move_is, carrying_product, carry_on, carry_way, IsSweeping, sweep_begin, sweep_out, sweep_skip, sweep_end}

-- f on its way before the table of variable i has come to g before that of variable j
pub record HasCome (p : Parts) (a i : ℕ) (f : Func) (j : ℕ) (g : Func) : Type 0 where
  pub carrying : IsCarrying p a j g
  pub way : IsOnTheWay p a i f j g

module _ (p : Parts) (known : IsModel p) (a : ℕ) (act : a < length p.actions) where
  -- ---- one variable
  module _ (i : ℕ) (less : i < length p.variables) (f : Func) (is : IsCarrying p a i f) (alone : (v : ℕ) → v < length p.variables → goes (problem p) a i v ≡ nat_eq v i) where
    abbrev product : Func
    product = operations.product_floor (move_of p a i) f

    abbrev out : Func
    out = operations.summed_out product (2 * i)

    stays : (v : ℕ) → v < length p.variables → v ≢ i → goes (problem p) a i v ≡ false
    stays v few apart = alone v few ∙ by_test (nat_eq v i) refl
      where
        by_test : (b : Bool) → nat_eq v i ≡ b → b ≡ false
        by_test true e = absurd (apart ((Decides-eqb v i).0 e))
        by_test false e = refl

    up_to : (k : ℕ) → k ≤ i → IsSweeping p a i k product product
    up_to zero h = sweep_begin p known a act i less product (carrying_product p known a act i less f is)
    up_to (suc k) h = subst (λ (n : ℕ). IsSweeping p a i n product product) (let e : k + 1 ≡ suc k = omega arith in e)
        (sweep_skip p known a i product product k (omega (arith, h, less)) (stays k (omega (arith, h, less)) (λ e. absurd (omega (arith, e, h)))) (up_to k (omega (arith, h))))

    at_own : IsSweeping p a i (i + 1) product out
    at_own = sweep_out p known a i product product i less (alone i less ∙ (Decides-eqb i i).1 refl) (up_to i (omega arith))

    from_own : (k : ℕ) → i + 1 + k ≤ length p.variables → IsSweeping p a i (i + 1 + k) product out
    from_own zero h = subst (λ (n : ℕ). IsSweeping p a i n product out) (let e : i + 1 ≡ i + 1 + 0 = omega arith in e) at_own
    from_own (suc k) h = subst (λ (n : ℕ). IsSweeping p a i n product out) (let e : i + 1 + k + 1 ≡ i + 1 + suc k = omega arith in e)
        (sweep_skip p known a i product out (i + 1 + k) (omega (arith, h)) (stays (i + 1 + k) (omega (arith, h)) (λ e. absurd (omega (arith, e)))) (from_own k (omega (arith, h))))

    end : IsSweeping p a i (length p.variables) product out
    end = subst (λ (n : ℕ). IsSweeping p a i n product out) (let e : i + 1 + (length p.variables - (i + 1)) ≡ length p.variables = omega (arith, less) in e) (from_own (length p.variables - (i + 1)) (omega (arith, less)))

    pub one_kept : HasCome p a i f (i + 1) out
    one_kept = record {
      carrying = carry_on p known a act i less f is out end.both end.from_zero (sweep_end p known a i product out end);
      way = carry_way p known a act i less f is out end.both end.from_zero (sweep_end p known a i product out end);
    }

  -- ---- several
  pub some_kept : (i n : ℕ) (f : Func) → IsScope f.shape → IsFunc f → i + n ≤ length p.variables → IsCarrying p a i f → ((k : ℕ) → i ≤ k → k < i + n → IsKeptTable p a k) → HasCome p a i f (i + n) (on_diagonals Next i n f)
  unfolding filled
  some_kept i zero f scope func few is kept =
      subst (HasCome p a i f (i + 0)) func (subst (λ (k : ℕ). HasCome p a i f k f) (let e : i ≡ i + 0 = omega arith in e) (record { carrying = is; way = λ s t at to. refl }))
  some_kept i (suc n) f scope func few is kept =
      let less : i + n < length p.variables = omega (arith, few) in
      let before : HasCome p a i f (i + n) (on_diagonals Next i n f) = some_kept i n f scope func (omega (arith, few)) is (λ k l m. kept k l (omega (arith, m))) in
      let here : IsKeptTable p a (i + n) = kept (i + n) (omega arith) (omega arith) in
      let step : HasCome p a (i + n) (on_diagonals Next i n f) (i + n + 1) _ = one_kept (i + n) less (on_diagonals Next i n f) before.carrying here.alone in
      let table = move_is p known a act (i + n) less in
      let shapes : f.shape ≡ (move_of p a (i + n)).shape = is.both.shape ∙ sym table.shape in
      let count : f.shape.variables ≡ length p.variables = ap (λ (s : Shape). s.variables) is.both.shape in
      let same = product_on_diagonals f (move_of p a (i + n)) i n (i + n) refl scope (omega (arith, count, less)) shapes table.row here.identity in
      let come : HasCome p a i f (i + n + 1) (on_diagonals Next i (suc n) f) =
      subst (HasCome p a i f (i + n + 1)) same (record { carrying = step.carrying; way = λ s t at to. step.way s t at to ∙ before.way s t at to }) in
      subst (λ (k : ℕ). HasCome p a i f k (on_diagonals Next i (suc n) f)) (let e : i + n + 1 ≡ i + suc n = omega arith in e) come

  pub come_to : (i j : ℕ) (f r : Func) → IsScope f.shape → IsFunc f → i ≤ j → j ≤ length p.variables → IsCarrying p a i f → ((k : ℕ) → i ≤ k → k < j → IsKeptTable p a k) → r ≡ on_diagonals Next i (j - i) f → HasCome p a i f j r
  come_to i j f r scope func order few is kept e =
      let whole : i + (j - i) ≡ j = omega (arith, order) in
      subst (HasCome p a i f j) (sym e)
      (subst (λ (k : ℕ). HasCome p a i f k (on_diagonals Next i (j - i) f)) whole (some_kept i (j - i) f scope func (omega (arith, whole, few)) is (λ k l m. kept k l (omega (arith, m, whole)))))

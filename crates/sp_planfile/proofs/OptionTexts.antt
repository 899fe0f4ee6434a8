-- The line of the options is told.
use Rattle.std.proofs.Common.{◌≡◌, ◌≢◌, ℕ, ◌<◌, ◌≤◌, List, [], ◌∷◌, ◌++◌, get_or, Bool, true, false, refl, ap, sym, ◌∙◌, append_assoc, arith, codes}
use Rattle.std.specs.Fmt.{decimal}
use Rattle.sp_value.specs.declared.tasks.Explore.{Explore}
use Rattle.sp_value.specs.declared.tasks.Explore.TheVariants.{Uniform, Sweep}
use Rattle.sp_value.specs.declared.tasks.Options.{Options}
use Rattle.sp_lines.specs.Lines.{IsSmall, BeginsNoDigit}
use Rattle.sp_lines.proofs.Digits.{number_told}
use Rattle.sp_planfile.specs.PlanText.{explore_word, prune_word, options_line}
use Rattle.sp_planfile.specs.Form.{AreInRange}
use Rattle.sp_planfile.proofs.Sections.{behind_same, spaced_told}

pub explore_told : (x y : Explore) (us vs : List ℕ) → explore_word x ++ us ≡ explore_word y ++ vs → (x ≡ y) × (us ≡ vs)
explore_told Uniform Uniform us vs e = (refl, behind_same (codes " uniform") us vs e)
explore_told Sweep Sweep us vs e = (refl, behind_same (codes " sweep") us vs e)
explore_told Uniform Sweep us vs e = absurd (let other : 117 ≡ 115 = ap (λ l. get_or l 1 0) e in omega (arith, other))
explore_told Sweep Uniform us vs e = absurd (let other : 115 ≡ 117 = ap (λ l. get_or l 1 0) e in omega (arith, other))

pub prune_told : (x y : Bool) (us vs : List ℕ) → prune_word x ++ us ≡ prune_word y ++ vs → (x ≡ y) × (us ≡ vs)
prune_told true true us vs e = (refl, behind_same (codes " yes") us vs e)
prune_told false false us vs e = (refl, behind_same (codes " no") us vs e)
prune_told true false us vs e = absurd (let other : 121 ≡ 110 = ap (λ l. get_or l 1 0) e in omega (arith, other))
prune_told false true us vs e = absurd (let other : 110 ≡ 121 = ap (λ l. get_or l 1 0) e in omega (arith, other))

pub explore_ends : (x : Explore) (us : List ℕ) → BeginsNoDigit (explore_word x ++ us)
explore_ends Uniform us = λ range. omega (arith, range)
explore_ends Sweep us = λ range. omega (arith, range)

regrouped : (w a b c d e p t : List ℕ) → (w ++ ((32 ∷ (a ++ (32 ∷ (b ++ (32 ∷ (c ++ (32 ∷ (d ++ [])))))))) ++ (e ++ p))) ++ t ≡ w ++ (32 ∷ (a ++ (32 ∷ (b ++ (32 ∷ (c ++ (32 ∷ (d ++ (e ++ (p ++ t))))))))))
regrouped w a b c d e p t = simp append_assoc

-- the words behind `options`, and what comes after them
behind : Options → List ℕ → List ℕ
behind o t = 32 ∷ (decimal o.beliefs ++ (32 ∷ (decimal o.depth ++ (32 ∷ (decimal o.stages ++ (32 ∷ (decimal o.seed ++ (explore_word o.explore ++ (prune_word o.prune ++ t)))))))))

line_is : (o : Options) (t : List ℕ) → options_line o ++ t ≡ codes "options" ++ behind o t
unfolding behind
line_is o t = regrouped (codes "options") (decimal o.beliefs) (decimal o.depth) (decimal o.stages) (decimal o.seed) (explore_word o.explore) (prune_word o.prune) t

pub same_options : (o p : Options) → o.beliefs ≡ p.beliefs → o.depth ≡ p.depth → o.stages ≡ p.stages → o.seed ≡ p.seed → o.explore ≡ p.explore → o.prune ≡ p.prune → o ≡ p
same_options o p a b c d e f =
    let made : ℕ → ℕ → ℕ → ℕ → Explore → Bool → Options = λ beliefs depth stages seed explore prune. record { beliefs = beliefs; depth = depth; stages = stages; seed = seed; explore = explore; prune = prune } in
    ap (λ n. made n o.depth o.stages o.seed o.explore o.prune) a
    ∙ ap (λ n. made p.beliefs n o.stages o.seed o.explore o.prune) b
    ∙ ap (λ n. made p.beliefs p.depth n o.seed o.explore o.prune) c
    ∙ ap (λ n. made p.beliefs p.depth p.stages n o.explore o.prune) d
    ∙ ap (λ x. made p.beliefs p.depth p.stages p.seed x o.prune) e
    ∙ ap (made p.beliefs p.depth p.stages p.seed p.explore) f

pub options_told : (o p : Options) (us vs : List ℕ) → AreInRange o → AreInRange p → options_line o ++ (10 ∷ us) ≡ options_line p ++ (10 ∷ vs) → (o ≡ p) × (us ≡ vs)
unfolding behind
options_told o p us vs a b e =
    let e0 = behind_same (codes "options") (behind o (10 ∷ us)) (behind p (10 ∷ vs)) (sym (line_is o (10 ∷ us)) ∙ e ∙ line_is p (10 ∷ vs)) in
    let beliefs = spaced_told o.beliefs p.beliefs _ _ 32 32 (omega (arith, a.few_beliefs)) (omega (arith, b.few_beliefs)) (omega arith) (omega arith) e0 in
    let depth = spaced_told o.depth p.depth _ _ 32 32 (omega (arith, a.few_depth)) (omega (arith, b.few_depth)) (omega arith) (omega arith) beliefs.1 in
    let stages = spaced_told o.stages p.stages _ _ 32 32 (omega (arith, a.few_stages)) (omega (arith, b.few_stages)) (omega arith) (omega arith) depth.1 in
    let e1 = behind_same (32 ∷ []) (decimal o.seed ++ (explore_word o.explore ++ (prune_word o.prune ++ (10 ∷ us)))) (decimal p.seed ++ (explore_word p.explore ++ (prune_word p.prune ++ (10 ∷ vs)))) stages.1 in
    let seed = number_told o.seed p.seed (explore_word o.explore ++ (prune_word o.prune ++ (10 ∷ us))) (explore_word p.explore ++ (prune_word p.prune ++ (10 ∷ vs))) a.seed b.seed (explore_ends o.explore (prune_word o.prune ++ (10 ∷ us))) (explore_ends p.explore (prune_word p.prune ++ (10 ∷ vs))) e1 in
    let explore = explore_told o.explore p.explore (prune_word o.prune ++ (10 ∷ us)) (prune_word p.prune ++ (10 ∷ vs)) seed.1 in
    let prune = prune_told o.prune p.prune (10 ∷ us) (10 ∷ vs) explore.1 in
    (same_options o p beliefs.0 depth.0 stages.0 seed.0 explore.0 prune.0, behind_same (10 ∷ []) us vs prune.1)

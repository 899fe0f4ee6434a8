-- What is remembered of bundles stays true as the list grows.
use Rattle.std.proofs.Common.{◌≡◌, ℕ, ◌<◌, ◌≤◌, ⊎_elim, List, [], ◌∷◌, ◌++◌, length, get_or, take, ℤ, pos, refl, sym, ◌∙◌, ap, subst, arith}
use Rattle.std.proofs.lemmas.List.{get_or_append_left, get_or_push, length_push}
use Rattle.std.proofs.lemmas.Bool.{cases_lt}
use Rattle.sp_dd.specs.declared.part.Part.{Part}
use Rattle.sp_dd.specs.declared.part.Part.TheVariants.{Leaf}
use Rattle.sp_dd.specs.NodeLists.{Node}
use Rattle.sp_dd.specs.Ordered.{node_at, no_node}
use Rattle.sp_dd.specs.declared.walk.Step.{Step}
use Rattle.sp_dd.specs.declared.walk.Step.TheVariants.{Leaf as StepLeaf, Branch}
use Rattle.sp_dd.specs.Sources.{IfLeaf, IfBranch}
use Rattle.sp_dd.specs.Walks.{whole, ArePositive}
use Rattle.sp_dd.specs.Bundles.{HasBundle, AreBundlesKnown, IsNextBundle}
use Rattle.sp_dd.proofs.Branching.{whole_leaf}
use Rattle.sp_dd.proofs.Steps.{fixed, next_walk}
use Rattle.sp_dd.proofs.Settled.{Extends}
use Rattle.sp_dd.proofs.Known.{whole_again}

pub bundles_none : (sizes : List ℕ) (μ : Node → (ℕ → ℕ) → ℤ) (bs : List Node) (ps : List Part) (ns : List Node) → bs ≡ [] → ps ≡ [] → AreBundlesKnown sizes μ bs ps ns
bundles_none sizes μ bs ps ns e d = record { even = ap length e ∙ sym (ap length d); each = λ k l. absurd (omega (arith, ap length e)) }

pub bundles_extend : (sizes : List ℕ) (μ : Node → (ℕ → ℕ) → ℤ) (bs : List Node) (ps : List Part) (ns ms : List Node) → Extends ns ms → AreBundlesKnown sizes μ bs ps ns → AreBundlesKnown sizes μ bs ps ms
bundles_extend sizes μ bs ps ns ms x h = record { even = h.even; each = λ k l. whole_again sizes (μ (node_at bs k)) ns ms (get_or ps k (Leaf (pos 0))) x (h.each k l) }

bundles_push_step : (sizes : List ℕ) (μ : Node → (ℕ → ℕ) → ℤ) (bs : List Node) (ps : List Part) (ns : List Node) (b : Node) (a : Part) → AreBundlesKnown sizes μ bs ps ns → whole sizes (μ b) ns ≡ (ns, a) → (k : ℕ) → k < length (bs ++ b ∷ []) → whole sizes (μ (node_at (bs ++ b ∷ []) k)) ns ≡ (ns, get_or (ps ++ a ∷ []) k (Leaf (pos 0)))
bundles_push_step sizes μ bs ps ns b a h w k l =
    let P : Node → Part → Type 0 = λ x y. whole sizes (μ x) ns ≡ (ns, y) in
    let Q : (x y : Node) (c d : Part) → x ≡ y → c ≡ d → P x c → P y d = λ x y c d e f p. subst (λ z. P z d) e (subst (λ z. P x z) f p) in
    ⊎_elim
    (λ (low : k < length bs). (let lower : k < length ps = omega (arith, h.even) in
    Q _ _ _ _ (sym (get_or_append_left bs (b ∷ []) no_node k low)) (sym (get_or_append_left ps (a ∷ []) (Leaf (pos 0)) k lower)) (h.each k low)))
    (λ (high : length bs ≤ k). (let last : length bs ≡ k = omega (arith, l, length_push bs b) in
    let same : length ps ≡ k = omega (arith, last, h.even) in
    Q _ _ _ _ (sym (get_or_push bs b no_node k last)) (sym (get_or_push ps a (Leaf (pos 0)) k same)) w))
    (cases_lt k (length bs))

pub bundles_push : (sizes : List ℕ) (μ : Node → (ℕ → ℕ) → ℤ) (bs cs : List Node) (ps qs : List Part) (ns : List Node) (b : Node) (a : Part) → AreBundlesKnown sizes μ bs ps ns → whole sizes (μ b) ns ≡ (ns, a) → cs ≡ bs ++ b ∷ [] → qs ≡ ps ++ a ∷ [] → AreBundlesKnown sizes μ cs qs ns
bundles_push sizes μ bs cs ps qs ns b a h w e d =
    let more : AreBundlesKnown sizes μ (bs ++ b ∷ []) (ps ++ a ∷ []) ns = record {
      even = omega (arith, h.even, length_push bs b, length_push ps a);
      each = bundles_push_step sizes μ bs ps ns b a h w;
    } in
    let P : List Node → List Part → Type 0 = λ x y. AreBundlesKnown sizes μ x y ns in
    subst (λ x. P x qs) (sym e) (subst (P (bs ++ b ∷ [])) (sym d) more)

pub bundle_known : (sizes : List ℕ) (μ : Node → (ℕ → ℕ) → ℤ) (bs : List Node) (ps : List Part) (ns : List Node) (b : Node) (a : Part) → AreBundlesKnown sizes μ bs ps ns → HasBundle bs ps b a → whole sizes (μ b) ns ≡ (ns, a)
bundle_known sizes μ bs ps ns b a h k =
    ap (λ x. whole sizes (μ x) ns) (sym k.is) ∙ h.each k.place k.within ∙ ap (λ x. (ns, x)) k.has

-- ---- a step of a walk through bundles

pub leaf_is : (step : Step) (z : ℤ) (P : ℤ → Type 0) → IfLeaf step P → step ≡ StepLeaf z → P z
leaf_is step z P h e = subst (λ s. IfLeaf s P) e h

pub branch_is : (step : Step) (n : ℕ) (P : ℕ → Type 0) → IfBranch step P → step ≡ Branch n → P n
branch_is step n P h e = subst (λ s. IfBranch s P) e h

pub bundle_leaf : (sizes : List ℕ) → ArePositive sizes → (s v : ℕ) (ψ : (ℕ → ℕ) → ℤ) (z : ℤ) → ((π : ℕ → ℕ) → π s ≡ v → ψ π ≡ z) → (ns : List Node) → whole sizes (fixed s v ψ) ns ≡ (ns, Leaf z)
bundle_leaf sizes p s v ψ z h ns = next_walk sizes s v ψ (λ π. z) (λ π ρ k. refl) h ns ∙ whole_leaf sizes p (λ π. z) z (λ π. refl) ns

pub bundle_branch : (sizes : List ℕ) (μ : Node → (ℕ → ℕ) → ℤ) (I : Node → Type 0) (b c : Node) (v : ℕ) (ns ms : List Node) (a : Part) → IsNextBundle sizes μ I b v c → whole sizes (μ c) ns ≡ (ms, a) → whole sizes (fixed b.slot v (μ b)) ns ≡ (ms, a)
bundle_branch sizes μ I b c v ns ms a n w =
    next_walk sizes b.slot v (μ b) (μ c) (λ π ρ k. n.from π ρ (λ t l. k t (omega (arith, n.later, l)))) n.same ns ∙ w

-- the list after a value is that before it
pub list_back : (end : ℕ) (first old new after cut : List Part) → old ≡ first → end ≡ length first → take (length old) new ≡ old → after ≡ new → cut ≡ take end after → cut ≡ first
list_back end first old new after cut e n k a c =
    c ∙ ap (take end) a ∙ ap (λ m. take m new) (n ∙ ap length (sym e)) ∙ k ∙ e

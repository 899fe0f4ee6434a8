use Rattle.std.proofs.Common.{◌≡◌, ◌∙◌, ◌≤◌, Bool, true, false, List, ◌++◌, ℕ, ℤ, length, drop, arith, ap, sym, subst}
use Rattle.std.proofs.lemmas.Grind.{common_steps}
use Rattle.sp_dd.specs.declared.part.Part.{Part}
use Rattle.sp_dd.specs.NodeLists.{made_node}
use Rattle.sp_ddops.specs.Sums.{sum_meaning, least_of, ArePairs, IsSumOf, IsBundleSum}
use Rattle.sp_ddops.proofs.SummingLemmas.{settled_before, settled_spread, IsSpreadSum, spread_sum, drop_front, leaf_map, branch_map}
use Rattle.sp_ddops.proofs.summing.settle.Goals as goal

pub returns-then-slot-sum-clause-branch : goal.returns-then-slot-sum-clause-branch
returns-then-slot-sum-clause-branch c =
    let ps : List Part = drop c.args.start c.args.list.now.items in
    let P : Bool → Type 0 = λ b. IsSumOf c.args.sum.now.scope.now.sizes c.args.sum.now.at c.args.sum.now.left.now c.args.sum.now.right.now b ps in
    let Q : Bool → Type 0 = λ b. IsBundleSum c.args.sum.now.is_mean c.args.sum.now.scope.now.sizes c.args.sum.now.at c.args.sum.now.left.now c.args.sum.now.right.now b ps (made_node c.least_in-slot.result ps) in
    subst Q (sym c.if-not-is_before.false) (settled_before _ _ _ _ _ _ _ (subst P c.if-not-is_before.false c.requires.sum) c.least_in-slot.ensures c.if-slot-sum.true)

-- the bundle that is spread
spread_list : (end : ℕ) (first z now : List Part) → end ≡ length first → now ≡ first ++ z → z ≡ drop end now
spread_list end first z now e d = sym (drop_front end first z now e d)

pub least_in-slot-requires-2-clause-pairs : goal.least_in-slot-requires-2-clause-pairs
least_in-slot-requires-2-clause-pairs c =
    let ps : List Part = drop c.args.start c.args.list.now.items in
    let P : Bool → Type 0 = λ b. IsSumOf c.args.sum.now.scope.now.sizes c.args.sum.now.at c.args.sum.now.left.now c.args.sum.now.right.now b ps in
    let low : c.args.sum.now.at ≤ least_of (length c.args.sum.now.scope.now.sizes) c.args.sum.now.left.now c.args.sum.now.right.now ps = omega (arith, c.if-slot-sum.false, c.least_in-slot.ensures) in
    let end : c.len-end.result ≡ length c.args.list.now.items = grind (arith, common_steps) in
    let h = spread_sum c.args.sum.now.is_mean _ _ _ _ ps (subst P c.if-not-is_before.false c.requires.sum) low in
    subst (ArePairs c.args.sum.now.left.now c.args.sum.now.right.now) (spread_list _ _ _ _ end c.in_ok-spread.ensures) h.sum.pairs

pub ended-requires-2-clause-sum : goal.ended-requires-2-clause-sum
ended-requires-2-clause-sum c =
    let ps : List Part = drop c.args.start c.args.list.now.items in
    let P : Bool → Type 0 = λ b. IsSumOf c.args.sum.now.scope.now.sizes c.args.sum.now.at c.args.sum.now.left.now c.args.sum.now.right.now b ps in
    let low : c.args.sum.now.at ≤ least_of (length c.args.sum.now.scope.now.sizes) c.args.sum.now.left.now c.args.sum.now.right.now ps = omega (arith, c.if-slot-sum.false, c.least_in-slot.ensures) in
    let end : c.len-end.result ≡ length c.args.list.now.items = grind (arith, common_steps) in
    let h = spread_sum c.args.sum.now.is_mean _ _ _ _ ps (subst P c.if-not-is_before.false c.requires.sum) low in
    let Q : List Part → Type 0 = λ qs. IsSumOf c.args.sum.now.scope.now.sizes c.args.sum.now.at c.args.sum.now.left.now c.args.sum.now.right.now false qs in
    subst Q (spread_list _ _ _ _ end c.in_ok-spread.ensures) h.sum

pub returns-clause-leaf : goal.returns-clause-leaf
returns-clause-leaf c =
    let ps : List Part = drop c.args.start c.args.list.now.items in
    let P : Bool → Type 0 = λ b. IsSumOf c.args.sum.now.scope.now.sizes c.args.sum.now.at c.args.sum.now.left.now c.args.sum.now.right.now b ps in
    let low : c.args.sum.now.at ≤ least_of (length c.args.sum.now.scope.now.sizes) c.args.sum.now.left.now c.args.sum.now.right.now ps = omega (arith, c.if-slot-sum.false, c.least_in-slot.ensures) in
    let end : c.len-end.result ≡ length c.args.list.now.items = grind (arith, common_steps) in
    let h = spread_sum c.args.sum.now.is_mean _ _ _ _ ps (subst P c.if-not-is_before.false c.requires.sum) low in
    let m : Bool → List Part → (ℕ → ℕ) → ℤ = λ b qs. sum_meaning c.args.sum.now.is_mean c.args.sum.now.scope.now.sizes c.args.sum.now.at c.args.sum.now.left.now c.args.sum.now.right.now b qs in
    let before : ℤ → Type 0 = λ z. (π : ℕ → ℕ) → m c.args.is_before ps π ≡ z in
    let behind : ℤ → Type 0 = λ z. (π : ℕ → ℕ) → m false (drop c.len-end.result c.spread.new.list.items) π ≡ z in
    leaf_map c.ended-2.result.step behind before (λ z k π. ap (λ b. m b ps π) c.if-not-is_before.false ∙ h.same π ∙ ap (λ qs. m false qs π) (spread_list _ _ _ _ end c.in_ok-spread.ensures) ∙ k π) c.ended-2.ensures.leaf

pub returns-clause-branch : goal.returns-clause-branch
returns-clause-branch c =
    let ps : List Part = drop c.args.start c.args.list.now.items in
    let P : Bool → Type 0 = λ b. IsSumOf c.args.sum.now.scope.now.sizes c.args.sum.now.at c.args.sum.now.left.now c.args.sum.now.right.now b ps in
    let low : c.args.sum.now.at ≤ least_of (length c.args.sum.now.scope.now.sizes) c.args.sum.now.left.now c.args.sum.now.right.now ps = omega (arith, c.if-slot-sum.false, c.least_in-slot.ensures) in
    let end : c.len-end.result ≡ length c.args.list.now.items = grind (arith, common_steps) in
    let qs : List Part = drop c.len-end.result c.spread.new.list.items in
    let S : List Part → Type 0 = λ l. IsSpreadSum c.args.sum.now.is_mean c.args.sum.now.scope.now.sizes c.args.sum.now.at c.args.sum.now.left.now c.args.sum.now.right.now ps l in
    let h : S qs = subst S (spread_list _ _ _ _ end c.in_ok-spread.ensures) (spread_sum c.args.sum.now.is_mean _ _ _ _ ps (subst P c.if-not-is_before.false c.requires.sum) low) in
    branch_map _ _ _ (λ s k.
    (let Q : Bool → ℕ → Type 0 = λ b start. IsBundleSum c.args.sum.now.is_mean c.args.sum.now.scope.now.sizes c.args.sum.now.at c.args.sum.now.left.now c.args.sum.now.right.now b ps (made_node s (drop start c.spread.new.list.items)) in
    subst (λ b. Q b c.ended-2.result.start) (sym c.if-not-is_before.false) (subst (Q true) (sym c.ended-2.ensures.start) (settled_spread _ _ _ _ _ ps qs _ h k)))) c.ended-2.ensures.branch

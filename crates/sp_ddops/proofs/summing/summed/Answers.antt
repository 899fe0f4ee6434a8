use Rattle.std.proofs.Common.{◌∙◌, ◌∷◌, [], Bool, true, List, ℕ, ℤ, drop, nat_lt, ap, sym}
use Rattle.sp_dd.specs.declared.part.Part.{Part}
use Rattle.sp_dd.specs.NodeLists.{made_node}
use Rattle.sp_dd.proofs.BundleLemmas.{branch_is}
use Rattle.sp_ddops.specs.Sums.{sum_meaning, IsBundleSum}
use Rattle.sp_ddops.proofs.SummingLemmas.{same_sum}
use Rattle.sp_ddops.proofs.summing.summed.Goals as goal

pub returns : goal.returns
returns c =
    let m : Bool → List Part → (ℕ → ℕ) → ℤ = λ b qs. sum_meaning c.args.sum.now.is_mean c.args.sum.now.scope.now.sizes c.args.sum.now.at c.args.sum.now.left.now c.args.sum.now.right.now b qs in
    let qs : List Part = drop c.in_ok-bundle.bundle.start c.settle.new.list.items in
    let P : ℕ → Type 0 = λ s. IsBundleSum c.args.sum.now.is_mean c.args.sum.now.scope.now.sizes c.args.sum.now.at c.args.sum.now.left.now c.args.sum.now.right.now true c.in_ok-list.list.items (made_node s qs) in
    let k : P c.in-Branch.slot = branch_is c.in_ok-bundle.bundle.step c.in-Branch.slot P c.in_ok-bundle.ensures.branch c.in-Branch.is in
    c.in_ok-made-in-Branch.ensures ∙ sym (same_sum c.args.sum.now.scope.now (m true (c.args.first ∷ c.args.second ∷ [])) (m (nat_lt c.in-Branch.slot c.args.sum.now.at) qs) c.slots.ensures.known (λ π. ap (λ l. m true l π) (sym c.in_ok-list.ensures) ∙ k.same π))

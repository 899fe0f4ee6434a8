use Rattle.std.proofs.Common.{◌≡◌, ◌∙◌, ◌++◌, List, ℕ, ℤ, length, take, drop, nat_lt, arith, ap, sym, subst}
use Rattle.std.proofs.lemmas.Grind.{common_steps}
use Rattle.sp_dd.specs.declared.part.Part.{Part}
use Rattle.sp_dd.specs.NodeLists.{Node, made_node}
use Rattle.sp_ddops.specs.Sums.{sum_meaning, cofactors, IsSumOf, IsBundleSum}
use Rattle.sp_ddops.proofs.SummingLemmas.{drop_front, take_all, kept_twice, next_sum, next_same, next_settled, leaf_map, branch_map}
use Rattle.sp_ddops.proofs.summing.SummingBundleSource.next.Goals as goal

-- the pairs where the slot has the value, at the end of the list
pushed : (f g : List Node) (s v start end : ℕ) (first now : List Part) → end ≡ length first → now ≡ first ++ cofactors f g s v (drop start (take end first)) → cofactors f g s v (drop start first) ≡ drop end now
pushed f g s v start end first now e d =
    ap (λ l. cofactors f g s v (drop start l)) (sym (take_all end first e)) ∙ sym (drop_front end first (cofactors f g s v (drop start (take end first))) now e d)

pub settle-requires-clause-sum : goal.settle-requires-clause-sum
settle-requires-clause-sum c =
    let end : c.len-end.result ≡ length c.args.list.now.items = grind (arith, common_steps) in
    let bundle : Node = made_node c.args.at (drop c.args.start c.args.list.now.items) in
    let P : List Part → Type 0 = λ qs. IsSumOf c.args.self.now.scope.now.sizes c.args.self.now.at c.args.self.now.left.now c.args.self.now.right.now (nat_lt c.args.at c.args.self.now.at) qs in
    subst P (pushed _ _ c.args.at c.args.value c.args.start _ _ _ end c.in_ok-push_cofactors.ensures) (next_sum _ _ _ _ bundle c.args.value c.requires.bundle c.requires.within)

pub returns-clause-kept : goal.returns-clause-kept
returns-clause-kept c = kept_twice _ _ _ _ c.in_ok-push_cofactors.ensures c.in_ok-bundle.ensures.kept

pub returns-clause-leaf : goal.returns-clause-leaf
returns-clause-leaf c =
    let end : c.len-end.result ≡ length c.args.list.now.items = grind (arith, common_steps) in
    let bundle : Node = made_node c.args.at (drop c.args.start c.args.list.now.items) in
    let m : List Part → (ℕ → ℕ) → ℤ = λ qs. sum_meaning c.args.self.now.is_mean c.args.self.now.scope.now.sizes c.args.self.now.at c.args.self.now.left.now c.args.self.now.right.now (nat_lt c.args.at c.args.self.now.at) qs in
    let here : ℤ → Type 0 = λ z. (π : ℕ → ℕ) → π c.args.at ≡ c.args.value → m (drop c.args.start c.args.list.now.items) π ≡ z in
    let there : ℤ → Type 0 = λ z. (π : ℕ → ℕ) → m (drop c.len-end.result c.push_cofactors.new.list.items) π ≡ z in
    leaf_map c.in_ok-bundle.bundle.step there here (λ z k π e. next_same _ _ _ _ _ bundle c.args.value c.requires.bundle π e ∙ ap (λ qs. m qs π) (pushed _ _ c.args.at c.args.value c.args.start _ _ _ end c.in_ok-push_cofactors.ensures) ∙ k π) c.in_ok-bundle.ensures.leaf

pub returns-clause-branch : goal.returns-clause-branch
returns-clause-branch c =
    let end : c.len-end.result ≡ length c.args.list.now.items = grind (arith, common_steps) in
    let bundle : Node = made_node c.args.at (drop c.args.start c.args.list.now.items) in
    let same : cofactors c.args.self.now.left.now c.args.self.now.right.now c.args.at c.args.value (drop c.args.start c.args.list.now.items) ≡ drop c.len-end.result c.push_cofactors.new.list.items = pushed _ _ c.args.at c.args.value c.args.start _ _ _ end c.in_ok-push_cofactors.ensures in
    branch_map _ _ _ (λ s k.
    (let next : Node = made_node s (drop c.in_ok-bundle.bundle.start c.settle.new.list.items) in
    let P : List Part → Type 0 = λ qs. IsBundleSum c.args.self.now.is_mean c.args.self.now.scope.now.sizes c.args.self.now.at c.args.self.now.left.now c.args.self.now.right.now (nat_lt c.args.at c.args.self.now.at) qs next in
    next_settled _ _ _ _ _ bundle c.args.value next c.requires.bundle c.requires.within (subst P (sym same) k))) c.in_ok-bundle.ensures.branch

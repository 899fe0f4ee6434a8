use Rattle.std.proofs.Common.{◌≡◌, ◌∙◌, ◌+◌, ◌<◌, length, get_or, ap, to_z, of_z, sym, subst, arith, ℤ, List}
use Rattle.std.proofs.lemmas.Grind.{common_steps}
use mir.Syntax.{w128}
use Rattle.sp_dd.specs.Func.{Shape}
use Rattle.sp_dd.specs.NodeLists.{Node}
use Rattle.sp_dd.specs.Ordered.{node_at, part_at}
use Rattle.sp_dd.specs.Diagrams.{node_list}
use Rattle.sp_ddops.specs.Best.{IsExtreme}
use Rattle.sp_ddops.proofs.BestLemmas.{IsBestSoFar, has_first, best_first, best_more, best_last, best_leaf}
use Rattle.sp_ddops.proofs.bounds.extreme.Goals as goal

pub returns-in-Leaf : goal.returns-in-Leaf
returns-in-Leaf c =
    let e : to_z w128 (of_z w128 c.in-Leaf.value) ≡ c.in-Leaf.value = grind (arith, common_steps) in
    let P : ℤ → Type 0 = λ x. IsExtreme c.args.is_greatest c.args.f.now x in
    subst P (sym e) (best_leaf c.args.is_greatest c.args.f.now c.root.result c.in-Leaf.value c.scope-scope.ensures.known c.root.ensures c.in-Leaf.is)

pub part-requires-clause-node : goal.part-requires-clause-node
part-requires-clause-node c = rw c.nodes-nodes.ensures (has_first c.args.f.now c.root.result c.in-At.field-0 c.scope-scope.ensures.known c.root.ensures c.in-At.is).node

pub part-requires-clause-value : goal.part-requires-clause-value
part-requires-clause-value c = rw c.nodes-nodes.ensures (has_first c.args.f.now c.root.result c.in-At.field-0 c.scope-scope.ensures.known c.root.ensures c.in-At.is).part

pub loop-at-init : goal.loop-at-init
loop-at-init c =
    let e : to_z w128 (of_z w128 c.leaf_in-best.result) ≡ c.leaf_in-best.result = grind (arith, common_steps) in
    let P : ℤ → Type 0 = λ x. IsBestSoFar c.args.is_greatest c.args.f.now 0 x in
    subst P (sym e) (best_first c.args.is_greatest c.args.f.now c.root.result c.part.result c.in-At.field-0 c.leaf_in-best.result c.scope-scope.ensures.known c.root.ensures c.in-At.is (c.part.ensures ∙ ap (λ (n : List Node). part_at n 0 0) c.nodes-nodes.ensures) c.leaf_in-best.ensures)

pub loop-at-preserved : goal.loop-at-preserved
loop-at-preserved c =
    let e : to_z w128 (of_z w128 c.best_of-best.result) ≡ c.best_of-best.result = grind (arith, common_steps) in
    let P : ℤ → Type 0 = λ x. IsBestSoFar c.args.is_greatest c.args.f.now (c.loop-at.at + 1) x in
    let ns : List Node = c.nodes-nodes.result.now in
    let low : c.loop-at.at < length (node_list c.args.f.now) = omega (arith, c.loop-at-test.true, c.len-at-end.ensures, ap length c.nodes-nodes.ensures) in
    let size : c.size-count.result ≡ get_or c.args.f.now.shape.sizes (node_at ns c.loop-at.at).slot 0 = c.size-count.ensures ∙ ap (λ (s : Shape). get_or s.sizes c.slot.result 0) c.scope-scope.ensures.value ∙ ap (λ k. get_or c.args.f.now.shape.sizes k 0) c.slot.ensures in
    let count : length (node_at ns c.loop-at.at).parts ≡ get_or c.args.f.now.shape.sizes (node_at ns c.loop-at.at).slot 0 = rw c.nodes-nodes.ensures (c.reduced_law.ensures.ordered.counts c.loop-at.at low) in
    subst P (sym e) (best_more c.args.is_greatest c.args.f.now c.loop-at.at _ _ (node_at ns c.loop-at.at).parts c.scope-scope.ensures.known low c.loop-at.invariant (ap (λ (n : List Node). (node_at n c.loop-at.at).parts) c.nodes-nodes.ensures) c.best_of-best.ensures.kept (λ u z l q. c.best_of-best.ensures.all u z (omega (arith, l, size, count)) q) c.best_of-best.ensures.from)

pub returns : goal.returns
returns c =
    let e : c.loop-at.at ≡ length (node_list c.args.f.now) = omega (arith, c.loop-at-test.false, c.loop-at.auto.at-end, c.len-at-end.ensures, ap length c.nodes-nodes.ensures) in
    best_last c.args.is_greatest c.args.f.now c.root.result c.in-At.field-0 c.loop-at.at _ c.root.ensures c.in-At.is e c.loop-at.invariant

use Rattle.std.proofs.Common.{◌≡◌, ℕ, ◌<◌, ◌≤◌, List, length, All, subst, sym, ap, ◌∙◌}
use Rattle.std.specs.Prelude.{IfOk}
use Rattle.sp_trees.specs.Words.{text}
use Rattle.sp_trees.proofs.TreeLemmas.{node_known}
use Rattle.sp_dd.specs.Func.{size_of}
use Rattle.sp_trees.specs.declared.judged.Judged.{Judged}
use Rattle.sp_trees.specs.declared.judged.Listed.{Listed}
use Rattle.sp_trees.specs.declared.nodes.Branching.{Branching}
use Rattle.sp_trees.specs.Nodes.{IsSmallValue}
use Rattle.sp_trees.specs.Good.{IfGood}
use Rattle.sp_trees.proofs.EnvLemmas.{slot_is, few_names}
use Rattle.sp_trees.proofs.HoldLemmas.{trees_good, branches_good, branches_small}
use Rattle.sp_trees.proofs.meaning.+judging.Goals as goal

pub judge_node-known_node-requires-clause-slot : goal.judge_node-known_node-requires-clause-slot
judge_node-known_node-requires-clause-slot t c =
    let is = slot_is c.args.env.now c.args.is_primed c.in-Some.place c.requires c.in-Some.ensures.within in
    subst (λ (n : Branching). n.slot < length c.args.env.now.scope.sizes) (sym c.branching_on-node.ensures) is.within

pub judge_node-known_node-requires-clause-count : goal.judge_node-known_node-requires-clause-count
judge_node-known_node-requires-clause-count t c =
    let is = slot_is c.args.env.now c.args.is_primed c.in-Some.place c.requires c.in-Some.ensures.within in
    subst (λ (n : Branching). n.count ≡ size_of c.args.env.now.scope n.slot) (sym c.branching_on-node.ensures) is.size

pub judge_node-known_node-requires-clause-small : goal.judge_node-known_node-requires-clause-small
judge_node-known_node-requires-clause-small t c =
    let few = few_names c.args.env.now c.args.is_primed c.in-Some.place c.requires c.in-Some.ensures.within in
    subst (All IsSmallValue) (sym (c.as_slice-in-Some.ensures ∙ c.in_ok-listed-in-Some.ensures))
    (branches_small c.args.env.now c.args.source.now c.args.allowed c.values_of-values.result.now c.args.branches.now (subst (λ (names : List (List ℕ)). length names ≤ 64) (sym c.values_of-values.ensures) few))

pub judge_node-known_node-requires-clause-good : goal.judge_node-known_node-requires-clause-good
judge_node-known_node-requires-clause-good t c =
    subst (All (λ (l : Listed). IfGood c.args.env.now.scope l.judged)) (sym (c.as_slice-in-Some.ensures ∙ c.in_ok-listed-in-Some.ensures))
    (branches_good c.args.env.now c.args.source.now c.args.allowed c.requires c.values_of-values.result.now c.args.branches.now)

pub judge_tree-list_of-requires : goal.judge_tree-list_of-requires
judge_tree-list_of-requires t c = record {
  good = subst (All (IfGood c.args.env.now.scope)) (sym (c.as_slice-in-Sum-2.ensures ∙ c.in_ok-judged-in-Sum.ensures))
      (trees_good c.args.env.now c.args.source.now c.args.allowed c.requires c.as_slice-in-Sum.result.now);
}

pub judge_tree-list_of-requires-in-Product : goal.judge_tree-list_of-requires-in-Product
judge_tree-list_of-requires-in-Product t c = record {
  good = subst (All (IfGood c.args.env.now.scope)) (sym (c.as_slice-in-Product-2.ensures ∙ c.in_ok-judged-in-Product.ensures))
      (trees_good c.args.env.now c.args.source.now c.args.allowed c.requires c.as_slice-in-Product.result.now);
}

pub judge_node-returns-in_ok-listed-in-Some : goal.judge_node-returns-in_ok-listed-in-Some
judge_node-returns-in_ok-listed-in-Some t c =
    let P : Judged → Type 0 = λ k. IfOk c.known_node.result (λ j. j ≡ k) in
    subst P (node_known c.args.env.now c.args.source.now c.args.allowed c.args.is_primed c.args.left c.args.word c.args.branches.now c.text.result.now c.place_of.result c.in-Some.place c.branching_on-node.result
    c.values_of-values.result.now c.as_slice-in-Some.result.now (c.text.ensures ∙ ap (text c.args.source.now) c.name_span.ensures) c.place_of.ensures.value c.in-Some.is c.branching_on-node.ensures
    c.values_of-values.ensures (c.as_slice-in-Some.ensures ∙ c.in_ok-listed-in-Some.ensures)) c.known_node.ensures

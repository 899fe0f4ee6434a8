use Rattle.std.proofs.Common.{◌≡◌, ap, refl, arith, get_or, length, subst, to_z, of_z}
use mir.Syntax.{w128}
use Rattle.std.proofs.lemmas.Grind.{common_steps}
use Rattle.sp_ddops.specs.Zero.{IsTowards}
use Rattle.sp_dd.specs.Ordered.{node_at}
use Rattle.sp_ddops.proofs.SearchLemmas.{towards_leaf, towards_other, towards_here}
use Rattle.sp_ddops.proofs.search.value_towards.Goals as goal

pub returns-in-Leaf : goal.returns-in-Leaf
returns-in-Leaf c = towards_leaf _ c.args.nodes.now c.args.slot c.args.part _ c.in-Leaf.is

pub first_other-requires-clause-count : goal.first_other-requires-clause-count
first_other-requires-clause-count c = omega (arith, c.size.ensures, c.requires.ordered.counts c.in-At.i (rw c.in-At.is at c.requires.before), ap (λ s. get_or c.args.scope.now.sizes s 0) c.slot.ensures, ap (λ s. get_or c.args.scope.now.sizes s 0) c.if-slot.true)

pub returns-then-slot : goal.returns-then-slot
returns-then-slot c =
    let count : c.size.result ≡ length (node_at c.args.nodes.now c.in-At.i).parts = omega (arith, c.size.ensures, c.requires.ordered.counts c.in-At.i (rw c.in-At.is at c.requires.before), ap (λ s. get_or c.args.scope.now.sizes s 0) c.slot.ensures, ap (λ s. get_or c.args.scope.now.sizes s 0) c.if-slot.true) in
    let e : to_z w128 (of_z w128 c.args.v) ≡ c.args.v = grind (arith, common_steps) in
    subst (λ z. IsTowards z c.args.nodes.now c.args.slot c.args.part c.first_other.result) e
    (towards_here _ c.args.nodes.now c.args.slot c.args.part c.in-At.i c.slot.result c.size.result c.first_other.result _ c.requires.reduced c.requires.before c.in-At.is c.slot.ensures c.if-slot.true refl count c.first_other.ensures.within c.first_other.ensures.before c.first_other.ensures.other)

pub returns-else-slot : goal.returns-else-slot
returns-else-slot c = towards_other _ c.args.nodes.now c.args.slot c.args.part c.in-At.i c.slot.result c.in-At.is c.slot.ensures c.if-slot.false

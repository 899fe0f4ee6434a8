use Rattle.std.proofs.Common.{◌≡◌, ◌∙◌, ◌≤◌, ap, arith, length}
use Rattle.sp_dd.specs.Func.{Shape}
use Rattle.sp_ddops.proofs.ZeroLemmas.{true_of, false_of}
use Rattle.sp_ddops.proofs.BelowLemmas.{roots_pair, origin_blank, origin_long, below_everywhere, first_is}
use Rattle.sp_ddops.proofs.ordering.below.Goals as goal

pub first_above-requires-clause-pair : goal.first_above-requires-clause-pair
first_above-requires-clause-pair c =
    rw (c.scope.ensures.value, c.nodes.ensures, c.nodes-2.ensures, c.root.ensures, c.root-2.ensures) (roots_pair c.args.f.now c.args.g.now c.requires c.scope.ensures.known)

pub first_above-requires-clause-blank : goal.first_above-requires-clause-blank
first_above-requires-clause-blank c = rw c.origin-point.ensures (origin_blank 56)

pub returns-then-not-branch : goal.returns-then-not-branch
returns-then-not-branch c =
    below_everywhere c.args.f.now c.args.g.now c.requires (rw (c.scope.ensures.value, c.nodes.ensures, c.nodes-2.ensures, c.root.ensures, c.root-2.ensures) at (false_of _ _ c.if-not-branch.true c.in_ok-first_above.ensures.no))

pub returns : goal.returns
returns c =
    let count : c.slots.result ≡ length c.args.f.now.shape.sizes = c.slots.ensures.value ∙ ap (λ (s : Shape). length s.sizes) c.scope-2.ensures.value in
    let long : c.slots.result ≤ length c.first_above.new.point = omega (arith, count, c.scope.ensures.known.few, c.first_above.auto.point, ap length c.origin-point.ensures, origin_long 56) in
    first_is c.args.f.now c.args.g.now c.first_above.new.point c.in_ok-ids.ids c.slots.result c.requires c.scope.ensures.known count long c.in_ok-ids.ensures (rw (c.scope.ensures.value, c.nodes.ensures, c.nodes-2.ensures, c.root.ensures, c.root-2.ensures) at (true_of _ _ c.if-not-branch.false c.in_ok-first_above.ensures.yes))

use Rattle.std.proofs.Common.{◌<◌, ◌+◌, take, arith, refl}
use Rattle.std.proofs.lemmas.List.{length-take}
use Rattle.sp_ddops.proofs.SummingLemmas.{first_before, second_before, item_was, IsPushed, is_pushed, pushed_all}
use Rattle.sp_ddops.proofs.summing.push_cofactors.Goals as goal

pub cofactor-first-requires-clause-before : goal.cofactor-first-requires-clause-before
cofactor-first-requires-clause-before c =
    let in_list : c.loop-i.i < c.args.end = omega (arith, c.loop-i-test.true) in
    first_before _ _ (take c.args.end c.args.list.now.items) c.loop-i.i _ c.loop-i.invariant.pairs (omega (arith, in_list, length-take c.args.end c.args.list.now.items, c.requires.end)) (item_was _ _ c.args.end c.loop-i.i _ c.requires.end in_list c.loop-i.invariant.kept c.index.ensures)

pub push_pair-requires-clause-before : goal.push_pair-requires-clause-before
push_pair-requires-clause-before c =
    let in_list : c.loop-i.i + 1 < c.args.end = omega (arith, c.loop-i-test.true) in
    second_before _ _ (take c.args.end c.args.list.now.items) c.loop-i.i (c.loop-i.i + 1) _ c.loop-i.invariant.pairs refl (omega (arith, in_list, length-take c.args.end c.args.list.now.items, c.requires.end)) (item_was _ _ c.args.end (c.loop-i.i + 1) _ c.requires.end in_list c.loop-i.invariant.kept c.index-second.ensures)

pub loop-i-preserved : goal.loop-i-preserved
loop-i-preserved c =
    let h : IsPushed c.args.left.now c.args.right.now c.args.slot c.args.value c.args.list.now.items c.push_pair.new.list.items c.args.end c.args.start (c.loop-i.i + 2) =
    is_pushed _ _ c.args.slot c.args.value _ _ _ c.args.end c.args.start c.loop-i.i (c.loop-i.i + 1) (c.loop-i.i + 2) _ _ _ _ c.requires.end c.loop-i-test.true refl refl c.loop-i.invariant.long c.loop-i.invariant.kept c.index.ensures c.index-second.ensures c.cofactor-first.ensures refl c.in_ok-push_pair.ensures c.loop-i.invariant.made c.loop-i.invariant.pairs in
    record { order = omega (arith, c.loop-i.invariant.order); within = omega (arith, c.loop-i-test.true); long = h.long; kept = h.kept; made = h.made; pairs = h.pairs }

pub returns : goal.returns
returns c = pushed_all _ _ c.args.slot c.args.value _ _ c.args.end c.args.start c.loop-i.i c.requires.end c.loop-i-test.false c.loop-i.invariant.made

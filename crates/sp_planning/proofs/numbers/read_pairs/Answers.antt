use Rattle.std.proofs.Common.{arith, subst, sym}
use Rattle.std.specs.Prelude.{All}
use Rattle.std.proofs.lemmas.List.{take_all}
use Rattle.std.proofs.lemmas.List.Elements.{All-more, recursion_from_All}
use Rattle.std.proofs.lemmas.Option.{get_or_from_slice_get}
use Rattle.sp_lines.specs.Lines.{IsSmallPair}
use Rattle.sp_planning.proofs.numbers.read_pairs.Goals as goal

pub loop-place-preserved : goal.loop-place-preserved
loop-place-preserved c =
    All-more IsSmallPair c.args.pairs.now c.loop-place.place c.at.result.now (omega arith) c.loop-place.invariant
    (subst IsSmallPair (sym (get_or_from_slice_get c.args.pairs.now c.loop-place.place c.at.result.now c.at.result.now c.at.ensures)) (c.read_list.ensures.0, c.read_list.ensures.1.0))

pub returns : goal.returns
returns c = recursion_from_All IsSmallPair c.args.pairs.now (subst (All IsSmallPair) (take_all c.loop-place.place c.args.pairs.now (omega arith)) c.loop-place.invariant)

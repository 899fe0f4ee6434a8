use Rattle.std.proofs.Common.{◌∙◌, ◌<◌, sym, ap, arith, get_or, length, rules}
use Rattle.std.specs.Prelude.{FitsSigned, pos, slice_set}
use Rattle.sp_dd.proofs.FuncLemmas.{IsPoint-with}
use Rattle.std.specs.Int.{w128}
use Rattle.std.proofs.lemmas.Int.{to_z-of_z}
use Rattle.std.proofs.lemmas.List.{get_or_default}
use Rattle.sp_dd.specs.Points.{product, place, point_at}
use Rattle.sp_table.proofs.PlaceLemmas.{Mentions-length}
use Rattle.sp_table.proofs.FrameLemmas.{holds, widths_some, point_within}
use Rattle.sp_table.proofs.cells.value_with.Goals as goal

pub moved_with-requires-clause-lengths : goal.moved_with-requires-clause-lengths
moved_with-requires-clause-lengths c =
    let held = holds _ _ _ _ c.f.invariant c.f.view_is in
    ap length c.as_slice.ensures.value ∙ Mentions-length _ _ held.table.mentions ∙ sym (Mentions-length _ _ c.requires.from.mentions)

pub moved_with-requires-clause-some : goal.moved_with-requires-clause-some
moved_with-requires-clause-some c = rw c.as_slice.ensures.value (holds _ _ _ _ c.f.invariant c.f.view_is).some

pub moved_with-requires-clause-some_from : goal.moved_with-requires-clause-some_from
moved_with-requires-clause-some_from c = widths_some _ _ c.requires.from

pub index-requires : goal.index-requires
index-requires c = omega (arith, c.f.invariant.whole, ap product c.as_slice.ensures.value, c.moved_with.ensures.within)

pub returns : goal.returns
returns c =
    let fits : FitsSigned w128 c.index.result.now = search rules in
    let held = holds _ _ _ _ c.f.invariant c.f.view_is in
    let here = c.moved_with.ensures.value ∙ ap (λ w. place w (slice_set (point_at c.args.from.now c.args.k) c.args.slot c.args.value)) c.as_slice.ensures.value in
    let less : c.moved_with.result < length c.f.inside.cells.items = omega (arith, c.f.invariant.whole, ap product c.as_slice.ensures.value, c.moved_with.ensures.within) in
    to_z-of_z w128 _ fits ∙ c.index.ensures ∙ get_or_default c.f.inside.cells.items c.moved_with.result c.index.result.now (pos 0) less ∙ ap (λ n. get_or c.f.inside.cells.items n (pos 0)) here ∙ held.value _ (IsPoint-with _ _ c.args.slot c.args.value (point_within _ _ c.args.k c.requires.from.scope c.requires.from.mentions) c.requires.within)

use Rattle.std.proofs.Common.{◌∙◌, ◌<◌, sym, ap, arith, get_or, length, rules}
use Rattle.std.specs.Prelude.{FitsSigned, pos}
use Rattle.std.specs.Int.{w128}
use Rattle.std.proofs.lemmas.Int.{to_z-of_z}
use Rattle.std.proofs.lemmas.List.{get_or_default}
use Rattle.sp_dd.specs.Points.{product, place, point_at}
use Rattle.sp_table.proofs.PlaceLemmas.{Mentions-length}
use Rattle.sp_table.proofs.FrameLemmas.{holds, widths_some, point_within}
use Rattle.sp_table.proofs.cells.value_in.Goals as goal

pub moved-requires-clause-lengths : goal.moved-requires-clause-lengths
moved-requires-clause-lengths c =
    let held = holds _ _ _ _ c.f.invariant c.f.view_is in
    ap length c.as_slice.ensures.value ∙ Mentions-length _ _ held.table.mentions ∙ sym (Mentions-length _ _ c.requires.mentions)

pub moved-requires-clause-some : goal.moved-requires-clause-some
moved-requires-clause-some c = rw c.as_slice.ensures.value (holds _ _ _ _ c.f.invariant c.f.view_is).some

pub moved-requires-clause-some_from : goal.moved-requires-clause-some_from
moved-requires-clause-some_from c = widths_some _ _ c.requires

pub index-requires : goal.index-requires
index-requires c = omega (arith, c.f.invariant.whole, ap product c.as_slice.ensures.value, c.moved.ensures.within)

pub returns : goal.returns
returns c =
    let fits : FitsSigned w128 c.index.result.now = search rules in
    let held = holds _ _ _ _ c.f.invariant c.f.view_is in
    let here = c.moved.ensures.value ∙ ap (λ w. place w (point_at c.args.from.now c.args.k)) c.as_slice.ensures.value in
    let less : c.moved.result < length c.f.inside.cells.items = omega (arith, c.f.invariant.whole, ap product c.as_slice.ensures.value, c.moved.ensures.within) in
    to_z-of_z w128 _ fits ∙ c.index.ensures ∙ get_or_default c.f.inside.cells.items c.moved.result c.index.result.now (pos 0) less ∙ ap (λ n. get_or c.f.inside.cells.items n (pos 0)) here ∙ held.value _ (point_within _ _ c.args.k c.requires.scope c.requires.mentions)

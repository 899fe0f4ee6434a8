use Rattle.std.proofs.Common.{◌∙◌, ◌<◌, ap, arith, get_or, length, rules}
use Rattle.std.specs.Prelude.{FitsSigned, pos}
use Rattle.std.specs.Int.{w128}
use Rattle.std.proofs.lemmas.Int.{to_z-of_z}
use Rattle.std.proofs.lemmas.List.{get_or_default}
use Rattle.sp_dd.specs.Points.{product, place}
use Rattle.sp_table.proofs.PlaceLemmas.{Mentions-length, IsPoint-length}
use Rattle.sp_table.proofs.FrameLemmas.{holds}
use Rattle.sp_table.proofs.Table.value_at.Goals as goal

pub place_in-requires-clause-lengths : goal.place_in-requires-clause-lengths
place_in-requires-clause-lengths c =
    let held = holds _ _ _ _ c.self.invariant c.self.view_is in
    ap length c.as_slice.ensures.value ∙ Mentions-length _ _ held.table.mentions ∙ IsPoint-length _ _ c.requires

pub place_in-requires-clause-some : goal.place_in-requires-clause-some
place_in-requires-clause-some c = rw c.as_slice.ensures.value (holds _ _ _ _ c.self.invariant c.self.view_is).some

pub index-requires : goal.index-requires
index-requires c = omega (arith, c.self.invariant.whole, ap product c.as_slice.ensures.value, c.place_in.ensures.within)

pub returns : goal.returns
returns c =
    let fits : FitsSigned w128 c.index.result.now = search rules in
    let held = holds _ _ _ _ c.self.invariant c.self.view_is in
    let here = c.place_in.ensures.value ∙ ap (λ w. place w c.args.point.now) c.as_slice.ensures.value in
    let less : c.place_in.result < length c.self.inside.cells.items = omega (arith, c.self.invariant.whole, ap product c.as_slice.ensures.value, c.place_in.ensures.within) in
    to_z-of_z w128 _ fits ∙ c.index.ensures ∙ get_or_default c.self.inside.cells.items c.place_in.result c.index.result.now (pos 0) less ∙ ap (λ n. get_or c.self.inside.cells.items n (pos 0)) here ∙ held.value _ c.requires

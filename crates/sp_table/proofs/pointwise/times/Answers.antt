use Rattle.std.proofs.Common.{◌≤◌, ◌^◌, ◌∙◌, ap, get_or, map, subst, sym}
use Rattle.std.specs.Prelude.{ℤ, pos, unsigned_abs, ◌*ℤ◌}
use Rattle.std.specs.Int.{w128}
use Rattle.std.proofs.lemmas.Int.{to_z-of_z}
use Rattle.sp_dd.specs.Operations.{scalar_multiple}
use Rattle.sp_table.proofs.FrameLemmas.{Means, mapped, all_cells}
use Rattle.sp_table.proofs.pointwise.times.Goals as goal

pub multiples-requires : goal.multiples-requires
multiples-requires c i less =
    let P : ℤ → Type 0 = λ z. unsigned_abs (z *ℤ get_or c.as_slice-own_cells.result.now i (pos 0)) ≤ 2 ^ 126 in
    subst P (sym (to_z-of_z w128 c.args.k c.ranges.k))
    (rw c.as_slice-own_cells.ensures.value (all_cells (λ v. unsigned_abs (c.args.k *ℤ v) ≤ 2 ^ 126) c.f.inside.scope c.f.inside.widths.items _ c.args.f.now i c.f.invariant c.f.view_is c.requires (simp c.as_slice-own_cells.ensures.value at less)))

-- what the result means
is : (c : goal.After-result-1) → Means c.f.inside.scope c.in_ok-widths.widths.items c.in_ok-cells.cells.items (scalar_multiple c.args.f.now c.args.k)
is c =
    mapped (λ v. c.args.k *ℤ v) c.f.inside.scope c.f.inside.widths.items _ c.f.inside.cells.items _ c.args.f.now c.f.invariant c.f.view_is (c.in_ok-widths.ensures ∙ c.as_slice-own_widths.ensures.value)
    (c.in_ok-cells.ensures ∙ ap (λ z. map (λ v. z *ℤ v) c.as_slice-own_cells.result.now) (to_z-of_z w128 c.args.k c.ranges.k) ∙ ap (map (λ v. c.args.k *ℤ v)) c.as_slice-own_cells.ensures.value)

pub invariant_of-result : goal.invariant_of-result
invariant_of-result c = (is c).table

pub returns : goal.returns
returns c = (is c).is

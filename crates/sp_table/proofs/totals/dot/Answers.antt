use Rattle.std.proofs.Common.{◌≡◌, ◌^◌, ◌∙◌, ap, rules, subst, sym}
use Rattle.std.specs.Prelude.{ℤ, pos, ◌≤ℤ◌, ◌*ℤ◌, FitsSigned}
use Rattle.std.specs.Int.{w128}
use Rattle.std.proofs.lemmas.Int.{to_z-of_z}
use Rattle.sp_dd.specs.Points.{state_widths}
use Rattle.sp_dd.specs.Func.{Shape, value_of}
use Rattle.sp_table.specs.Widths.{AreWidths}
use Rattle.sp_table.proofs.TotalLemmas.{state_frame, state_sum}
use Rattle.sp_table.proofs.totals.dot.Goals as goal
use Rattle.sp_table.proofs.totals.dot.Goals.{In_ok-count}

-- the widths are those of a state's slots
widths : (c : In_ok-count) → c.in_ok-widths.widths.items ≡ state_widths c.args.w.now.shape.variables c.args.w.now.shape.sizes
widths c = c.in_ok-widths.ensures ∙ ap (λ (s : Shape). state_widths s.variables s.sizes) c.scope.ensures.value

frame : (c : In_ok-count) → AreWidths c.args.w.now.shape c.as_slice-to.result.now
frame c = state_frame c.args.w.now.shape _ _ _ c.scope.ensures.known (widths c) c.as_slice-to.ensures.value c.in_ok-count.ensures.value c.in_ok-count.ensures.fits

pub products-requires-clause-w : goal.products-requires-clause-w
products-requires-clause-w c = frame c

pub products-requires-clause-f : goal.products-requires-clause-f
products-requires-clause-f c = let P : Shape → Type 0 = λ s. AreWidths s c.as_slice-to.result.now in subst P c.requires.scopes (frame c)

pub products-requires-clause-total : goal.products-requires-clause-total
products-requires-clause-total c =
    let P : ℤ → Type 0 = λ z. z ≤ℤ pos (2 ^ 62) in
    subst P (sym (state_sum (value_of c.args.w.now) c.args.w.now.shape _ _ _ c.as_slice-to.ensures.value (widths c) c.in_ok-count.ensures.value)) c.requires.total

pub returns : goal.returns
returns c =
    let fits : FitsSigned w128 c.products.result = search rules in
    let same = c.in_ok-widths.ensures ∙ ap (λ (s : Shape). state_widths s.variables s.sizes) c.scope.ensures.value in
    to_z-of_z w128 _ fits ∙ c.products.ensures ∙ state_sum (λ x. value_of c.args.w.now x *ℤ value_of c.args.f.now x) c.args.w.now.shape _ _ _ c.as_slice-to.ensures.value same c.in_ok-count.ensures.value

use Rattle.std.proofs.Common.{◌≡◌, ℕ, List, ◌∙◌, ap, ap₂, sym}
use Rattle.sp_dd.specs.Func.{Shape}
use Rattle.sp_dd.specs.Operations.{summed_out}
use Rattle.sp_rows.specs.Tables.{slot_of, row_at}
use Rattle.sp_rows.proofs.RowLemmas.{row_found}
use Rattle.sp_rows.proofs.rows.bad_row.Goals as goal

pub returns : goal.returns
returns c =
    let slot : c.slot_of.result ≡ slot_of c.args.f.now.shape.variables c.args.table =
    c.slot_of.ensures ∙ ap (λ n. slot_of n c.args.table) (c.variables.ensures ∙ ap (λ (s : Shape). s.variables) c.scope-scope.ensures.value) in
    row_found c.args.f.now c.in_ok-sums.sums c.args.table c.in-Some.point c.row_at.result (c.in_ok-sums.ensures ∙ ap (summed_out c.args.f.now) slot)
    (sym c.in-Some.is ∙ c.in_ok-first_apart.ensures.value)
    (c.row_at.ensures ∙ ap₂ (λ (s : Shape) (x : List ℕ). row_at s c.args.table c.in_ok-sums.sums x) c.scope-scope.ensures.value c.as_slice.ensures)

use Rattle.std.proofs.Common.{◌≡◌, ◌+◌, ◌-◌, ℕ, ap, sym, ◌∙◌, arith}
use Rattle.sp_theory.specs.Beliefs.{all_ignore}
use Rattle.sp_model.specs.Problem.{problem}
use Rattle.sp_belief.specs.Progress.{from_table}
use Rattle.sp_belief.proofs.CarryLemmas.{ignored-on, ignored-end}
use Rattle.sp_belief.proofs.LastTables.{last_first, last_found}
use Rattle.sp_belief.proofs.moving.last_table.Goals as goal

pub loop-table-init : goal.loop-table-init
loop-table-init c = record {
  some = omega (arith, c.variable_count-table.ensures.value, c.variable_count-table.ensures.some);
  within = omega (arith, c.variable_count-table.ensures.value);
  ignored = ignored-end c.args.model.now c.parts.ensures.known c.args.action c.args.variable c.variable_count-table.result c.variable_count-table.ensures.value;
}

pub returns-then-not-is_ignored : goal.returns-then-not-is_ignored
returns-then-not-is_ignored c =
    let p = c.args.model.now in
    let within = c.loop-table.invariant.within in
    last_found p c.parts.ensures.known c.args.action c.args.variable (c.loop-table.table - 1) (omega (arith, c.loop-table-test.true)) (omega (arith, c.loop-table-test.true, within)) c.if-not-is_ignored.ensures
    (c.loop-table.invariant.ignored ∙ ap (λ (i : ℕ). all_ignore (problem p).sizes (from_table (problem p) c.args.action i) c.args.variable) (let e : c.loop-table.table ≡ c.loop-table.table - 1 + 1 = omega (arith, c.loop-table-test.true) in e))

pub loop-table-preserved : goal.loop-table-preserved
loop-table-preserved c =
    let p = c.args.model.now in
    let within = c.loop-table.invariant.within in
    record {
      some = omega (arith, c.loop-table-test.true);
      within = omega (arith, within);
      ignored = c.loop-table.invariant.ignored
          ∙ ap (λ (i : ℕ). all_ignore (problem p).sizes (from_table (problem p) c.args.action i) c.args.variable) (let e : c.loop-table.table ≡ c.loop-table.table - 1 + 1 = omega (arith, c.loop-table-test.true) in e)
          ∙ sym (ignored-on p c.parts.ensures.known c.args.action c.args.variable (c.loop-table.table - 1) (omega (arith, c.loop-table-test.true, within)) c.if-not-is_ignored.ensures);
    }

pub returns : goal.returns
returns c =
    let p = c.args.model.now in
    let some = c.loop-table.invariant.some in
    last_first p c.parts.ensures.known c.args.action c.args.variable
    (c.loop-table.invariant.ignored ∙ ap (λ (i : ℕ). all_ignore (problem p).sizes (from_table (problem p) c.args.action i) c.args.variable) (let e : c.loop-table.table ≡ 1 = omega (arith, c.loop-table-test.false, some) in e))

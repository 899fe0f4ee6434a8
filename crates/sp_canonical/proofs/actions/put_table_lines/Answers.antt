use Rattle.std.proofs.Common.{◌+◌, ◌++◌, ◌∙◌, ℕ, ap, map, drop, get_or, sym}
use Rattle.sp_canonical.specs.Lent.{lent_table}
use Rattle.sp_canonical.specs.declared.tables.NamedTable as code
use Rattle.sp_canonical.specs.ModelSigns.{function_lines, functions_lines, lines_total, tables_of}
use Rattle.sp_canonical.proofs.Loops.{went_on, get_or_any}
use Rattle.sp_canonical.proofs.TableLemmas.{lent_at, next_lent, next_lent_count}
use Rattle.sp_canonical.proofs.actions.put_table_lines.Goals as goal

pub put_lines-requires : goal.put_lines-requires
put_lines-requires c = lent_at c.args.tables.now c.loop-i.i c.index-tables-i.result c.loop-i-test.true c.requires

pub loop-i-preserved : goal.loop-i-preserved
loop-i-preserved c =
    let t : code.NamedTable = get_or c.args.tables.now c.loop-i.i c.index-tables-i.result in
    let is = get_or_any c.args.tables.now c.loop-i.i c.index-tables-i.result t c.loop-i-test.true in
    record {
      text = went_on _ _ _ _ _ (function_lines c.args.parts.now c.loop-i.base t.table.now) _ c.loop-i.invariant.text c.in_ok-put_lines.ensures
          (next_lent c.args.tables.now c.loop-i.i t c.loop-i-test.true is c.args.parts.now c.loop-i.base
          ∙ ap (λ (n : ℕ). function_lines c.args.parts.now c.loop-i.base t.table.now ++ functions_lines c.args.parts.now n (tables_of (map lent_table (drop (c.loop-i.i + 1) c.args.tables.now)))) (sym c.in_ok-base.ensures));
      next =
          ap (λ (n : ℕ). n + lines_total (tables_of (map lent_table (drop (c.loop-i.i + 1) c.args.tables.now)))) c.in_ok-base.ensures
          ∙ sym (next_lent_count c.args.tables.now c.loop-i.i t c.loop-i-test.true is c.loop-i.base) ∙ c.loop-i.invariant.next;
    }

use Rattle.sp_canonical.specs.Lent.{lent_table}
use Rattle.std.specs.Prelude.{map}
use Rattle.sp_canonical.proofs.TableLemmas.{tables_told}
use Rattle.sp_canonical.proofs.actions.put_tables.Goals as goal

pub returns-clause-text : goal.returns-clause-text
returns-clause-text c =
    tables_told c.args.parts.now c.args.name.now c.args.base (map lent_table c.args.moving.now) (map lent_table c.args.seen.now) c.args.cost.now _ _ _ _ _ _ _ _ _ _
    c.in_ok-from_seen.ensures.next c.in_ok-from_cost.ensures.next c.in_ok-from_seen.ensures.text c.in_ok-from_cost.ensures.text c.in_ok-put_lines.ensures c.in_ok-put_heading.ensures c.in_ok-put_named.ensures c.in_ok-put_observed.ensures c.in_ok-put_cost.ensures

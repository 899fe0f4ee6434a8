use Rattle.std.proofs.Common.{◌≡◌, ◌∙◌, List, ap, map, subst, sym}
use Rattle.std.specs.Prelude.{All}
use Rattle.sp_model.specs.Problem.{shape_of}
use Rattle.sp_canonical.specs.Lent.{lent_table}
use Rattle.sp_canonical.specs.Tables.{NamedTable}
use Rattle.sp_canonical.specs.declared.tables.NamedTable as code
use Rattle.sp_canonical.proofs.TableLemmas.{moving_of_shapes, seen_of_shapes}
use Rattle.sp_canonical.proofs.actions.put_action.Goals as goal

pub put_tables-requires-clause-moving : goal.put_tables-requires-clause-moving
put_tables-requires-clause-moving c =
    subst (λ (ts : List NamedTable). All (λ t. t.table.shape ≡ shape_of c.args.parts.now) ts) (sym (ap (λ (ts : List code.NamedTable). map lent_table ts) c.as_slice.ensures.value ∙ c.in_ok-moving.ensures))
    (moving_of_shapes c.args.parts.now c.args.action.now c.requires.action)

pub put_tables-requires-clause-seen : goal.put_tables-requires-clause-seen
put_tables-requires-clause-seen c =
    subst (λ (ts : List NamedTable). All (λ t. t.table.shape ≡ shape_of c.args.parts.now) ts) (sym (ap (λ (ts : List code.NamedTable). map lent_table ts) c.as_slice-2.ensures.value ∙ c.in_ok-seen.ensures))
    (seen_of_shapes c.args.parts.now c.args.action.now c.requires.action)

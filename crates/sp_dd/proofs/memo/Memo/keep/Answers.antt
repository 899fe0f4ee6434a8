use Rattle.std.proofs.Common.{◌≡◌, ◌++◌, ◌∷◌, [], List, arith, ap, refl, ◌∙◌}
use Rattle.std.proofs.lemmas.Grind.{common_steps}
use Rattle.sp_dd.specs.declared.memo.Entry.{Entry}
use Rattle.sp_dd.specs.Kept.{made_entry}
use Rattle.sp_dd.proofs.Flattened.{on_err}
use Rattle.sp_dd.proofs.Keeping.{entries_same, cells_push, cells_next}
use Rattle.sp_dd.proofs.memo.Memo.keep.Goals as goal

pub returns-in_err-cell-clause-err : goal.returns-in_err-cell-clause-err
returns-in_err-cell-clause-err c =
    on_err _ _ (entries_same _ _ _ _ _ c.self.view_is c.self.invariant c.in_err-cell.ensures.err refl ∙ c.mark.ensures)

pub returns-in_err-map_err-clause-err : goal.returns-in_err-map_err-clause-err
returns-in_err-map_err-clause-err c =
    let h : c.push.new.self.items ≡ c.self.inside.cells.items = grind (arith, common_steps) in
    on_err _ _ (entries_same _ _ _ _ _ c.self.view_is c.self.invariant c.in_ok-cell.ensures.ok.0 h ∙ c.mark.ensures)

pub invariant_of-self-2 : goal.invariant_of-self-2
invariant_of-self-2 c =
    let h : c.push.new.self.items ≡ c.self.inside.cells.items ++ c.in_ok-cell.cell ∷ [] = grind (arith, common_steps) in
    cells_next _ _ _ _ _ _ _ c.self.invariant c.in_ok-cell.ensures.ok.0 c.in_ok-cell.ensures.ok.1 h

pub returns-clause-ok : goal.returns-clause-ok
returns-clause-ok c =
    let h : c.push.new.self.items ≡ c.self.inside.cells.items ++ c.in_ok-cell.cell ∷ [] = grind (arith, common_steps) in
    cells_push _ _ _ _ _ _ _ _ c.self.view_is c.self.invariant c.in_ok-cell.ensures.ok.0 c.in_ok-cell.ensures.ok.1 h
    ∙ ap (λ (v : List Entry). v ++ made_entry c.args.state c.args.part ∷ []) c.mark.ensures

use Rattle.std.proofs.Common.{◌≡◌, ◌<◌, ◌+◌, ◌∙◌, Vec, Global, List, cond, ◌∷◌, ◌++◌, length, arith, get_or, drop, ap, sym, map, subst}
use Rattle.sp_model.specs.declared.parts.Decl.{Decl}
use Rattle.sp_dd.specs.Func.{Func}
use Rattle.sp_model.specs.Problem.{shape_of, no_decl}
use Rattle.sp_rows.specs.Tables.{identity}
use Rattle.std.specs.Prelude.{◌↔◌, IsTrue}
use Rattle.sp_canonical.specs.declared.tables.NamedTable.{NamedTable}
use Rattle.sp_canonical.specs.Lent.{lent_table}
use Rattle.sp_canonical.specs.Tables.{moving_tables, is_identity}
use Rattle.sp_canonical.proofs.Loops.{get_or_any}
use Rattle.sp_canonical.proofs.TableLemmas.{grown, next_moving, test_is, moves_count, move_shape, identity_at}
use Rattle.sp_canonical.proofs.tables.moving_tables.Goals as goal
use Rattle.sp_canonical.proofs.tables.moving_tables.Goals.{then-not-same+in_ok-add_table, else-not-same}

pub loop-i-preserved : goal.loop-i-preserved
loop-i-preserved c =
    let s = shape_of c.args.parts.now in
    let ds = c.as_slice-decls.result.now in
    let fs = c.as_slice-moves.result.now in
    let i = c.loop-i.i in
    let decls = ap (λ (l : List Decl). length l) c.as_slice-decls.ensures in
    let same : length c.as_slice-moves.result.now ≡ length c.as_slice-decls.result.now =
    ap (λ (l : List Func). length l) c.as_slice-moves.ensures ∙ moves_count c.args.parts.now c.args.action.now c.requires.action ∙ sym decls in
    let lower : c.loop-i.i < length c.as_slice-decls.result.now = c.loop-i-test.true in
    let within : c.loop-i.i < length c.as_slice-moves.result.now = omega arith in
    let variables : c.loop-i.i < length c.args.parts.now.variables = omega arith in
    let f : Func = c.index-moves-i.result in
    let shape : c.index-moves-i.result.shape ≡ shape_of c.args.parts.now =
    ap (λ (g : Func). g.shape) (c.index-moves-i.is ∙ ap (λ (l : List Func). get_or l i f) c.as_slice-moves.ensures) ∙ move_shape c.args.parts.now c.args.action.now i f c.requires.action variables in
    let kept : c.index-identities-i.result ≡ identity (shape_of c.args.parts.now) c.loop-i.i =
    c.index-identities-i.is ∙ identity_at s (length c.args.parts.now.variables) c.args.identities.now i c.index-identities-i.result c.requires.identities variables in
    let test : is_identity (shape_of c.args.parts.now) c.loop-i.i c.index-moves-i.result ≡ c.same.result =
    test_is s i f c.same.result shape (subst (λ (g : Func). IsTrue c.same.result ↔ (c.index-moves-i.result ≡ g)) kept c.same.ensures) in
    elim c.if-not-same.branch [
      | then-not-same+in_ok-add_table w ↦
          let d : Decl = get_or ds i w.index-decls-i.result in
          let is = get_or_any ds i w.index-decls-i.result d lower in
          grown lent_table _ _ _ _ _ (moving_tables (shape_of c.args.parts.now) (c.loop-i.i + 1) (drop (c.loop-i.i + 1) c.as_slice-decls.result.now) (drop (c.loop-i.i + 1) c.as_slice-moves.result.now)) c.loop-i.invariant
          (ap (λ (v : Vec NamedTable Global). v.items) w.tables-is ∙ w.in_ok-add_table.ensures)
          (next_moving s 0 i ds fs d f lower within is c.index-moves-i.is ∙ ap (λ b. cond b (moving_tables s (i + 1) (drop (i + 1) ds) (drop (i + 1) fs)) (record { name = d.name; table = f } ∷ moving_tables s (i + 1) (drop (i + 1) ds) (drop (i + 1) fs))) (test ∙ w.if-not-same.true))
      | else-not-same w ↦
          let d : Decl = get_or ds i no_decl in
          let is = get_or_any ds i no_decl d lower in
          ap (λ (v : Vec NamedTable Global). map lent_table v.items ++ moving_tables s (i + 1) (drop (i + 1) ds) (drop (i + 1) fs)) w.tables-is
          ∙ ap (λ m. map lent_table c.loop-i.tables.items ++ m)
          (sym (next_moving s 0 i ds fs d f lower within is c.index-moves-i.is ∙ ap (λ b. cond b (moving_tables s (i + 1) (drop (i + 1) ds) (drop (i + 1) fs)) (record { name = d.name; table = f } ∷ moving_tables s (i + 1) (drop (i + 1) ds) (drop (i + 1) fs))) (test ∙ w.if-not-same.false)))
          ∙ c.loop-i.invariant
    ]

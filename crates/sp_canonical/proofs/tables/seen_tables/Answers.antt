use Rattle.std.proofs.Common.{◌≡◌, ◌<◌, ◌+◌, ◌∙◌, List, drop, length, arith, get_or, ap, sym}
use Rattle.sp_model.specs.declared.parts.Decl.{Decl}
use Rattle.sp_dd.specs.Func.{Func}
use Rattle.sp_canonical.specs.Lent.{lent_table}
use Rattle.sp_canonical.specs.Tables.{named_tables}
use Rattle.sp_canonical.proofs.Loops.{get_or_any}
use Rattle.sp_canonical.proofs.TableLemmas.{grown, next_named, sight_count}
use Rattle.sp_canonical.proofs.tables.seen_tables.Goals as goal

pub loop-i-preserved : goal.loop-i-preserved
loop-i-preserved c =
    let ds = c.as_slice-decls.result.now in
    let fs = c.as_slice-sight.result.now in
    let i = c.loop-i.i in
    let same : length c.as_slice-sight.result.now ≡ length c.as_slice-decls.result.now =
    ap (λ (l : List Func). length l) c.as_slice-sight.ensures ∙ sight_count c.args.parts.now c.args.action.now c.requires ∙ sym (ap (λ (l : List Decl). length l) c.as_slice-decls.ensures) in
    let lower = c.loop-i-test.true in
    let within : c.loop-i.i < length c.as_slice-sight.result.now = omega arith in
    let d : Decl = get_or ds i c.index-decls-i.result in
    let f : Func = c.index-sight-i.result in
    grown lent_table _ _ _ _ _ (named_tables (drop (c.loop-i.i + 1) c.as_slice-decls.result.now) (drop (c.loop-i.i + 1) c.as_slice-sight.result.now)) c.loop-i.invariant c.in_ok-add_table.ensures
    (next_named ds fs i d f lower within (get_or_any ds i c.index-decls-i.result d lower) c.index-sight-i.is)

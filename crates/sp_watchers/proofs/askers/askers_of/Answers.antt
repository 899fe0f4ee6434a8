use Rattle.std.proofs.Common.{◌≡◌, sym, subst}
use Rattle.std.specs.Prelude.{All}
use Rattle.std.proofs.lemmas.List.Elements.{All-push}
use Rattle.sp_watchers.specs.declared.askers.Asker.{Asker}
use Rattle.sp_watchers.proofs.askers.askers_of.Goals as goal

pub loop-viewer-preserved : goal.loop-viewer-preserved
loop-viewer-preserved c =
    let a = c.in_ok-asker.asker in
    let p = c.args.first.now in
    subst (All (λ (x : Asker). x.desk.known.list ≡ p.list)) (sym c.in_ok-push.ensures.items) (All-push (λ (x : Asker). x.desk.known.list ≡ p.list) c.loop-viewer.askers.items a c.loop-viewer.invariant c.in_ok-asker.ensures)

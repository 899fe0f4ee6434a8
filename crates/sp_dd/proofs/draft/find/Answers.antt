use Rattle.std.proofs.Common.{◌≢◌, arith, ◌∙◌, sym, ◌-◌, drop}
use Rattle.std.proofs.lemmas.Bool.{false≢true}
use Rattle.sp_dd.specs.NodeLists.{made_node}
use Rattle.sp_dd.specs.Ordered.{node_at}
use Rattle.sp_dd.proofs.Indexing.{unfound_first, unfound_next}
use Rattle.sp_dd.proofs.draft.find.Goals as goal

pub loop-top-init : goal.loop-top-init
loop-top-init c = unfound_first _ _ _ _ _ c.requires.hashes c.requires.hash c.above-top.ensures.within c.above-top.ensures.all c.above-top.ensures.same

pub loop-top-preserved : goal.loop-top-preserved
loop-top-preserved c =
    let ne : node_at c.args.nodes.now (c.loop-top.top - 1) ≢ made_node c.args.slot (drop c.args.start c.args.list.now) =
    λ q. false≢true (sym c.if-is_at.false ∙ c.is_at.ensures.1 q) in
    unfound_next _ _ _ _ _ _ c.requires.hashes c.requires.hash c.loop-top.invariant (omega arith) ne c.before-top.ensures.within c.before-top.ensures.all c.before-top.ensures.same

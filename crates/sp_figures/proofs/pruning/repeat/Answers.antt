use Rattle.std.proofs.Common.{arith, sym, subst}
use Rattle.std.proofs.lemmas.List.Elements.{All-push}
use Rattle.std.proofs.lemmas.Option.{get_or_from_slice_get}
use Rattle.std.specs.Arc.{arc_value}
use Rattle.sp_model.specs.Problem.{problem}
use Rattle.sp_value.specs.Editions.{members_in}
use Rattle.sp_core.specs.Dominated.{IsDominatedPair}
use Rattle.sp_core.specs.Pruning.{AreDominatedIn}
use Rattle.sp_figures.proofs.pruning.repeat.Goals as goal

pub returns : goal.returns
returns c =
    let e = arc_value c.args.base.now in
    let dominated = IsDominatedPair (problem e.task.model) (members_in e) in
    subst (AreDominatedIn e) (sym c.in_ok-push.ensures.ok)
    (All-push dominated c.args.pairs.now c.at-pair.result.now c.requires (subst dominated (get_or_from_slice_get c.args.pairs.now 0 c.at-pair.result.now c.at-pair.result.now c.at-pair.ensures) (c.requires 0 c.at-pair.result.now (omega arith))))

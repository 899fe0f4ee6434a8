use Rattle.sp_checks.proofs.ItemLemmas.{observe_err, observe_then}
use Rattle.sp_checks.proofs.ListingLemmas.{begun_kept}
use Rattle.sp_checks.proofs.items.observe.Goals as goal

pub returns-in_err-begin_observe : goal.returns-in_err-begin_observe
returns-in_err-begin_observe c =
    observe_err c.args.env.now c.args.source.now c.args.listed.now c.args.keyword c.args.list.now c.from_residual.result _ c.in_err-begin_observe.field-0.0 c.begin_observe.new.listed c.from_residual.ensures.1 c.in_err-begin_observe.ensures

pub observed_in_turn-requires-clause-listed : goal.observed_in_turn-requires-clause-listed
observed_in_turn-requires-clause-listed c = begun_kept c.args.env.now c.args.listed.now _ c.args.keyword.start c.requires.listed c.in_ok-begin_observe.ensures

pub returns : goal.returns
returns c = observe_then c.args.env.now c.args.source.now c.args.listed.now c.args.keyword c.args.list.now c.begin_observe.new.listed c.observed_in_turn.result _ c.in_ok-begin_observe.ensures c.observed_in_turn.ensures

use Rattle.std.proofs.lemmas.Bool.{OnFalse_from}
use Rattle.sp_dd.specs.Func.{IsOnPrimed}
use Rattle.sp_dd.proofs.Diagramming.{on_true_from}
use Rattle.sp_yardstick.proofs.RowGuards.{on_primed, free_of_unprimed}
use Rattle.sp_yardstick.proofs.diagrams.is_on_primed.Goals as goal

pub returns-then-is_free_of_each-clause-yes : goal.returns-then-is_free_of_each-clause-yes
returns-then-is_free_of_each-clause-yes c = on_true_from _ _ _ (on_primed c.args.f.now c.if-is_free_of_each.ensures.yes) c.is_free_of_others.ensures.yes

pub returns-else-is_free_of_each-clause-no : goal.returns-else-is_free_of_each-clause-no
returns-else-is_free_of_each-clause-no c = OnFalse_from c.is_free_of_each.result (¬ IsOnPrimed c.args.f.now) (λ no on. c.if-is_free_of_each.ensures.no (free_of_unprimed c.args.f.now on))

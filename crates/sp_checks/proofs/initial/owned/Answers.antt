use Rattle.std.proofs.Common.{refl, sym, ap}
use Rattle.sp_dd.specs.Func.{Shape}
use Rattle.sp_checks.proofs.OwnLemmas.{own_within, own_few}
use Rattle.sp_checks.proofs.initial.owned.Goals as goal

pub check_values-requires-clause-own : goal.check_values-requires-clause-own
check_values-requires-clause-own c =
    own_within c.args.func.now.shape c.args.env.now.scope.variables c.args.share.now.judged.mentions c.in_ok-own.own (ap (λ (s : Shape). s.variables) (sym c.requires.shape)) c.in_ok-own.ensures

pub check_values-requires-clause-few : goal.check_values-requires-clause-few
check_values-requires-clause-few c =
    own_few c.args.env.now c.args.func.now.shape c.args.env.now.scope.variables c.args.share.now.judged.mentions c.in_ok-own.own c.requires.env c.requires.shape refl c.in_ok-own.ensures

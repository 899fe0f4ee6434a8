use Rattle.std.proofs.Common.{◌≡◌, ap, arith, length}
use Rattle.sp_dd.specs.Func.{Shape}
use Rattle.sp_belief.proofs.KeptLemmas.{come_to}
use Rattle.sp_belief.proofs.moving.carry_kept.Goals as goal

pub on_diagonals-requires-clause-within : goal.on_diagonals-requires-clause-within
on_diagonals-requires-clause-within c =
    let count : c.args.f.now.shape.variables ≡ length c.args.model.now.variables = ap (λ (s : Shape). s.variables) c.requires.carrying.both.shape in
    omega (arith, c.requires.within, count)

pub returns-clause-carrying : goal.returns-clause-carrying
returns-clause-carrying c =
    (come_to c.args.model.now c.parts.ensures.known c.args.action c.requires.action c.args.from c.args.to c.args.f.now _ c.scope.ensures.known c.scope.ensures.determined c.requires.order c.requires.within c.requires.carrying c.requires.kept c.in_ok-made.ensures).carrying

pub returns-clause-on_the_way : goal.returns-clause-on_the_way
returns-clause-on_the_way c =
    (come_to c.args.model.now c.parts.ensures.known c.args.action c.requires.action c.args.from c.args.to c.args.f.now _ c.scope.ensures.known c.scope.ensures.determined c.requires.order c.requires.within c.requires.carrying c.requires.kept c.in_ok-made.ensures).way

use Rattle.std.proofs.Common.{arith}
use Rattle.std.proofs.lemmas.List.Folds.{list_any_none}
use Rattle.sp_desk.specs.Desks.{is_open_as}
use Rattle.sp_desk.proofs.seats.place_of.Goals as goal

pub returns : goal.returns
returns c =
    let over = c.loop-place-test.false in
    list_any_none (is_open_as c.args.name.now) c.args.seats.now (λ k d less. c.loop-place.invariant k (omega (arith, less, over)) d)

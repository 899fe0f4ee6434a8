use Rattle.std.proofs.Common.{inr, refl}
use Rattle.std.specs.Arc.{arc_value}
use Rattle.std.proofs.lemmas.Bool.Decides.{when_true, when_false}
use Rattle.sp_core.specs.Settling.{IsOurs}
use Rattle.sp_planner.proofs.Later.{later_same}
use Rattle.sp_workers.proofs.sections.prune_on.Goals as goal

pub prune_ours-requires-clause-ours : goal.prune_ours-requires-clause-ours
prune_ours-requires-clause-ours c =
    when_true (IsOurs c.args.book.now (arc_value c.args.base.now)) (¬ IsOurs c.args.book.now (arc_value c.args.base.now)) c.if-is_ours.true (c.is_ours.ensures (arc_value c.args.base.now) c.requires.base)

pub returns-clause-ok : goal.returns-clause-ok
returns-clause-ok c =
    inr (
      when_false (IsOurs c.args.book.now (arc_value c.args.base.now)) (¬ IsOurs c.args.book.now (arc_value c.args.base.now)) c.if-is_ours.false (c.is_ours.ensures (arc_value c.args.base.now) c.requires.base),
      refl,
      refl,
    )

pub returns-clause-later : goal.returns-clause-later
returns-clause-later c = later_same _ _ refl

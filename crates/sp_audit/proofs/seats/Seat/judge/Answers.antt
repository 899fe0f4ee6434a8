use Rattle.std.proofs.Common.{map, subst, [], ◌∷◌}
use Rattle.std.specs.Arc.{arc_value}
use Rattle.sp_model.specs.Problem.{problem}
use Rattle.sp_session.specs.declared.logs.Entry.{Entry}
use Rattle.sp_session.specs.Logs.{entry_of}
use Rattle.sp_faults.specs.LogFaults.{AreSeen}
use Rattle.sp_audit.specs.Seats.{editions_in}
use Rattle.sp_audit.proofs.Entered.{over_wrong, known_observation}
use Rattle.sp_audit.proofs.seats.Seat.judge.Goals as goal

pub returns-then-self : goal.returns-then-self
returns-then-self c = over_wrong c.args.model.now (editions_in (map arc_value c.args.editions.now)) c.args.self.now (entry_of c.args.entry.now) c.if-self.true

pub judge_observe-requires-clause-observation : goal.judge_observe-requires-clause-observation
judge_observe-requires-clause-observation c =
    known_observation c.args.model.now c.in-Observe.observation (subst (λ (x : Entry). AreSeen (problem c.args.model.now) (entry_of x ∷ [])) c.in-Observe.is c.requires.seen).0

pub judge_unseen-requires-clause-observation : goal.judge_unseen-requires-clause-observation
judge_unseen-requires-clause-observation c =
    known_observation c.args.model.now c.in-Unseen.observation (subst (λ (x : Entry). AreSeen (problem c.args.model.now) (entry_of x ∷ [])) c.in-Unseen.is c.requires.seen).0

-- How a session is kept.
use Rattle.std.specs.Prelude.{ℕ, ◌≡◌, ◌<◌, map, length, Option, IfSome, false}
use Rattle.std.specs.Arc.{arc_value}
use Rattle.sp_dd.specs.Func.{Func}
use Rattle.sp_theory.specs.SessionLaws.{SessionsAgree}
use Rattle.sp_model.specs.Problem.{shape_of, problem}
use Rattle.sp_model.specs.Links.{weights_of}
use Rattle.sp_session.specs.declared.acting.Session.TheInside.{Inside}
use Rattle.sp_session.specs.Logs.{entries_of}
use Rattle.sp_session.specs.Sessions.{SessionParts, IsSession, session_of}

-- what contracts see of it
abbrev pub parts_in : Inside → SessionParts
parts_in s = record { name = s.name; task = arc_value s.task; entries = entries_of s.entries.items; editions = map arc_value s.editions.items }

-- weights, the newest number and the action to observe after are those to which the log leads; the weights agree at all states
pub record IsSeat (s : SessionParts) (weights : Func) (newest : ℕ) (acted : Option ℕ) : Type 0 where
  pub session : IsSession s
  pub shape : weights.shape ≡ shape_of s.task.model
  pub agree : SessionsAgree (problem s.task.model) (session_of s) (record { weights = weights_of s.task.model weights; newest = newest; acted = acted; closed = false })
  pub known : IfSome acted (λ a. a < length s.task.model.actions)

abbrev pub IsSeated : Inside → Type 0
IsSeated s = IsSeat (parts_in s) s.weights s.newest s.acted

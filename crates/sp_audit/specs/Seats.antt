-- Sessions and their answers, as an audit reads them.
use Rattle.std.specs.Prelude.{◌≡◌, ◌≢◌, ℕ, ◌<◌, ◌≤◌, List, length, map, get_or, Option, Some, None, IfSome}
use Rattle.sp_dd.specs.Func.{Func}
use Rattle.sp_theory.specs.Values as theory
use Rattle.sp_theory.specs.Agreement.{NextAgree}
use Rattle.sp_theory.specs.Logs.{Session, opening_session, weights_after_observation}
use Rattle.sp_theory.specs.SessionLaws.{SessionsAgree}
use Rattle.sp_model.specs.declared.parts.Parts.{Parts}
use Rattle.sp_model.specs.Problem.{problem, shape_of}
use Rattle.sp_model.specs.Links.{weights_of}
use Rattle.sp_value.specs.Editions.{EditionParts, members_in}
use Rattle.sp_faults.specs.LogFaults.{answer_of}
use Rattle.sp_audit.specs.declared.clause.Clause.{Clause}
use Rattle.sp_audit.specs.declared.clause.Clause.TheVariants as clauses
use Rattle.sp_audit.specs.declared.seats.Seat.{Seat}

-- a session, as the theory has it
abbrev pub session_of : Parts → Seat → Session
session_of p s = record { weights = weights_of p s.weights; newest = s.newest; acted = s.acted; closed = s.closed }

-- what holds of each seat: its weights are on the model's scope, and the action of the last answer is the model's
pub record IsReplaySeat (p : Parts) (s : Seat) : Type 0 where
  pub shape : s.weights.shape ≡ shape_of p
  pub acted : IfSome s.acted (λ a. a < length p.actions)

-- the session before any entry
pub record IsOpeningSeat (p : Parts) (s : Seat) : Type 0 where
  pub known : IsReplaySeat p s
  pub agrees : SessionsAgree (problem p) (session_of p s) (opening_session (problem p))

abbrev pub editions_in : List EditionParts → List theory.Edition
editions_in es = map members_in es

-- editions of one model
abbrev pub AreOfModel : Parts → List EditionParts → Type 0
AreOfModel p es = (k : ℕ) (d : EditionParts) → k < length es → (get_or es k d).task.model ≡ p

-- of the clauses on an answer the first that is broken; none where it names an edition that is there and not older, its greatest member and that member's action
abbrev pub IsAnswerJudged : Parts → List theory.Edition → Seat → ℕ → ℕ → ℕ → Option Clause → Type 0
IsAnswerJudged p es s e id action (Some clauses.Edition) = length es ≤ e
IsAnswerJudged p es s e id action (Some clauses.Older) = (e < length es) × (e < s.newest)
IsAnswerJudged p es s e id action (Some clauses.Greatest) = (e < length es) × (s.newest ≤ e) × (id ≢ (answer_of (problem p) es (session_of p s) e).id)
IsAnswerJudged p es s e id action (Some clauses.Action) =
    (e < length es) × (s.newest ≤ e) × (id ≡ (answer_of (problem p) es (session_of p s) e).id) × (action ≢ (answer_of (problem p) es (session_of p s) e).action)
IsAnswerJudged p es s e id action None =
    (e < length es) × (s.newest ≤ e) × (id ≡ (answer_of (problem p) es (session_of p s) e).id) × (action ≡ (answer_of (problem p) es (session_of p s) e).action) × (action < length p.actions)
IsAnswerJudged p es s e id action (Some other) = ⊥

-- what the session's weights become by a joint observation
abbrev pub AreWeightsAfter : Parts → Seat → ℕ → Option Func → Type 0
AreWeightsAfter p s o None = weights_after_observation (problem p) (session_of p s) o ≡ None
AreWeightsAfter p s o (Some w) = (w.shape ≡ shape_of p) × NextAgree (problem p) (weights_after_observation (problem p) (session_of p s) o) (Some (weights_of p w))

-- Logs of several desks that are put together.
use Rattle.std.specs.Prelude.{◌≡◌, ℕ, ◌<◌, ◌++◌, ◌∷◌, [], List, length, map, set, slice_index_or, Contains}
use Rattle.sp_theory.specs.Logs.{Log}
use Rattle.sp_session.specs.declared.logs.SessionLog.{SessionLog}
use Rattle.sp_session.specs.Logs.{logs_of}

abbrev pub log_names : List Log → List (List ℕ)
log_names logs = map (λ log. log.name) logs

-- the logs of a desk
abbrev pub logs_at : List (List SessionLog) → ℕ → List Log
logs_at desks d = logs_of (slice_index_or desks d [])

-- a desk has a log
abbrev pub HasLogs : List (List SessionLog) → ℕ → Type 0
HasLogs desks d = 0 < length (slice_index_or desks d [])

-- the log is one of those of so many parts
abbrev pub IsAmong : ℕ → (ℕ → List Log) → Log → Type 0
IsAmong n parts log = (d : ℕ) × (d < n) × Contains (parts d) log

-- the first log of a desk was put behind the others
pub record TakesFirst (all : List SessionLog) (desks : List (List SessionLog)) (d : ℕ) (more : List SessionLog) (left : List (List SessionLog)) : Type 0 where
  pub log : SessionLog
  pub rest : List SessionLog
  pub first : slice_index_or desks d [] ≡ log ∷ rest
  pub added : more ≡ all ++ log ∷ []
  pub behind : left ≡ set desks d rest

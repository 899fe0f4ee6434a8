-- What a legal run amounts to.
use Rattle.std.specs.Prelude.{◌≡◌, ◌≢◌, ℕ, suc, ◌+◌, ◌<◌, ℤ, pos, List, [], length, map, take, get_or, Option, Some, None}
use Rattle.sp_theory.specs.Agreement.{AllAgree, EditionsAgree}
use Rattle.sp_theory.specs.Book.{Event}
use Rattle.sp_theory.specs.Logs.{Log}
use Rattle.sp_model.specs.Problem.{problem}
use Rattle.sp_value.specs.Tasks.{TaskParts, task_of}
use Rattle.sp_value.specs.Editions.{EditionParts, members_in}
use Rattle.sp_ledger.specs.Opening.{AreNumbered}
use Rattle.sp_audit.specs.declared.judgments.Judgment.{Judgment}
use Rattle.sp_audit.specs.declared.judgments.Judgment.TheVariants as judged
use Rattle.sp_audit.specs.Clauses.{clause_of}
use Rattle.sp_audit.specs.ReplayParts.{ReplayParts}
use Rattle.sp_audit.specs.Verdicts.{AreLegal, AreWrong, run_editions, values_after}

-- the replay of these events: their editions, whose members agree with the run's at all states, and the values of these at belief 0
pub record IsReplayOf (t : TaskParts) (es : List Event) (r : ReplayParts) : Type 0 where
  pub task : r.task ≡ t
  pub numbered : AreNumbered t r.editions
  pub editions : AllAgree (problem t.model) (map members_in r.editions) (run_editions (task_of t) es)
  pub values : r.values ≡ values_after t es

-- legal, with the replay; or wrong
abbrev pub IsJudged : TaskParts → List Event → List Log → Judgment → Type 0
IsJudged t es logs (judged.Legal r) = AreLegal (task_of t) es logs × IsReplayOf t es r
IsJudged t es logs (judged.Wrong session event clause) = AreWrong (task_of t) es logs session event (clause_of clause)

-- the last edition of the run: the number, and members that agree at all states
pub record IsLastEdition (t : TaskParts) (es : List Event) (e : EditionParts) : Type 0 where
  pub task : e.task ≡ t
  pub last : suc e.number ≡ length (run_editions (task_of t) es)
  pub members : EditionsAgree (problem t.model) (members_in e) (get_or (run_editions (task_of t) es) e.number [])

-- the lists are one; or the first place at which they differ has that number, counted from 1
abbrev pub IsFirstOther : List ℤ → List ℤ → Option ℕ → Type 0
IsFirstOther xs ys None = xs ≡ ys
IsFirstOther xs ys (Some n) = (i : ℕ) × (n ≡ i + 1) × (i < length xs) × (take i xs ≡ take i ys) × (get_or xs i (pos 0) ≢ get_or ys i (pos 0))

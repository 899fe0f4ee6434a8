-- The commands that are left, served on the last edition, and the closing answers.
use Rattle.std.proofs.Common.{◌≡◌, ◌∙◌, sym, ap, subst, refl, arith, ℕ, ◌+◌, ◌-◌, ◌≤◌, List, [], ◌∷◌, ◌++◌, map, length}
use Rattle.sp_theory.specs.Values.{greatest_member}
use Rattle.sp_theory.specs.Logs.{Log, closing}
use Rattle.sp_model.specs.Problem.{problem}
use Rattle.sp_value.specs.Tasks.{TaskParts}
use Rattle.sp_value.specs.Editions.{EditionParts, members_in}
use Rattle.sp_session.specs.Sessions.{SessionParts, closed_log}
use Rattle.sp_script.specs.declared.command.Command.{Command}
use Rattle.sp_serving.specs.Replies.{Shown, session_in, closed_on, logs_with, logs_after}
use Rattle.sp_serving.specs.Serving.{ServingParts, after_first, with_next, log_in, shown_in}

-- the closing answer of a session, by the log alone
pub closed_alike : (s : SessionParts) (e : EditionParts) → s.task ≡ e.task → closed_log s e ≡ closed_on (problem e.task.model) (shown_in e) (log_in s)
closed_alike s e same = ap by_task same
  where
    by_task : TaskParts → Log
    by_task t =
        let x = greatest_member (problem t.model) (members_in e) (session_in (problem t.model) (log_in s)).weights in
        record { name = s.name; entries = s.entries ++ closing e.number x.id x.action ∷ [] }

-- after i commands: what all commands that were left bring is what those bring that still are
pub record IsRest (first : ServingParts) (shown : Shown) (i : ℕ) (s : ServingParts) : Type 0 where
  pub task : s.task ≡ first.task
  pub newest : s.newest ≤ shown.0
  pub logs : logs_after (problem first.task.model) [] shown s.logs s.left ≡ logs_after (problem first.task.model) [] shown first.logs first.left
  pub few : length s.left ≤ length first.left - i

pub rest_first : (s : ServingParts) (shown : Shown) → s.newest ≤ shown.0 → IsRest s shown 0 s
rest_first s shown later = record { task = refl; newest = later; logs = refl; few = omega arith }

pub rest_next : (first : ServingParts) (shown : Shown) (i : ℕ) (s next : ServingParts) → IsRest first shown i s → next ≡ with_next s shown → IsRest first shown (i + 1) next
unfolding logs_after
rest_next first shown i s next is same = subst (IsRest first shown (i + 1)) (sym same) (by_left s.left refl)
  where
    by_left : (left : List Command) → s.left ≡ left → IsRest first shown (i + 1) (after_first s shown left)
    by_left [] none = record { task = is.task; newest = is.newest; logs = is.logs; few = let n = ap (λ (cs : List Command). length cs) none in omega (arith, n) }
    by_left (c ∷ cs) some = record {
      task = is.task;
      newest = omega arith;
      logs =
          (λ j. logs_after (problem first.task.model) [] shown (logs_with (problem (is.task j).model) shown s.logs c) cs)
          ∙ ap (logs_after (problem first.task.model) [] shown s.logs) (sym some)
          ∙ is.logs;
      few = let n = ap (λ (ds : List Command). length ds) some in let few = is.few in omega (arith, n, few);
    }

-- with none left the logs are what all commands bring
pub rest_last : (first : ServingParts) (shown : Shown) (i : ℕ) (s : ServingParts) → IsRest first shown i s → length first.left ≤ i → s.logs ≡ logs_after (problem first.task.model) [] shown first.logs first.left
unfolding logs_after
rest_last first shown i s is all = by_left s.left refl
  where
    by_left : (left : List Command) → s.left ≡ left → s.logs ≡ logs_after (problem first.task.model) [] shown first.logs first.left
    by_left [] none = ap (logs_after (problem first.task.model) [] shown s.logs) (sym none) ∙ is.logs
    by_left (c ∷ cs) some = absurd (let n = ap (λ (ds : List Command). length ds) some in let few = is.few in omega (arith, n, few, all))

-- What the calls of a session answer.
use Rattle.std.specs.Prelude.{◌≡◌, ℕ, ◌<◌, length, IsSome, IsNone}
use Rattle.sp_theory.specs.Values as theory
use Rattle.sp_theory.specs.Logs.{weights_after_observation}
use Rattle.sp_model.specs.Problem.{problem}
use Rattle.sp_value.specs.Editions.{EditionParts, members_in}
use Rattle.sp_session.specs.declared.answers.Answer.{Answer}
use Rattle.sp_session.specs.declared.answers.ObserveError.{ObserveError}
use Rattle.sp_session.specs.declared.answers.ObserveError.TheVariants.{NoAction, Unseen, NoMemory}
use Rattle.sp_session.specs.Sessions.{SessionParts, session_of, answering_member, with_answer, with_observed, with_unseen}

-- ---- answers
-- the answer names the edition, its greatest member at the session's belief, that member's action and its value there
pub record IsAnswerOf (s : SessionParts) (e : EditionParts) (answer : Answer) : Type 0 where
  pub edition : answer.edition ≡ e.number
  pub member : answer.member ≡ (answering_member s e).id
  pub action : answer.action ≡ (answering_member s e).action
  pub value : answer.value ≡ theory.value (problem s.task.model) (members_in e) (session_of s).weights
  pub known : answer.action < length s.task.model.actions

-- the answer, and the session after it
pub record IsAnswered (s : SessionParts) (e : EditionParts) (answer : Answer) (after : SessionParts) : Type 0 where
  pub is : IsAnswerOf s e answer
  pub leaves : after ≡ with_answer s e

-- ---- observations
-- the observation was taken: an answer came before it, and there are next weights
pub record HasObserved (s : SessionParts) (o : ℕ) (after : SessionParts) : Type 0 where
  pub seen : IsSome (weights_after_observation (problem s.task.model) (session_of s) o)
  pub leaves : after ≡ with_observed s o

-- it was not: no answer came before it, or there are no next weights; want of memory tells nothing
abbrev pub RefusesObservation : SessionParts → ℕ → ObserveError → SessionParts → Type 0
RefusesObservation s o NoAction after = IsNone (session_of s).acted × (after ≡ s)
RefusesObservation s o Unseen after = IsSome (session_of s).acted × IsNone (weights_after_observation (problem s.task.model) (session_of s) o) × (after ≡ with_unseen s o)
RefusesObservation s o NoMemory after = after ≡ s

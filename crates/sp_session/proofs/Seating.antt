-- What a session keeps after each call.
use Rattle.std.proofs.Common.{◌≡◌, ◌∙◌, sym, ap, subst, refl, ℕ, ◌≤◌, ◌<◌, List, [], ◌∷◌, ◌++◌, length, false, Option, Some, None}
use Rattle.std.specs.Prelude.{ℤ, All, IsSome, IsNone, IfSome, slice_index_or, unwrap_or, option_and_then}
use Rattle.std.proofs.lemmas.List.{map-append}
use Rattle.std.proofs.lemmas.List.Elements.{All-nil}
use Rattle.sp_dd.specs.Func.{Func}
use Rattle.sp_theory.specs.Points.{count_of, point_of}
use Rattle.sp_theory.specs.Model.{Model}
use Rattle.sp_theory.specs.Values as theory
use Rattle.sp_theory.specs.Values.{Weights, greatest_member, value}
use Rattle.sp_theory.specs.Beliefs.{next_weights}
use Rattle.sp_theory.specs.Agreement.{NextAgree, MembersAgree}
use Rattle.sp_theory.specs.Logs.{Entry, told, act, observe, unseen, Session, opening_session, seen_by, weights_after_observation, MayEnter, after_entry, IsLog, session_after}
use Rattle.sp_theory.specs.SessionLaws.{SessionsAgree}
use Rattle.sp_theory.proofs.Agreement.{greatest_member_agrees, value_same}
use Rattle.sp_theory.proofs.LogLemmas.{next_agrees, after_entry_agrees, edition_same}
use Rattle.sp_model.specs.declared.parts.Parts.{Parts}
use Rattle.sp_model.specs.Problem.{sizes_of, shape_of, problem}
use Rattle.sp_model.specs.Links.{weights_of}
use Rattle.sp_value.specs.Tasks.{TaskParts, IsTask}
use Rattle.sp_value.specs.Editions.{EditionParts, IsEdition, IsGreatestAt, member_of, members_in, no_member}
use Rattle.sp_value.proofs.Vectors.{member_at}
use Rattle.sp_belief.specs.Updates.{AreInitial, AreNext, IsUnseen}
use Rattle.sp_session.specs.declared.answers.Answer.{Answer}
use Rattle.sp_session.specs.Sessions.{SessionParts, IsSession, IsEditionOf, IsEntryOf, session_of, shelf_of, answered_numbers, first_parts, answering_member, with_answer, with_told, with_observed, with_unseen}
use Rattle.sp_session.specs.Seats.{IsSeat}
use Rattle.sp_session.specs.declared.answers.ObserveError.TheVariants as errors
use Rattle.sp_session.specs.Answering.{IsAnswerOf, HasObserved, RefusesObservation}
use Rattle.sp_session.proofs.Entering.{session_after-append, log_append, one_more, numbers-append, numbers_stay, log_on_more, last_on_shelf, next_trans, some_next, no_next}

-- ---- before any command
pub first_seat : (name : List ℕ) (t : TaskParts) → IsTask t → (w : Func) → AreInitial t.model w → w.shape ≡ shape_of t.model → IsSeat (first_parts name t) w 0 None
unfolding session_after opening_session IsLog
first_seat name t is w first shape = record {
  session = record { task = is; editions = All-nil (IsEditionOf t); log = tt; going = refl; answered = refl; known = All-nil (IsEntryOf t.model) };
  shape = shape;
  agree = record { weights = λ s p. sym (first.agree s p); newest = refl; acted = refl; closed = refl };
  known = tt;
}

module _ (s : SessionParts) (w : Func) (newest : ℕ) (acted : Option ℕ) (seat : IsSeat s w newest acted) where
  abbrev pub m : Model
  m = problem s.task.model

  -- the session as it is kept
  abbrev pub kept : Session
  kept = record { weights = weights_of s.task.model w; newest = newest; acted = acted; closed = false }

  agree_after : (x : Entry) → SessionsAgree m (session_after m (opening_session m) (s.entries ++ x ∷ [])) (after_entry m kept x)
  agree_after x = subst (λ (t : Session). SessionsAgree m t (after_entry m kept x)) (sym (session_after-append m (opening_session m) s.entries x)) (after_entry_agrees m (session_of s) kept seat.agree x)

  open_after : (x : Entry) → (after_entry m (session_of s) x).closed ≡ false → (session_after m (opening_session m) (s.entries ++ x ∷ [])).closed ≡ false
  open_after x is = ap (λ (t : Session). t.closed) (session_after-append m (opening_session m) s.entries x) ∙ is

  -- with an entry that is no answer
  entered : (x : Entry) → MayEnter m (seen_by (shelf_of s.editions)) (session_of s) x → (after_entry m (session_of s) x).closed ≡ false → answered_numbers (x ∷ []) ≡ [] → IsEntryOf s.task.model x
      → IsSession (record s { entries = s.entries ++ x ∷ [] })
  entered x may going none known = record {
    task = seat.session.task;
    editions = seat.session.editions;
    log = log_append m (seen_by (shelf_of s.editions)) (opening_session m) s.entries x seat.session.log may;
    going = open_after x going;
    answered = numbers_stay s.entries x none ∙ seat.session.answered;
    known = one_more (IsEntryOf s.task.model) s.entries x seat.session.known known;
  }

  -- ---- told
  pub seat_told : (number : ℕ) → (session_of s).newest ≤ number → IsSeat (with_told s number) w number acted
  unfolding MayEnter after_entry
  seat_told number less = record {
    session = entered (told number) (seat.session.going, less, tt) seat.session.going refl tt;
    shape = seat.shape;
    agree = agree_after (told number);
    known = seat.known;
  }

  -- ---- observations
  session_acted : (a : ℕ) → acted ≡ Some a → (session_of s).acted ≡ Some a
  session_acted a is = seat.agree.acted ∙ is

  -- the observation, where the last action is known
  observed_is : (a o : ℕ) → acted ≡ Some a → weights_after_observation m (session_of s) o ≡ next_weights m (session_of s).weights a (point_of m.sight_sizes o)
  observed_is a o is = ap (λ (x : Option ℕ). option_and_then (λ b. next_weights m (session_of s).weights b (point_of m.sight_sizes o)) x) (session_acted a is)

  observed_agrees : (a o : ℕ) → acted ≡ Some a → NextAgree m (weights_after_observation m (session_of s) o) (next_weights m (weights_of s.task.model w) a (point_of m.sight_sizes o))
  observed_agrees a o is = subst (λ (x : Option Weights). NextAgree m x (next_weights m (weights_of s.task.model w) a (point_of m.sight_sizes o))) (sym (observed_is a o is))
      (next_agrees m (session_of s).weights (weights_of s.task.model w) a (point_of m.sight_sizes o) seat.agree.weights)

  in_range : (o : ℕ) → o < count_of (sizes_of s.task.model.sights) → o < count_of m.sight_sizes
  unfolding problem
  in_range o less = less

  pub is_seen : (a o : ℕ) → acted ≡ Some a → (v : Func) → AreNext s.task.model w a o v → IsSome (weights_after_observation m (session_of s) o)
  is_seen a o is v next = (some_next m (weights_after_observation m (session_of s) o) (weights_of s.task.model v) (session_of s).weights (next_trans m _ _ _ (observed_agrees a o is) next.agree)).0

  pub seat_observed : (a o : ℕ) → acted ≡ Some a → o < count_of (sizes_of s.task.model.sights) → (v : Func) → AreNext s.task.model w a o v → v.shape ≡ shape_of s.task.model → IsSeat (with_observed s o) v newest None
  unfolding MayEnter after_entry
  seat_observed a o is less v next shape = record {
    session = entered (observe o) (seat.session.going, in_range o less, is_seen a o is v next) seat.session.going refl less;
    shape = shape;
    agree = subst (λ (t : Session). SessionsAgree m t (record { weights = weights_of s.task.model v; newest = newest; acted = None; closed = false })) (sym (session_after-append m (opening_session m) s.entries (observe o)))
        (record {
          weights = (some_next m (weights_after_observation m (session_of s) o) (weights_of s.task.model v) (session_of s).weights (next_trans m _ _ _ (observed_agrees a o is) next.agree)).1;
          newest = seat.agree.newest;
          acted = refl;
          closed = seat.agree.closed;
        });
    known = tt;
  }

  pub is_unseen : (a o : ℕ) → acted ≡ Some a → IsUnseen s.task.model w a o → IsNone (weights_after_observation m (session_of s) o)
  is_unseen a o is none = no_next m (weights_after_observation m (session_of s) o) (subst (λ (x : Option Weights). NextAgree m (weights_after_observation m (session_of s) o) x) none (observed_agrees a o is))

  pub has_acted : (a : ℕ) → acted ≡ Some a → IsSome (session_of s).acted
  has_acted a is = ap (λ (x : Option ℕ). Rattle.std.specs.Prelude.is_some x) (session_acted a is)

  pub seat_unseen : (a o : ℕ) → acted ≡ Some a → o < count_of (sizes_of s.task.model.sights) → IsUnseen s.task.model w a o → IsSeat (with_unseen s o) w newest acted
  unfolding MayEnter after_entry
  seat_unseen a o is less none = record {
    session = entered (unseen o) (seat.session.going, in_range o less, has_acted a is, is_unseen a o is none) seat.session.going refl less;
    shape = seat.shape;
    agree = agree_after (unseen o);
    known = seat.known;
  }

  -- ---- answers
  module _ (e : EditionParts) (edition : IsEdition e) (same : e.task ≡ s.task) where
    -- the greatest member at the kept weights is greatest at the session's
    greatest_is : MembersAgree m (greatest_member m (members_in e) (session_of s).weights) (greatest_member m (members_in e) (weights_of s.task.model w))
    greatest_is = greatest_member_agrees m (members_in e) (members_in e) (session_of s).weights (weights_of s.task.model w) (edition_same m (members_in e)) seat.agree.weights

    value_is : value m (members_in e) (session_of s).weights ≡ value m (members_in e) (weights_of s.task.model w)
    value_is = value_same m (members_in e) (members_in e) (session_of s).weights (weights_of s.task.model w) (edition_same m (members_in e)) seat.agree.weights

    pub is_answer : (place : ℕ) → IsGreatestAt e (weights_of e.task.model w) place → (answer : Answer) → answer.edition ≡ e.number
        → answer.member ≡ (slice_index_or e.members place no_member).id → answer.action ≡ (slice_index_or e.members place no_member).action
        → answer.value ≡ value (problem e.task.model) (members_in e) (weights_of e.task.model w) → IsAnswerOf s e answer
    is_answer place at answer number member action worth = record {
      edition = number;
      member = member ∙ ap (λ (x : theory.Member). x.id) greatest ∙ sym greatest_is.0;
      action = action ∙ ap (λ (x : theory.Member). x.action) greatest ∙ sym greatest_is.1;
      value = worth ∙ ap (λ (p : Parts). value (problem p) (members_in e) (weights_of p w)) model ∙ sym value_is;
      known = subst (λ (p : Parts). answer.action < length p.actions) model (subst (λ (n : ℕ). n < length e.task.model.actions) (sym action) (member_at e edition place at.within).action);
    }
      where
        model : e.task.model ≡ s.task.model
        model = ap (λ (t : TaskParts). t.model) same

        greatest : member_of e.task.model (slice_index_or e.members place no_member) ≡ greatest_member m (members_in e) (weights_of s.task.model w)
        greatest = at.greatest ∙ ap (λ (p : Parts). greatest_member (problem p) (members_in e) (weights_of p w)) model

    pub seat_answered : (session_of s).newest ≤ e.number → (answer : Answer) → IsAnswerOf s e answer → IsSeat (with_answer s e) w e.number (Some answer.action)
    unfolding MayEnter after_entry
    seat_answered less answer is = record {
      session = record {
        task = seat.session.task;
        editions = one_more (IsEditionOf s.task) s.editions e seat.session.editions (record { edition = edition; task = same });
        log = log_append m (seen_by (shelf_of (s.editions ++ e ∷ []))) (opening_session m) s.entries entry
            (log_on_more m s.editions e (opening_session m) s.entries seat.session.log)
            (seat.session.going, less, (members_in e, last_on_shelf s.editions e, refl, refl));
        going = open_after entry seat.session.going;
        answered = numbers-append s.entries (entry ∷ []) ∙ ap (λ (ns : List ℕ). ns ++ e.number ∷ []) seat.session.answered ∙ sym (map-append (λ (d : EditionParts). d.number) s.editions (e ∷ []));
        known = one_more (IsEntryOf s.task.model) s.entries entry seat.session.known known;
      };
      shape = seat.shape;
      agree = subst (λ (a : ℕ). SessionsAgree m (session_after m (opening_session m) (s.entries ++ entry ∷ [])) (record { weights = weights_of s.task.model w; newest = e.number; acted = Some a; closed = false })) (sym is.action) (agree_after entry);
      known = is.known;
    }
      where
        entry : Entry
        entry = act e.number (answering_member s e).id (answering_member s e).action

        known : (answering_member s e).action < length s.task.model.actions
        known = subst (λ (n : ℕ). n < length s.task.model.actions) is.action is.known

    -- the same, with the lists as they are kept
    pub seat_acted : (session_of s).newest ≤ e.number → (answer : Answer) → IsAnswerOf s e answer → (xs : List Entry) → xs ≡ s.entries ++ act answer.edition answer.member answer.action ∷ [] → (es : List EditionParts) → es ≡ s.editions ++ e ∷ []
        → IsSeat (record s { entries = xs; editions = es }) w answer.edition (Some answer.action)
    seat_acted less answer is xs entries es editions =
        subst (λ (n : ℕ). IsSeat (record s { entries = xs; editions = es }) w n (Some answer.action)) (sym is.edition)
        (subst (λ (p : SessionParts). IsSeat p w e.number (Some answer.action)) (sym alike) (seat_answered less answer is))
      where
        entered_is : xs ≡ (with_answer s e).entries
        entered_is = entries ∙ (λ i. s.entries ++ act (is.edition i) (is.member i) (is.action i) ∷ [])

        alike : record s { entries = xs; editions = es } ≡ with_answer s e
        alike = λ i. record s { entries = entered_is i; editions = editions i }

-- ---- as contracts see it
pub answer_seen : (s v : SessionParts) (e : EditionParts) (answer : Answer) → s ≡ v → IsAnswerOf s e answer → IsAnswerOf v e answer
answer_seen s v e answer same is = subst (λ (p : SessionParts). IsAnswerOf p e answer) same is

pub observed_seen : (s v after : SessionParts) (o : ℕ) → s ≡ v → IsSome (weights_after_observation (problem s.task.model) (session_of s) o) → after ≡ with_observed s o → HasObserved v o after
observed_seen s v after o same seen is = subst (λ (p : SessionParts). HasObserved p o after) same (record { seen = seen; leaves = is })

pub refused_seen : (s v after : SessionParts) (o : ℕ) → s ≡ v → IsSome (session_of s).acted → IsNone (weights_after_observation (problem s.task.model) (session_of s) o) → after ≡ with_unseen s o → RefusesObservation v o errors.Unseen after
refused_seen s v after o same acted none is = subst (λ (p : SessionParts). RefusesObservation p o errors.Unseen after) same (acted, none, is)

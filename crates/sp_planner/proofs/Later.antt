-- Books that stand later in a run.
use Rattle.std.proofs.Common.{◌≡◌, ◌∙◌, sym, ap, subst, ℕ, List, [], ◌∷◌, ◌++◌, append_assoc, Bool, true, false, cond, MatchBool}
use Rattle.std.proofs.lemmas.List.{append-nil}
use mathlib.Core.List.{IsPrefix}
use Rattle.sp_theory.specs.Book.{Event, prune}
use Rattle.sp_theory.specs.OneThread.{applying}
use Rattle.sp_value.specs.Editions.{EditionParts}
use Rattle.sp_value.specs.Candidates.{CandidateParts}
use Rattle.sp_core.specs.declared.answers.Settled.{Settled}
use Rattle.sp_core.specs.declared.answers.Settled.TheVariants as settled
use Rattle.sp_core.specs.declared.answers.Pruned.{Pruned}
use Rattle.sp_core.specs.declared.answers.Pruned.TheVariants as pruned
use Rattle.sp_core.specs.Books.{BookParts, state_of}
use Rattle.sp_core.specs.Settling.{IsOurs, IsSettled, IsSettledBy, answer_for, events_for}
use Rattle.sp_core.specs.Pruning.{IsPruned, IsPruneOf}
use Rattle.sp_planner.specs.Turns.{IsLaterBook}

pub later_same : (b d : BookParts) → d ≡ b → IsLaterBook b d
later_same b d same = record {
  task = ap (λ (x : BookParts). x.task) same;
  more = [];
  history = ap (λ (x : BookParts). x.history) same ∙ sym (append-nil b.history);
  editions = ([], append-nil b.editions ∙ ap (λ (x : BookParts). x.editions) (sym same));
}

pub later_then : (b d e : BookParts) → IsLaterBook b d → IsLaterBook d e → IsLaterBook b e
later_then b d e first next = record {
  task = next.task ∙ first.task;
  more = first.more ++ next.more;
  history = next.history ∙ ap (λ (es : List Event). es ++ next.more) first.history ∙ append_assoc b.history first.more next.more;
  editions = (
    first.editions.0 ++ next.editions.0,
    sym (append_assoc b.editions first.editions.0 next.editions.0) ∙ ap (λ (es : List EditionParts). es ++ next.editions.0) first.editions.1 ∙ next.editions.1,
  );
}

-- a mark changes no event
pub later_taken : (c : Bool) (b d : BookParts) (marks : List Bool) → d ≡ cond c b (record b { taken = marks }) → IsLaterBook b d
later_taken true b d marks same = later_same b d same
later_taken false b d marks same = record {
  task = ap (λ (x : BookParts). x.task) same;
  more = [];
  history = ap (λ (x : BookParts). x.history) same ∙ sym (append-nil b.history);
  editions = ([], append-nil b.editions ∙ ap (λ (x : BookParts). x.editions) (sym same));
}

-- after a settle
pub later_settled : (b : BookParts) (c : CandidateParts) (answer : Settled) (d : BookParts) → IsSettled b c answer d → IsLaterBook b d
later_settled b c answer d is = by_state (state_of b).done is
  where
    by_state : (over : Bool) → MatchBool over ((answer ≡ settled.Over) × (d ≡ b)) (IsOurs b c.base × (answer ≡ answer_for b c) × IsSettledBy b c d) → IsLaterBook b d
    by_state true h = later_same b d h.1
    by_state false h = record { task = h.2.task; more = events_for b c; history = h.2.history; editions = (h.2.editions.0, sym h.2.editions.1) }

-- after a prune
pub later_pruned : (b : BookParts) (e : EditionParts) (pairs : List (ℕ × ℕ)) (answer : Pruned) (d : BookParts) → IsPruned b e pairs answer d → IsLaterBook b d
later_pruned b e pairs answer d is = by_state (state_of b).done is
  where
    by_pairs : (applied : List (ℕ × ℕ)) → IsPruneOf b applied answer d → IsLaterBook b d
    by_pairs [] h = later_same b d h.1
    by_pairs (pair ∷ rest) h = record { task = h.1.task; more = prune (pair ∷ rest) ∷ []; history = h.1.history; editions = (h.1.editions.0 ∷ [], sym h.1.editions.1) }

    by_state : (over : Bool) → MatchBool over ((answer ≡ pruned.Over) × (d ≡ b)) (IsOurs b e × IsPruneOf b (applying (state_of b).latest pairs) answer d) → IsLaterBook b d
    by_state true h = later_same b d h.1
    by_state false h = by_pairs (applying (state_of b).latest pairs) h.1

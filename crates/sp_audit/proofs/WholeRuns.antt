-- A run as it is judged, one event after another.
use Rattle.std.proofs.Common.{◌≡◌, ◌∙◌, sym, ap, subst, refl, arith, ℕ, ◌+◌, ◌<◌, ◌≤◌, List, ◌∷◌, length, take, drop, true, false}
use Rattle.std.proofs.lemmas.List.{drop_all, take_all}
use Rattle.sp_theory.specs.Book.{Event, opening}
use Rattle.sp_theory.specs.Runs.{IsHistory, replay, IsLegal}
use Rattle.sp_value.specs.Tasks.{TaskParts, task_of}
use Rattle.sp_faults.specs.RunFaults.{IsEventFault, IsWrongRun}
use Rattle.sp_faults.specs.Clauses as clause
use Rattle.sp_audit.specs.declared.clause.Clause.{Clause}
use Rattle.sp_audit.specs.States.{ReplayContents, IsStateAfter}
use Rattle.sp_audit.specs.Clauses.{clause_of}
use Rattle.sp_audit.specs.Judging.{IsWrongNext}
use Rattle.sp_audit.proofs.Faults.{book_done}

pub wrong_at : (c : ReplayContents) (es : List Event) (k : ℕ) (x : Event) (rest : List Event) → IsStateAfter (take k es) c → drop k es ≡ x ∷ rest → k < length es → (w : Clause) → IsWrongNext c x w → (t : TaskParts) → c.task ≡ t → IsWrongRun (task_of t) es k (clause_of w)
wrong_at c es k x rest rep is less w wrong t same = subst (λ (u : TaskParts). IsWrongRun (task_of u) es k (clause_of w)) same (record {
  within = omega (arith, less);
  history = rep.replayed.history;
  fault = subst (λ (xs : List Event). IsEventFault (task_of c.task) (replay (task_of c.task) (opening (task_of c.task)) (take k es)) xs (clause_of w)) (sym is) (wrong (take k es) rep);
})

pub wrong_end : (c : ReplayContents) (es : List Event) → IsStateAfter es c → c.done ≡ false → (t : TaskParts) → c.task ≡ t → IsWrongRun (task_of t) es (length es) clause.unfinished
wrong_end c es rep going t same = subst (λ (u : TaskParts). IsWrongRun (task_of u) es (length es) clause.unfinished) same (record {
  within = omega arith;
  history = subst (λ (xs : List Event). IsHistory (task_of c.task) (opening (task_of c.task)) xs) (sym whole) rep.replayed.history;
  fault = subst (λ (xs : List Event). IsEventFault (task_of c.task) (replay (task_of c.task) (opening (task_of c.task)) (take (length es) es)) xs clause.unfinished) (sym (drop_all (length es) es (omega arith)))
      (ap (λ (xs : List Event). (replay (task_of c.task) (opening (task_of c.task)) xs).done) whole ∙ book_done c es rep ∙ going, refl);
})
  where
    whole : take (length es) es ≡ es
    whole = take_all (length es) es (omega arith)

-- the law: a run that was replayed to its end is legal
pub replayed_is_legal : (c : ReplayContents) (es : List Event) → IsStateAfter es c → c.done ≡ true → (t : TaskParts) → c.task ≡ t → IsLegal (task_of t) es
replayed_is_legal c es rep over t same = subst (λ (u : TaskParts). IsLegal (task_of u) es) same (rep.replayed.history, book_done c es rep ∙ over)

-- a run that was replayed to the end of its list, and is not over
pub unfinished : (c : ReplayContents) (es : List Event) (k n : ℕ) → length es ≤ k → IsStateAfter (take k es) c → c.done ≡ false → (t : TaskParts) → c.task ≡ t → n ≡ length es + 1 → (i : ℕ) × (n ≡ i + 1) × IsWrongRun (task_of t) es i clause.unfinished
unfinished c es k n past rep going t same count = (length es, count, wrong_end c es (subst (λ (xs : List Event). IsStateAfter xs c) (take_all k es past) rep) going t same)

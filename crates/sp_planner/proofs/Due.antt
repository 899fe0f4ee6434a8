-- What is due after a settle.
use Rattle.std.proofs.Common.{◌≡◌, ◌∙◌, sym, ap, refl, ℕ, ◌+◌, List, [], ◌∷◌, ◌++◌, length, length-append, arith, Bool, true, false, cond, eqb, Option, Some, None}
use Rattle.sp_theory.specs.Values.{Member}
use Rattle.sp_theory.specs.Book.{Task, Book, Event, publish, end, editions, entered, after_event}
use Rattle.sp_theory.specs.Runs.{replay}
use Rattle.sp_theory.specs.OneThread.{settled_at, all_improved, due_events, pruning_events}
use Rattle.sp_theory.proofs.OneThread.{kept_by_entered}

module _ (t : Task) where
  entered_editions : (b : Book) (o : Option Member) → editions (entered t b o) ≡ editions b
  unfolding entered
  entered_editions b None = refl
  entered_editions b (Some x) = refl

  module _ (b : Book) (k : ℕ) where
    -- the backup leaves editions, and whether the run is over
    pub settled_editions : editions (after_event t b (settled_at t b k)) ≡ editions b
    unfolding after_event settled_at
    settled_editions = entered_editions _ _

    pub settled_done : (after_event t b (settled_at t b k)).done ≡ b.done
    unfolding after_event settled_at
    settled_done = (kept_by_entered t _ _).1

  module _ (next : Book) where
    -- a publication adds an edition
    pub count_due : length (editions (replay t next (due_events t false next))) ≡ length (editions next) + cond (all_improved t next) 1 0
    unfolding due_events replay after_event
    count_due = by_test (all_improved t next) (eqb (after_event t next publish).stages_left 0)
      where
        by_test : (up last : Bool) → length (editions (replay t next (cond up (publish ∷ cond last (end ∷ []) []) []))) ≡ length (editions next) + cond up 1 0
        by_test true true = length-append (editions next) (next.grown ∷ [])
        by_test true false = length-append (editions next) (next.grown ∷ [])
        by_test false last = omega arith

    pub none_due : (pruning : Bool) → all_improved t next ≡ false → due_events t pruning next ≡ []
    unfolding due_events
    none_due pruning down = ap (λ (up : Bool). cond up (publish ∷ cond (eqb (after_event t next publish).stages_left 0) (end ∷ []) (cond pruning (pruning_events t (after_event t next publish)) [])) []) down

    -- the prune that is due after what is due without it
    abbrev pub prune_after : Bool → Book → List Event
    prune_after pruning b = cond b.done [] (cond pruning (pruning_events t b) [])

    pub due_with_prune : (pruning : Bool) → next.done ≡ false → all_improved t next ≡ true
        → due_events t false next ++ prune_after pruning (replay t next (due_events t false next)) ≡ due_events t pruning next
    unfolding due_events replay after_event
    due_with_prune pruning going up =
        ap (λ (c : Bool). due c false ++ prune_after pruning (replay t next (due c false))) up
        ∙ by_last (eqb (after_event t next publish).stages_left 0)
        ∙ ap (λ (c : Bool). due c pruning) (sym up)
      where
        due : Bool → Bool → List Event
        due c p = cond c (publish ∷ cond (eqb (after_event t next publish).stages_left 0) (end ∷ []) (cond p (pruning_events t (after_event t next publish)) [])) []

        by_last : (last : Bool) → (publish ∷ cond last (end ∷ []) []) ++ prune_after pruning (replay t next (publish ∷ cond last (end ∷ []) [])) ≡ publish ∷ cond last (end ∷ []) (cond pruning (pruning_events t (after_event t next publish)) [])
        by_last true = refl
        by_last false = ap (λ (c : Bool). publish ∷ cond c [] (cond pruning (pruning_events t (after_event t next publish)) [])) going

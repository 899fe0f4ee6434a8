-- One of several events, and one of several entries.
use Rattle.std.proofs.Common.{◌≡◌, subst, ℕ, zero, suc, List, [], ◌∷◌, drop}
use Rattle.sp_theory.specs.Model.{Model}
use Rattle.sp_theory.specs.Book.{Task, Book, Event, settle, publish, prune, end, Allowed, after_event}
use Rattle.sp_theory.specs.Runs.{IsHistory}
use Rattle.sp_theory.specs.Logs.{Entry}
use Rattle.sp_faults.specs.RunFaults.{AreSettlesSampled}
use Rattle.sp_faults.specs.LogFaults.{AreSeen}
use Rattle.sp_faults.proofs.RunLemmas.{first_sampled, rest_sampled}
use Rattle.sp_faults.proofs.LogLemmas.{first_seen, rest_seen}

-- ---- events
sampled_drop : (t : Task) (es : List Event) (k : ℕ) → AreSettlesSampled t es → AreSettlesSampled t (drop k es)
sampled_drop t es zero h = h
sampled_drop t [] (suc k) h = h
sampled_drop t (e ∷ es) (suc k) h = sampled_drop t es k (rest_sampled t e es h)

pub sampled_at : (t : Task) (es : List Event) (k : ℕ) (x : Event) (rest : List Event) → AreSettlesSampled t es → drop k es ≡ x ∷ rest → AreSettlesSampled t (x ∷ [])
sampled_at t es k x rest h is = first_sampled t x rest (subst (AreSettlesSampled t) is (sampled_drop t es k h))

-- allowed settles are at sampled beliefs
pub history_is_sampled : (t : Task) (b : Book) (es : List Event) → IsHistory t b es → AreSettlesSampled t es
unfolding IsHistory Allowed
history_is_sampled t b [] h = tt
history_is_sampled t b (settle k e a links ∷ es) (here, rest) = (here.1, history_is_sampled t (after_event t b (settle k e a links)) es rest)
history_is_sampled t b (publish ∷ es) (here, rest) = history_is_sampled t (after_event t b publish) es rest
history_is_sampled t b (prune pairs ∷ es) (here, rest) = history_is_sampled t (after_event t b (prune pairs)) es rest
history_is_sampled t b (end ∷ es) (here, rest) = history_is_sampled t (after_event t b end) es rest

-- ---- entries
seen_drop : (m : Model) (xs : List Entry) (k : ℕ) → AreSeen m xs → AreSeen m (drop k xs)
seen_drop m xs zero h = h
seen_drop m [] (suc k) h = h
seen_drop m (x ∷ xs) (suc k) h = seen_drop m xs k (rest_seen m x xs h)

pub seen_at : (m : Model) (xs : List Entry) (k : ℕ) (x : Entry) (rest : List Entry) → AreSeen m xs → drop k xs ≡ x ∷ rest → AreSeen m (x ∷ [])
seen_at m xs k x rest h is = first_seen m x rest (subst (AreSeen m) is (seen_drop m xs k h))

-- Events after the events of a history.
use Rattle.std.proofs.Common.{◌≡◌, List, [], ◌∷◌, ◌++◌, refl}
use Rattle.sp_theory.specs.Book.{Task, Book, Event, Allowed, after_event}
use Rattle.sp_theory.specs.Runs.{IsHistory, replay, IsPrompt}

pub replay-append : (t : Task) (b : Book) (es fs : List Event) → replay t b (es ++ fs) ≡ replay t (replay t b es) fs
unfolding replay
replay-append t b [] fs = refl
replay-append t b (e ∷ es) fs = replay-append t (after_event t b e) es fs

pub IsHistory-append : (t : Task) (b : Book) (es fs : List Event) → IsHistory t b es → IsHistory t (replay t b es) fs → IsHistory t b (es ++ fs)
unfolding replay IsHistory
IsHistory-append t b [] fs history more = more
IsHistory-append t b (e ∷ es) fs (first, rest) more = (first, IsHistory-append t (after_event t b e) es fs rest more)

pub IsPrompt-append : (t : Task) (b : Book) (es fs : List Event) → IsPrompt t b es → IsPrompt t (replay t b es) fs → IsPrompt t b (es ++ fs)
unfolding replay IsPrompt
IsPrompt-append t b [] fs prompt more = more
IsPrompt-append t b (e ∷ es) fs (up, last, rest) more = (up, last, IsPrompt-append t (after_event t b e) es fs rest more)

-- one more event
pub replay-push : (t : Task) (b : Book) (es : List Event) (e : Event) → replay t b (es ++ e ∷ []) ≡ after_event t (replay t b es) e
unfolding replay
replay-push t b es e = replay-append t b es (e ∷ [])

pub IsHistory-push : (t : Task) (b : Book) (es : List Event) (e : Event) → IsHistory t b es → Allowed t (replay t b es) e → IsHistory t b (es ++ e ∷ [])
unfolding replay IsHistory
IsHistory-push t b es e history allowed = IsHistory-append t b es (e ∷ []) history (allowed, tt)

-- In a prompt run each publication stands directly after the settle that raised the last flag.
use Rattle.std.proofs.Common.{◌≡◌, ℕ, ◌<◌, List, [], ◌∷◌, ◌++◌, refl, sym, ap, subst, Bool, true, false}
use Rattle.sp_theory.specs.Sums.{holds_below}
use Rattle.sp_theory.specs.Book.{Task, Book, Event, settle, publish, prune, end, opening, Allowed, after_event}
use Rattle.sp_theory.specs.Runs.{IsHistory, replay, IsPrompt}
use Rattle.sp_theory.specs.OneThread.{all_improved}
use Rattle.sp_theory.specs.Laws.{PublicationsFollowSettles}
use Rattle.sp_theory.proofs.Extremes.{holds_below_at, holds_below_all}

-- what is found: the events before a settle, and the settle
abbrev Found : Task → Book → List Event → Type 0
Found t b front = (start : List Event) × (k : ℕ) × (e : ℕ) × (a : ℕ) × (links : List ℕ) × (front ≡ start ++ settle k e a links ∷ []) × (all_improved t (replay t b start) ≡ false)

found_later : (t : Task) (b : Book) (x : Event) (rest : List Event) → Found t (after_event t b x) rest → Found t b (x ∷ rest)
unfolding replay
found_later t b x rest (start, k, e, a, links, is, down) = (x ∷ start, k, e, a, links, ap (λ (xs : List Event). x ∷ xs) is, down)

-- a book with all flags up
all_up : (t : Task) (b : Book) → all_improved t b ≡ true → (k : ℕ) → k < t.beliefs → b.improved k ≡ true
unfolding all_improved
all_up t b e = holds_below_at t.beliefs b.improved e

-- with a flag down no publication may come
not_yet : (t : Task) (b : Book) → all_improved t b ≡ false → Allowed t b publish → ⊥
unfolding Allowed all_improved
not_yet t b down (going, up) = let all = holds_below_all t.beliefs b.improved up in absurd (cc)

-- after a publication all flags are down
pub after_publication : (t : Task) (b : Book) → 0 < t.beliefs → all_improved t (after_event t b publish) ≡ false
unfolding all_improved after_event
after_publication t b some = by_test (holds_below t.beliefs (λ k. false)) refl
  where
    by_test : (c : Bool) → holds_below t.beliefs (λ k. false) ≡ c → c ≡ false
    by_test true e = let up = holds_below_at t.beliefs (λ k. false) e 0 some in absurd (cc)
    by_test false e = refl

-- only a settle raises the last flag
last_raised : (t : Task) (b : Book) (x : Event) → 0 < t.beliefs → all_improved t b ≡ false → all_improved t (after_event t b x) ≡ true → Found t b (x ∷ [])
unfolding all_improved after_event replay
last_raised t b (settle k e a links) some down up = ([], k, e, a, links, refl, down)
last_raised t b publish some down up = let low = after_publication_again in absurd (cc)
  where
    after_publication_again : holds_below t.beliefs (λ k. false) ≡ false
    after_publication_again = after_publication t b some
last_raised t b (prune pairs) some down up = absurd (cc)
last_raised t b end some down up = absurd (cc)

before_publication : (t : Task) (b : Book) (es front back : List Event) → 0 < t.beliefs → all_improved t b ≡ false → IsHistory t b es → IsPrompt t b es → es ≡ front ++ publish ∷ back → Found t b front
unfolding IsHistory IsPrompt
before_publication t b es [] back some down history prompt is = absurd (let h = subst (IsHistory t b) is history in not_yet t b down h.0)
before_publication t b es (x ∷ []) back some down history prompt is =
    let h = subst (IsHistory t b) is history in
    by_test (all_improved t (after_event t b x)) refl h
  where
    by_test : (c : Bool) → all_improved t (after_event t b x) ≡ c → Allowed t b x × (Allowed t (after_event t b x) publish × IsHistory t (after_event t (after_event t b x) publish) back) → Found t b (x ∷ [])
    by_test true up h = last_raised t b x some down up
    by_test false still h = absurd (not_yet t (after_event t b x) still h.1.0)
before_publication t b es (x ∷ y ∷ rest) back some down history prompt is =
    let h = subst (IsHistory t b) is history in
    let p = subst (IsPrompt t b) is prompt in
    by_test (all_improved t (after_event t b x)) refl
    (λ still. before_publication t (after_event t b x) (y ∷ rest ++ publish ∷ back) (y ∷ rest) back some still h.1 p.2 refl)
    (λ low. before_publication t (after_event t (after_event t b x) y) (rest ++ publish ∷ back) rest back some low h.1.1 p.2.2 refl)
    p.2.0
  where
    by_test : (c : Bool) → all_improved t (after_event t b x) ≡ c
        → (all_improved t (after_event t b x) ≡ false → Found t (after_event t b x) (y ∷ rest))
        → (all_improved t (after_event t (after_event t b x) y) ≡ false → Found t (after_event t (after_event t b x) y) rest)
        → (((k : ℕ) → k < t.beliefs → (after_event t b x).improved k ≡ true) → y ≡ publish)
        → Found t b (x ∷ y ∷ rest)
    by_test false still one two due = found_later t b x (y ∷ rest) (one still)
    by_test true up one two due =
        let now = due (all_up t (after_event t b x) up) in
        found_later t b x (y ∷ rest) (found_later t (after_event t b x) y rest (two (subst (λ (e : Event). all_improved t (after_event t (after_event t b x) e) ≡ false) (sym now) (after_publication t (after_event t b x) some))))

pub publications_follow : PublicationsFollowSettles
unfolding opening after_event all_improved
publications_follow t some es front back history prompt is = before_publication t (opening t) es front back some (opening_down t some) history prompt is
  where
    opening_down : (t : Task) → 0 < t.beliefs → all_improved t (opening t) ≡ false
    opening_down t some = after_publication t (opening t) some

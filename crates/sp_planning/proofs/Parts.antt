-- The moves and the events of what is planned are in form.
use Rattle.std.proofs.Common.{◌≡◌, ◌∙◌, sym, ap, refl, subst, arith, ℕ, zero, suc, ◌+◌, ◌<◌, ◌≤◌, List, [], ◌∷◌, length, length-append, get_or, map, Option, Some, None}
use Rattle.std.specs.List.{AllByRecursion}
use Rattle.std.proofs.lemmas.List.{get_or-map, length-map}
use Rattle.sp_theory.specs.Points.{count_of}
use Rattle.sp_theory.specs.Model.{IsLawful}
use Rattle.sp_theory.specs.Values.{Member, Edition}
use Rattle.sp_theory.specs.Samples as theory
use Rattle.sp_theory.specs.Book.{Task, Book, Event, settle, publish, prune, end, editions, entered, Allowed, after_event}
use Rattle.sp_theory.specs.Runs.{IsHistory, replay}
use Rattle.sp_theory.proofs.Sound.{choice_known}
use Rattle.sp_theory.proofs.Links.{length-links_at}
use Rattle.sp_model.specs.declared.beliefs.Sample.{Sample}
use Rattle.sp_model.specs.declared.parts.Parts.{Parts}
use Rattle.sp_model.specs.Problem.{problem, sizes_of}
use Rattle.sp_model.specs.Links.{sample_of}
use Rattle.sp_planfile.specs.RunText.{HasSmall}
use Rattle.sp_planfile.specs.Contents.{moves_of, move_of}
use Rattle.sp_planfile.specs.Form.{IsParentMove, IsEventInForm, edition_count}

-- ---- moves
moves_in : (a o : ℕ) (ys : List Sample) → ((k : ℕ) (d : Sample) → k < length ys → ((get_or ys k d).action < a) × ((get_or ys k d).observation < o)) → AllByRecursion (IsParentMove a o) (map move_of ys)
moves_in a o [] each = tt
moves_in a o (y ∷ ys) each = (each zero y (omega arith), moves_in a o ys (λ k d less. each (suc k) d (omega (arith, less))))

module _ (p : Parts) (depth : ℕ) where
  pub moves_in_form : (xs : List Sample) → theory.AreSamplesOf (problem p) depth (map (sample_of p) xs) → AllByRecursion (IsParentMove (length p.actions) (count_of (sizes_of p.sights))) (moves_of xs)
  unfolding problem
  moves_in_form [] are = tt
  moves_in_form (x ∷ xs) are =
      moves_in (length p.actions) (count_of (sizes_of p.sights)) xs (λ k d less.
      let next = are.later k (let long = length-map xs (sample_of p) in omega (arith, less, long)) in
      let same : theory.sample_at (problem p) (map (sample_of p) (x ∷ xs)) (suc k) ≡ sample_of p (get_or xs k d) = get_or-map (sample_of p) xs k d (theory.first_sample (problem p)) less in
      (subst (λ (s : theory.Sample). s.action < length p.actions) same next.known, subst (λ (s : theory.Sample). s.observation < count_of (sizes_of p.sights)) same next.seen))

pub moves_count : (xs : List Sample) → 1 ≤ length xs → suc (length (moves_of xs)) ≡ length xs
moves_count [] some = absurd (omega (arith, some))
moves_count (x ∷ xs) some = ap suc (length-map xs move_of)

-- ---- events
module _ (t : Task) (lawful : IsLawful t.model) where
  event_in_form : (b : Book) (e : Event) → Allowed t b e → HasSmall e → IsEventInForm t.beliefs t.model.actions (count_of t.model.sight_sizes) e
  unfolding Allowed
  event_in_form b (settle k e a links) allowed small =
      let backup = allowed.3 in (
        allowed.1,
        small.1.0,
        subst (λ (n : ℕ). n < t.model.actions) (sym backup.0) (choice_known t.model lawful _ _),
        ap (λ (l : List ℕ). length l) backup.1 ∙ length-links_at t.model _ _ a,
        small.1.1.1,
      )
  event_in_form b publish allowed small = tt
  event_in_form b (prune pairs) allowed small = (allowed.1, small)
  event_in_form b end allowed small = tt

  pub events_in_form : (b : Book) (es : List Event) → IsHistory t b es → AllByRecursion HasSmall es → AllByRecursion (IsEventInForm t.beliefs t.model.actions (count_of t.model.sight_sizes)) es
  unfolding IsHistory
  events_in_form b [] known small = tt
  events_in_form b (e ∷ es) known small = (event_in_form b e known.0 small.0, events_in_form (after_event t b e) es known.1 small.1)

module _ (t : Task) where
  entered_editions : (b : Book) (o : Option Member) → editions (entered t b o) ≡ editions b
  unfolding entered
  entered_editions b None = refl
  entered_editions b (Some x) = refl

  pub edition_total : (b : Book) (es : List Event) → length (editions (replay t b es)) ≡ length (editions b) + edition_count es
  unfolding replay after_event
  edition_total b [] = omega arith
  edition_total b (settle k e a links ∷ es) =
      edition_total (after_event t b (settle k e a links)) es ∙ ap (λ (l : List Edition). length l + edition_count es) (entered_editions _ _)
  edition_total b (publish ∷ es) = let rest = edition_total (after_event t b publish) es in let more = length-append (editions b) (b.grown ∷ []) in omega (arith, rest, more)
  edition_total b (prune pairs ∷ es) = let rest = edition_total (after_event t b (prune pairs)) es in let more = length-append (editions b) ((after_event t b (prune pairs)).latest ∷ []) in omega (arith, rest, more)
  edition_total b (end ∷ es) = edition_total (after_event t b end) es

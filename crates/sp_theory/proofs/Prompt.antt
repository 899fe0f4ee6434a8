-- A legal run ends once, and where it is prompt it publishes each stage.
use Rattle.std.proofs.Common.{◌≡◌, ◌≢◌, ℕ, ap, suc, ◌+◌, ◌-◌, ◌<◌, ◌≤◌, List, [], ◌∷◌, ◌++◌, length, length-append, zero-add, refl, sym, ◌∙◌, subst, arith, true, false, Option, Some, None, ◌⊎◌, inl, inr}
use Rattle.std.proofs.lemmas.Bool.{cases_lt}
use Rattle.sp_theory.specs.Values.{Member}
use Rattle.std.proofs.lemmas.List.Elements.{All-cons, All-nil}
use Rattle.sp_theory.specs.Laws.{EndsOnce, StagesArePublished, EndFollowsPublication}
use Rattle.sp_theory.specs.Book.{Task, Book, Event, settle, publish, prune, end, opening, settled_record, settled_member, entering, entered, Allowed, after_event}
use Rattle.sp_theory.specs.Runs.{IsHistory, replay, IsPrompt, publications}

entered_stages : (t : Task) (b : Book) (o : Option Member) → ((entered t b o).stages_left ≡ b.stages_left) × ((entered t b o).done ≡ b.done)
unfolding entered
entered_stages t b None = (refl, refl)
entered_stages t b (Some x) = (refl, refl)

-- nothing comes after the end
ended_is : (t : Task) (b : Book) (es : List Event) → b.done ≡ true → IsHistory t b es → es ≡ []
unfolding IsHistory Allowed
ended_is t b [] done history = refl
ended_is t b (settle k e a links ∷ es) done (allowed, rest) = absurd (let going = allowed.0 in cc)
ended_is t b (publish ∷ es) done (allowed, rest) = absurd (let going = allowed.0 in cc)
ended_is t b (prune pairs ∷ es) done (allowed, rest) = absurd (let going = allowed.0 in cc)
ended_is t b (end ∷ es) done (allowed, rest) = absurd (let going = allowed.0 in cc)

pub published : (t : Task) (b : Book) (es : List Event) → b.done ≡ false → IsHistory t b es → IsPrompt t b es
    → (publications es + (replay t b es).stages_left ≡ b.stages_left) × ((replay t b es).done ≡ true → (replay t b es).stages_left ≡ 0)
unfolding IsHistory Allowed replay after_event IsPrompt
published t b [] going history prompt = (zero-add b.stages_left, λ done. absurd (cc))
published t b (settle k e a links ∷ es) going (allowed, rest) (up, last, prompt) =
    let kept = entered_stages t (record b { records = b.records ++ settled_record t b a links ∷ [] }) (entering t b k (settled_member t b a links)) in
    let more = published t (after_event t b (settle k e a links)) es (kept.1 ∙ going) rest prompt in
    (more.0 ∙ kept.0, more.1)
published t b (publish ∷ es) going (allowed, rest) (up, last, prompt) =
    let more = published t (after_event t b publish) es going rest prompt in
    (counted more.0 (cases_lt 0 b.stages_left), more.1)
  where
    counted : publications es + (replay t (after_event t b publish) es).stages_left ≡ b.stages_left - 1 → (0 < b.stages_left) ⊎ (b.stages_left ≤ 0) → suc (publications es) + (replay t (after_event t b publish) es).stages_left ≡ b.stages_left
    counted e (inl some) = omega (arith, e, some)
    counted e (inr none) = let zero_left : b.stages_left ≡ 0 = omega (arith, none) in let over = last zero_left in absurd (cc)
published t b (prune pairs ∷ es) going (allowed, rest) (up, last, prompt) = published t (after_event t b (prune pairs)) es going rest prompt
published t b (end ∷ es) going (allowed, rest) (up, last, prompt) =
    subst (λ (fs : List Event). (publications fs + (replay t (after_event t b end) fs).stages_left ≡ b.stages_left) × ((replay t (after_event t b end) fs).done ≡ true → (replay t (after_event t b end) fs).stages_left ≡ 0))
    (sym (ended_is t (after_event t b end) es refl rest)) (zero-add b.stages_left, λ done. allowed.1)

pub stages_published : StagesArePublished
unfolding opening
stages_published t es history prompt = let both = published t (opening t) es refl history prompt in (both.0, λ done. let none = both.1 done in let all = both.0 in omega (arith, none, all))

-- ---- the end after a publication
-- only a publication takes a stage
follows : (t : Task) (b : Book) (x : Event) (rest : List Event) → (0 < (after_event t b x).stages_left → (start : List Event) × (rest ≡ start ++ publish ∷ [])) → 0 < b.stages_left
    → IsHistory t (after_event t b x) (rest ++ end ∷ []) → IsPrompt t (after_event t b x) (rest ++ end ∷ []) → (start : List Event) × (x ∷ rest ≡ start ++ publish ∷ [])
unfolding after_event IsHistory IsPrompt Allowed
follows t b (settle k e a links) rest later left history prompt =
    let kept = entered_stages t (record b { records = b.records ++ settled_record t b a links ∷ [] }) (entering t b k (settled_member t b a links)) in
    let (start, is) = later (subst (λ (n : ℕ). 0 < n) (sym kept.0) left) in
    (settle k e a links ∷ start, ap (λ (xs : List Event). settle k e a links ∷ xs) is)
follows t b (prune pairs) rest later left history prompt = let (start, is) = later left in (prune pairs ∷ start, ap (λ (xs : List Event). prune pairs ∷ xs) is)
follows t b end rest later left history prompt = let (start, is) = later left in (end ∷ start, ap (λ (xs : List Event). end ∷ xs) is)
follows t b publish [] later left history prompt = ([], refl)
follows t b publish (y ∷ rest) later left history prompt = by_left (cases_lt 0 (b.stages_left - 1))
  where
    by_left : (0 < b.stages_left - 1) ⊎ (b.stages_left - 1 ≤ 0) → (start : List Event) × (publish ∷ y ∷ rest ≡ start ++ publish ∷ [])
    by_left (inl more) = let (start, is) = later more in (publish ∷ start, ap (λ (xs : List Event). publish ∷ xs) is)
    by_left (inr none) =
        let is : y ≡ end = prompt.1 (omega (arith, none)) in
        let past = subst (λ (e : Event). IsHistory t (after_event t (after_event t b publish) e) (rest ++ end ∷ [])) is history.1 in
        absurd (nothing_after rest past)
      where
        nothing_after : (fs : List Event) → IsHistory t (after_event t (after_event t b publish) end) (fs ++ end ∷ []) → ⊥
        nothing_after fs past = not_nil fs (ended_is t (after_event t (after_event t b publish) end) (fs ++ end ∷ []) refl past)
          where
            not_nil : (fs : List Event) → fs ++ end ∷ [] ≡ [] → ⊥
            not_nil fs e = let none = ap length e in omega (arith, none, length-append fs (end ∷ []))

end_follows : (t : Task) (b : Book) (front : List Event) → 0 < b.stages_left → IsHistory t b (front ++ end ∷ []) → IsPrompt t b (front ++ end ∷ []) → (start : List Event) × (front ≡ start ++ publish ∷ [])
unfolding IsHistory IsPrompt Allowed
end_follows t b [] left history prompt = absurd (let none = history.0.1 in omega (arith, left, none))
end_follows t b (x ∷ rest) left (allowed, history) (up, last, prompt) = follows t b x rest (λ more. end_follows t (after_event t b x) rest more history prompt) left history prompt

pub end_follows_publication : EndFollowsPublication
unfolding opening
end_follows_publication t stages es front history prompt is = end_follows t (opening t) front stages (subst (IsHistory t (opening t)) is history) (subst (IsPrompt t (opening t)) is prompt)

-- ---- the end
end_cons : (e : Event) (es : List Event) → e ≢ end → EndsOnce es → EndsOnce (e ∷ es)
end_cons e es other (front, is, all) = (e ∷ front, ap (λ (xs : List Event). e ∷ xs) is, All-cons (λ x. x ≢ end) e front other all)

pub ends_once : (t : Task) (b : Book) (es : List Event) → b.done ≡ false → IsHistory t b es → (replay t b es).done ≡ true → EndsOnce es
unfolding IsHistory Allowed replay after_event
ends_once t b [] going history done = absurd (cc)
ends_once t b (settle k e a links ∷ es) going (allowed, rest) done =
    let kept = entered_stages t (record b { records = b.records ++ settled_record t b a links ∷ [] }) (entering t b k (settled_member t b a links)) in
    end_cons _ es (λ same. absurd (cc)) (ends_once t (after_event t b (settle k e a links)) es (kept.1 ∙ going) rest done)
ends_once t b (publish ∷ es) going (allowed, rest) done = end_cons _ es (λ same. absurd (cc)) (ends_once t (after_event t b publish) es going rest done)
ends_once t b (prune pairs ∷ es) going (allowed, rest) done = end_cons _ es (λ same. absurd (cc)) (ends_once t (after_event t b (prune pairs)) es going rest done)
ends_once t b (end ∷ es) going (allowed, rest) done = ([], ap (λ (xs : List Event). end ∷ xs) (ended_is t (after_event t b end) es refl rest), All-nil (λ e. e ≢ end))

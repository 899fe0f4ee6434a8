-- Commands, and one more.
use Rattle.std.proofs.Common.{◌≡◌, ◌⊎◌, ℕ, zero, suc, ◌+◌, ◌<◌, Bool, true, false, cond, not, ◌&&◌, ◌||◌, List, [], ◌∷◌, ◌++◌, length, take, Some, refl, ap, ◌∙◌, subst, inl, inr, arith}
use Rattle.std.specs.Prelude.{IsTrue, slice_get}
use Rattle.std.specs.Str.{bytes_eq}
use Rattle.std.proofs.Math.Bool.{or-false}
use Rattle.std.proofs.Math.Seq.{take-append_seam}
use Rattle.std.proofs.lemmas.List.{take-append-le}
use Rattle.std.proofs.lemmas.List.Elements.{All-push}
use Rattle.std.proofs.lemmas.List.Folds.{list_any-append}
use Rattle.std.proofs.lemmas.List.Sums.{sum_by-append}
use Rattle.std.proofs.lemmas.Slice.Eq.{bytes_eq-Decides}
use Rattle.sp_script.specs.declared.command.Command.{Command}
use Rattle.sp_script.specs.declared.error.ScriptKind.{ScriptKind}
use Rattle.sp_script.specs.declared.request.Verb.{Verb}
use Rattle.sp_script.specs.Requests.{is_session_name}
use Rattle.sp_script.specs.Commands.{name_of, verb_of, request_with, is_opening, is_asking, is_observing, asks_of, was_asked, has_answer, opening_count, BreaksAfter, AreCommands}

-- ---- what was asked for, with one command more
pub was_asked-more : (test : Verb → Bool) (name : List ℕ) (cs : List Command) (c : Command) → was_asked test name (cs ++ c ∷ []) ≡ (was_asked test name cs || asks_of test name c)
was_asked-more test name cs c = list_any-append (asks_of test name) cs (c ∷ []) ∙ ap (λ b. was_asked test name cs || b) (or-false (asks_of test name c))

-- `has_answer` at the head of a list, by its parts
answer_step : (x w s d h : Bool) → ((x && not (w || s)) || (d || (h && not s))) ≡ (d || (((x && not w) || h) && not s))
answer_step x w s true h = go x w s h
  where
    go : (x w s h : Bool) → ((x && not (w || s)) || true) ≡ true
    go true true s h = refl
    go true false true h = refl
    go true false false h = refl
    go false w s h = refl
answer_step true true true false true = refl
answer_step true true true false false = refl
answer_step true true false false true = refl
answer_step true true false false false = refl
answer_step true false true false true = refl
answer_step true false true false false = refl
answer_step true false false false true = refl
answer_step true false false false false = refl
answer_step false true true false true = refl
answer_step false true true false false = refl
answer_step false true false false true = refl
answer_step false true false false false = refl
answer_step false false true false true = refl
answer_step false false true false false = refl
answer_step false false false false true = refl
answer_step false false false false false = refl

pub has_answer-more : (name : List ℕ) (cs : List Command) (c : Command) → has_answer name (cs ++ c ∷ []) ≡ (asks_of is_asking name c || (has_answer name cs && not (asks_of is_observing name c)))
has_answer-more name [] c = first (asks_of is_asking name c)
  where
    first : (b : Bool) → ((b && true) || false) ≡ (b || false)
    first true = refl
    first false = refl
has_answer-more name (x ∷ cs) c =
    (λ i. (asks_of is_asking name x && not (was_asked-more is_observing name cs c i)) || has_answer-more name cs c i)
    ∙ answer_step (asks_of is_asking name x) (was_asked is_observing name cs) (asks_of is_observing name c) (asks_of is_asking name c) (has_answer name cs)

pub opening_count-more : (cs : List Command) (c : Command) → opening_count (cs ++ c ∷ []) ≡ opening_count cs + cond (is_opening (verb_of c)) 1 0
opening_count-more cs c = let h = sum_by-append (λ (d : Command). cond (is_opening (verb_of d)) 1 0) cs (c ∷ []) in omega (arith, h)

-- ---- names
pub bytes_same : (xs ys : List ℕ) → bytes_eq xs ys ≡ true → xs ≡ ys
bytes_same xs ys e = (bytes_eq-Decides xs ys).0 e

pub bytes_self : (xs : List ℕ) → bytes_eq xs xs ≡ true
bytes_self xs = (bytes_eq-Decides xs xs).1 refl

pub asks_of-same : (test : Verb → Bool) (name : List ℕ) (c : Command) → bytes_eq name (name_of c) ≡ true → asks_of test name c ≡ test (verb_of c)
asks_of-same test name c e = ap (λ b. test (verb_of c) && b) e ∙ go (test (verb_of c))
  where
    go : (b : Bool) → (b && true) ≡ b
    go true = refl
    go false = refl

pub asks_of-other : (test : Verb → Bool) (name : List ℕ) (c : Command) → bytes_eq name (name_of c) ≡ false → asks_of test name c ≡ false
asks_of-other test name c e = ap (λ b. test (verb_of c) && b) e ∙ go (test (verb_of c))
  where
    go : (b : Bool) → (b && false) ≡ false
    go true = refl
    go false = refl

-- ---- commands
at_push : (cs : List Command) (c d : Command) (k : ℕ) → slice_get (cs ++ c ∷ []) k ≡ Some d → ((k < length cs) × (slice_get cs k ≡ Some d)) ⊎ ((k ≡ length cs) × (d ≡ c))
at_push [] c d zero e = inr (refl, cc)
at_push [] c d (suc k) e = absurd (cc)
at_push (x ∷ cs) c d zero e = inl (omega arith, e)
at_push (x ∷ cs) c d (suc k) e = go (at_push cs c d k e)
  where
    go : ((k < length cs) × (slice_get cs k ≡ Some d)) ⊎ ((k ≡ length cs) × (d ≡ c)) → ((suc k < length (x ∷ cs)) × (slice_get (x ∷ cs) (suc k) ≡ Some d)) ⊎ ((suc k ≡ length (x ∷ cs)) × (d ≡ c))
    go (inl (less, is)) = inl (omega (arith, less), is)
    go (inr (last, is)) = inr (omega (arith, last), is)

-- a command that has a session's name and breaks nothing may come next
pub commands_more : (cs : List Command) (c : Command) → AreCommands cs → is_session_name (name_of c) ≡ true → ((kind : ScriptKind) → ¬ BreaksAfter cs (request_with c) kind) → AreCommands (cs ++ c ∷ [])
commands_more cs c are named faultless = record {
  named = All-push (λ d. IsTrue (is_session_name (name_of d))) cs c are.named named;
  in_order = λ k d kind is breaks. by_place k d kind (at_push cs c d k is) breaks;
}
  where
    by_place : (k : ℕ) (d : Command) (kind : ScriptKind) → ((k < length cs) × (slice_get cs k ≡ Some d)) ⊎ ((k ≡ length cs) × (d ≡ c)) → ¬ BreaksAfter (take k (cs ++ c ∷ [])) (request_with d) kind
    by_place k d kind (inl (less, is)) breaks = are.in_order k d kind is (subst (λ (before : List Command). BreaksAfter before (request_with d) kind) (take-append-le k cs (c ∷ []) (omega (arith, less))) breaks)
    by_place k d kind (inr (last, is)) breaks =
        let front : take k (cs ++ c ∷ []) ≡ cs = ap (λ n. take n (cs ++ c ∷ [])) last ∙ take-append_seam cs (c ∷ []) in
        faultless kind (subst (λ (e : Command). BreaksAfter cs (request_with e) kind) is (subst (λ (before : List Command). BreaksAfter before (request_with d) kind) front breaks))

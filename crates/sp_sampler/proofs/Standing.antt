-- The generator and the chooser, from belief to belief.
use Rattle.std.proofs.Common.{◌≡◌, ℕ, suc, ◌+◌, ◌*◌, ◌%◌, ◌<◌, refl, sym, ◌∙◌, ap, subst, arith, List, length, get_or}
use Rattle.rand_core.specs.Stream.{Stream, next_u64}
use Rattle.sp_theory.specs.Samples.{sampled}
use Rattle.sp_model.specs.declared.parts.Parts.{Parts}
use Rattle.sp_model.specs.Problem.{problem}
use Rattle.sp_choose.specs.Machines.{Machine, answer_of, after_answer}
use Rattle.sp_sampler.specs.Words.{left_after, word_at, first_words}
use Rattle.sp_sampler.specs.Sampled.{StandAfter, chooser_after}
use Rattle.sp_sampler.proofs.WordLemmas.{get_or-first_words, left_after-left_after}

module _ (p : Parts) (chooser : Machine) (depth count : ℕ) (stream : Stream) where
  abbrev pub words : List ℕ
  words = first_words (2 * count) stream

  pub stand_first : StandAfter p chooser depth count stream 0 stream chooser
  unfolding left_after sampled
  stand_first = record { drawn = refl; chosen = refl }

  pub stand_same : (k n : ℕ) (here : Stream) (there : Machine) → k ≡ n → StandAfter p chooser depth count stream k here there → StandAfter p chooser depth count stream n here there
  stand_same k n here there same stand = subst (λ (n : ℕ). StandAfter p chooser depth count stream n here there) same stand

  module _ (k : ℕ) (less : k < count) (here : Stream) (there : Machine) (stand : StandAfter p chooser depth count stream k here there) where
    first_word : word_at here 0 ≡ get_or words (2 * k) 0
    unfolding left_after
    first_word = ap (λ (s : Stream). (next_u64 s).0) stand.drawn ∙ sym (get_or-first_words stream (2 * count) (2 * k) (omega (arith, less)))

    pub second_word : word_at here 1 ≡ get_or words (2 * k + 1) 0
    second_word =
        ap (λ (s : Stream). word_at s 1) stand.drawn
        ∙ ap (λ (s : Stream). (next_u64 s).0) (left_after-left_after stream (2 * k) 1)
        ∙ sym (get_or-first_words stream (2 * count) (2 * k + 1) (omega (arith, less)))

    pub answer_is : (actions : ℕ) → actions ≡ length p.actions → answer_of there (k % depth) actions (word_at here 0) ≡ chooser.answer (sampled (problem p) chooser depth words k).1 (k % depth) (problem p).actions (get_or words (2 * k) 0)
    unfolding problem
    answer_is actions is = λ h. answer_of (stand.chosen h) (k % depth) (is h) (first_word h)

    pub stand_more : (actions : ℕ) → actions ≡ length p.actions → (next : Stream) → next ≡ left_after 2 here → (after : Machine) → after ≡ after_answer there (k % depth) actions (word_at here 0) → StandAfter p chooser depth count stream (k + 1) next after
    unfolding problem sampled
    stand_more actions is next left after chosen = record {
      drawn = left ∙ ap (left_after 2) stand.drawn ∙ left_after-left_after stream (2 * k) 2 ∙ ap (λ (n : ℕ). left_after n stream) (twice k);
      chosen = chosen ∙ (λ h. after_answer (stand.chosen h) (k % depth) (is h) (first_word h)) ∙ ap (chooser_after p chooser depth words) (one k);
    }
      where
        twice : (k : ℕ) → 2 * k + 2 ≡ 2 * (k + 1)
        twice k = omega arith

        one : (k : ℕ) → suc k ≡ k + 1
        one k = omega arith

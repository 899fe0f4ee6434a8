-- The words of a generator, one after another.
use Rattle.std.proofs.Common.{◌≡◌, ℕ, zero, suc, ◌+◌, ◌<◌, refl, ◌∙◌, ap, arith, get_or, zero-add}
use Rattle.std.proofs.lemmas.List.FromFn.{get_or-map-range_with_len}
use Rattle.rand_core.specs.Stream.{Stream, next_u64}
use Rattle.sp_sampler.specs.Words.{left_after, word_at, first_words}

pub get_or-first_words : (words : Stream) (n i : ℕ) → i < n → get_or (first_words n words) i 0 ≡ word_at words i
get_or-first_words words n i less = get_or-map-range_with_len (word_at words) 0 n i i 0 less (zero-add i)

pub left_after-zero : (words : Stream) → left_after 0 words ≡ words
unfolding left_after
left_after-zero words = refl

pub left_after-suc : (words : Stream) (n : ℕ) → left_after (suc n) words ≡ (next_u64 (left_after n words)).1
unfolding left_after
left_after-suc words n = refl

pub left_after-left_after : (words : Stream) (k n : ℕ) → left_after n (left_after k words) ≡ left_after (k + n) words
unfolding left_after
left_after-left_after words k zero = ap (λ (i : ℕ). left_after i words) (none k)
  where
    none : (k : ℕ) → k ≡ k + 0
    none k = omega arith
left_after-left_after words k (suc n) = ap (λ (s : Stream). (next_u64 s).1) (left_after-left_after words k n) ∙ ap (λ (i : ℕ). left_after i words) (more k n)
  where
    more : (k n : ℕ) → suc (k + n) ≡ k + suc n
    more k n = omega arith

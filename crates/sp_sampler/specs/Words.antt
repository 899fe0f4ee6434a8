-- The words of a generator.
use Rattle.std.specs.Prelude.{ℕ, zero, suc, List, map}
use Rattle.std.specs.List.{range_with_len}
use Rattle.rand_core.specs.Stream.{Stream, next_u64}
use Rattle.rand_core.specs.Steps.{stream_of, steps_u64_low}
use Rattle.rand_core.specs.Pcg32Seed.{pcg32_seed}
use Rattle.rand_pcg.specs.Pcg.{pcg64, pcg64_of_seed}

-- what a generator will answer after n words of 64 bits
unfoldable pub left_after : ℕ → Stream → Stream
left_after zero words = words
left_after (suc n) words = (next_u64 (left_after n words)).1

-- word n of a generator, counted from 0
abbrev pub word_at : Stream → ℕ → ℕ
word_at words n = (next_u64 (left_after n words)).0

-- the first n words of a generator
abbrev pub first_words : ℕ → Stream → List ℕ
first_words n words = map (word_at words) (range_with_len 0 n)

-- what the generator of a seed answers: PCG XSL RR 128/64 (O'Neill 2014), of the seed that PCG32 expands from the number
abbrev pub stream_of_seed : ℕ → Stream
stream_of_seed seed = stream_of (steps_u64_low pcg64) (pcg64_of_seed (pcg32_seed 32 seed))

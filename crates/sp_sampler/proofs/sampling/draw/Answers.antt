use Rattle.std.proofs.Common.{◌≡◌, refl, ap, ◌∙◌, ℕ}
use Rattle.sp_choose.specs.Machines.{Machine, answer_of, after_answer}
use Rattle.rand_core.specs.Stream.{Stream, next_u64}
use Rattle.sp_sampler.specs.Words.{left_after}
use Rattle.sp_sampler.proofs.sampling.draw.Goals as goal

-- a call gives a word and what is left
word_is : (x : ℕ) (s t u : Stream) → (x, t) ≡ next_u64 s → s ≡ u → x ≡ (next_u64 u).0
word_is x s t u gives is = ap (λ (y : ℕ × Stream). y.0) gives ∙ ap (λ (s : Stream). (next_u64 s).0) is

left_is : (x : ℕ) (s t u : Stream) → (x, t) ≡ next_u64 s → s ≡ u → t ≡ (next_u64 u).1
left_is x s t u gives is = ap (λ (y : ℕ × Stream). y.1) gives ∙ ap (λ (s : Stream). (next_u64 s).1) is

-- the same for the word that was drawn
answer_same : (x : ℕ) (m : Machine) (depth actions word other : ℕ) → x ≡ answer_of m depth actions word → word ≡ other → x ≡ answer_of m depth actions other
answer_same x m depth actions word other is same = is ∙ ap (answer_of m depth actions) same

after_same : (n m : Machine) (depth actions word other : ℕ) → n ≡ after_answer m depth actions word → word ≡ other → n ≡ after_answer m depth actions other
after_same n m depth actions word other is same = is ∙ ap (after_answer m depth actions) same

pub returns-clause-action : goal.returns-clause-action
unfolding left_after
returns-clause-action g c = answer_same _ ((goal.Chooser-dyn g c.args.chooser.now).machine c.args.chooser.now.1) c.args.depth c.args.actions _ _ c.choose-action.ensures.1.0 (word_is _ _ _ _ c.next_u64.ensures refl)

pub returns-clause-word : goal.returns-clause-word
unfolding left_after
returns-clause-word g c = word_is _ _ _ _ c.next_u64-2.ensures (left_is _ _ _ _ c.next_u64.ensures refl)

pub returns-clause-words : goal.returns-clause-words
unfolding left_after
returns-clause-words g c = left_is _ _ _ _ c.next_u64-2.ensures (left_is _ _ _ _ c.next_u64.ensures refl)

pub returns-clause-chooser : goal.returns-clause-chooser
unfolding left_after
returns-clause-chooser g c = after_same _ ((goal.Chooser-dyn g c.args.chooser.now).machine c.args.chooser.now.1) c.args.depth c.args.actions _ _ c.choose-action.ensures.1.1 (word_is _ _ _ _ c.next_u64.ensures refl)

-- What the matches of the parser of command lines give.
use Rattle.std.proofs.Common.{◌≡◌, ℕ, List, [], ◌∷◌, Bool, true, false, Option, Some, None, sym, ◌∙◌, refl, codes, ◌⊎◌, inl, inr, Ok, Err, Result, IfErr, IfOk, MatchOption, option_map}
use Rattle.std.specs.Borrow.{Bor}
use Rattle.clap.specs.Words.{Row, kind_of, FailsBy, Kinds}
use Rattle.clap.specs.declared.error.Error.{Error}
use Rattle.clap.specs.declared.error.ErrorKind.TheVariants.{OutOfMemory}
use Rattle.sp_words.specs.Jobs.{GivesNumber, Gives, AsksByList, AsksByParser, Asks, IsCommandWord}
use Rattle.sp_words.specs.declared.job.Job.{Job}
use Rattle.sp_words.proofs.JobLemmas.{gen_only, trial_only}

-- a parse that fails for another cause than memory had a fault, and its words aren't among those that are taken
pub refuses : {T : Type 0} (kinds : Kinds) (taken : Bool) (r : Result T Error) → FailsBy kinds r → IfErr r (λ e. taken ≡ true → kind_of e ≡ OutOfMemory)
    → IfErr r (λ e. (kind_of e ≡ OutOfMemory) ⊎ ¬ ((kinds ≡ []) ⊎ (taken ≡ true)))
refuses kinds taken (Ok x) fails takes = tt
refuses kinds true (Err e) fails takes = inl (takes refl)
refuses kinds false (Err e) (inl memory) takes = inl memory
refuses [] false (Err e) (inr among) takes = elim among [ ]
refuses (k ∷ kinds) false (Err e) (inr among) takes = inr (λ is. elim is [
  | inl none ↦ cc
  | inr yes' ↦ cc
])

-- a parse that succeeds had none
pub passes : {T : Type 0} (kinds : Kinds) (r : Result T Error) → FailsBy kinds r → IfOk r (λ _. kinds ≡ [])
passes kinds (Ok x) fails = fails
passes kinds (Err e) fails = tt

-- what a getter gives
pub text_of : (found : Option (List ℕ)) (given : Option (Bor (List ℕ))) → option_map (λ s. s.now) given ≡ found → MatchOption given (found ≡ None) (λ s. found ≡ Some s.now)
text_of found None is = sym is
text_of found (Some s) is = sym is

pub no_text : (found : Option (List ℕ)) → found ≡ None → (word : List ℕ) → ¬ (found ≡ Some word)
no_text found none word some = let bad : ◌≡◌ {A = Option (List ℕ)} None (Some word) = sym none ∙ some in cc

-- matches without a number give no job of these commands
pub no_gen_given : (rows : List Row) → ((n : ℕ) → ¬ (GivesNumber rows (codes "number") 0 16 n)) → (job : Job) → IsCommandWord job (codes "gen") → ¬ (Gives rows job)
no_gen_given rows none = gen_only (Gives rows) none

pub no_trial_given : (rows : List Row) → ((n : ℕ) → ¬ (GivesNumber rows (codes "number") 0 16 n)) → (job : Job) → IsCommandWord job (codes "trial") → ¬ (Gives rows job)
no_trial_given rows none = trial_only (Gives rows) none

-- words that aren't listed, and what the parser makes of them
pub asks_taken : {E : Type 0} (words : List (List ℕ)) (r : Result Job E) → ((other : Job) → ¬ (AsksByList words other)) → IfOk r (AsksByParser words) → IfOk r (Asks words)
asks_taken words (Ok job) none asks = inr (none, asks)
asks_taken words (Err e) none asks = tt

pub asks_nothing : (words : List (List ℕ)) → ((job : Job) → ¬ (AsksByList words job)) → ((job : Job) → ¬ (AsksByParser words job)) → (job : Job) → ¬ (Asks words job)
asks_nothing words list parser job (inl listed) = list job listed
asks_nothing words list parser job (inr taken) = parser job taken.1

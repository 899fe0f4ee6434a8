-- The symbols for one token.
use Rattle.std.proofs.Common.{◌≡◌, ℕ, suc, true, Some, refl, ap}
use Rattle.sp_syntax.specs.declared.class.WordClass.{WordClass}
use Rattle.sp_syntax.specs.declared.class.WordClass.TheVariants as word
use Rattle.sp_syntax.specs.declared.class.TokenClass.{TokenClass}
use Rattle.sp_syntax.specs.declared.class.TokenClass.TheVariants as class
use Rattle.sp_syntax.specs.Grammar.{IsA, IsKeyword, IsName, IsWord}
use Rattle.sp_syntax.specs.Reading.{is_open, is_close, is_right_square, is_word, is_name, is_variables, is_observations, is_end_dd, is_end_action, is_end_observe}
use Rattle.sp_syntax.specs.Refusal.{leave}
use Rattle.sp_syntax.proofs.Machine.{AnOpen, AClose, AName, AWord, AVariables, AnObservations, AnEndDd}
use Rattle.sp_syntax.proofs.Good.{Reads}

pub open_means : (c : TokenClass) → is_open (Some c) ≡ true → c ≡ class.Open
open_means class.Open e = refl
open_means _ e = cc

pub close_means : (c : TokenClass) → is_close (Some c) ≡ true → c ≡ class.Close
close_means class.Close e = refl
close_means _ e = cc

pub right_square_means : (c : TokenClass) → is_right_square (Some c) ≡ true → c ≡ class.RightSquare
right_square_means class.RightSquare e = refl
right_square_means _ e = cc

pub word_means : (c : TokenClass) → is_word (Some c) ≡ true → (w : WordClass) × (c ≡ class.Word w)
word_means (class.Word w) e = (w, refl)
word_means _ e = cc

pub name_means : (c : TokenClass) → is_name (Some c) ≡ true → c ≡ class.Word word.Name
name_means (class.Word word.Name) e = refl
name_means _ e = cc

pub variables_means : (c : TokenClass) → is_variables (Some c) ≡ true → c ≡ class.Word word.Variables
variables_means (class.Word word.Variables) e = refl
variables_means _ e = cc

pub observations_means : (c : TokenClass) → is_observations (Some c) ≡ true → c ≡ class.Word word.Observations
observations_means (class.Word word.Observations) e = refl
observations_means _ e = cc

pub end_dd_means : (c : TokenClass) → is_end_dd (Some c) ≡ true → c ≡ class.Word word.EndDd
end_dd_means (class.Word word.EndDd) e = refl
end_dd_means _ e = cc

pub end_action_means : (c : TokenClass) → is_end_action (Some c) ≡ true → c ≡ class.Word word.EndAction
end_action_means (class.Word word.EndAction) e = refl
end_action_means _ e = cc

pub end_observe_means : (c : TokenClass) → is_end_observe (Some c) ≡ true → c ≡ class.Word word.EndObserve
end_observe_means (class.Word word.EndObserve) e = refl
end_observe_means _ e = cc

-- how a token changes the brackets that may be opened
pub opened : (left : ℕ) (c : TokenClass) → is_open (Some c) ≡ true → leave (suc left) c ≡ Some left
opened left c e = ap (leave (suc left)) (open_means c e)

pub closed : (left : ℕ) (c : TokenClass) → is_close (Some c) ≡ true → leave left c ≡ Some (suc left)
closed left c e = ap (leave left) (close_means c e)

pub closed_square : (left : ℕ) (c : TokenClass) → is_right_square (Some c) ≡ true → leave left c ≡ Some (suc left)
closed_square left c e = ap (leave left) (right_square_means c e)

pub kept_word : (left : ℕ) (c : TokenClass) → is_word (Some c) ≡ true → leave left c ≡ Some left
kept_word left c e = ap (leave left) (word_means c e).1

pub open_reads : Reads AnOpen is_open (IsA class.Open)
open_reads = record { rule = λ c. refl; calm = λ ss c. refl; nothing = refl; means = λ t e. open_means t.class e }

pub close_reads : Reads AClose is_close (IsA class.Close)
close_reads = record { rule = λ c. refl; calm = λ ss c. refl; nothing = refl; means = λ t e. close_means t.class e }

pub word_reads : Reads AWord is_word IsWord
word_reads = record { rule = λ c. refl; calm = λ ss c. refl; nothing = refl; means = λ t e. word_means t.class e }

pub name_reads : Reads AName is_name IsName
name_reads = record { rule = λ c. refl; calm = λ ss c. refl; nothing = refl; means = λ t e. name_means t.class e }

pub variables_reads : Reads AVariables is_variables (IsKeyword word.Variables)
variables_reads = record { rule = λ c. refl; calm = λ ss c. refl; nothing = refl; means = λ t e. variables_means t.class e }

pub observations_reads : Reads AnObservations is_observations (IsKeyword word.Observations)
observations_reads = record { rule = λ c. refl; calm = λ ss c. refl; nothing = refl; means = λ t e. observations_means t.class e }

pub end_dd_reads : Reads AnEndDd is_end_dd (IsKeyword word.EndDd)
end_dd_reads = record { rule = λ c. refl; calm = λ ss c. refl; nothing = refl; means = λ t e. end_dd_means t.class e }

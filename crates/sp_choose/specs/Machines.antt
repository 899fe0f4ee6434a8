-- What chooses actions, as machines: in a state they give an answer for a depth, a number of actions and a word, and go on to a state.
use Rattle.std.specs.Prelude.{ℕ, ◌+◌, ◌%◌, List, [], ◌∷◌, ◌++◌}
use Rattle.sp_theory.specs.Samples.{Chooser}

-- a chooser whose states are lists of numbers; it stands in its opening state
abbrev pub Machine : Type 0
Machine = Chooser (List ℕ)

-- the answer of the machine where it stands
abbrev pub answer_of : Machine → ℕ → ℕ → ℕ → ℕ
answer_of m depth actions word = m.answer m.opening depth actions word

-- the machine after that answer
abbrev pub after_answer : Machine → ℕ → ℕ → ℕ → Machine
after_answer m depth actions word = record { opening = m.after m.opening depth actions word; answer = m.answer; after = m.after }

-- ---- states
-- the first number, or 0 where there is none
abbrev pub first_of : List ℕ → ℕ
first_of [] = 0
first_of (x ∷ xs) = x

-- the list with its first number moved to its end
abbrev pub rotation : List ℕ → List ℕ
rotation [] = []
rotation (x ∷ xs) = xs ++ x ∷ []

-- ---- the choosers
-- the word modulo the number of actions, whatever was asked before
abbrev pub uniform : Machine
uniform = record { opening = []; answer = λ state depth actions word. word % actions; after = λ state depth actions word. state }

-- the actions in turn: the number that it keeps, modulo the number of actions, and then the number after that answer, around the end
abbrev pub sweep : ℕ → Machine
sweep kept = record {
  opening = kept ∷ [];
  answer = λ state depth actions word. first_of state % actions;
  after = λ state depth actions word. (first_of state % actions + 1) % actions ∷ [];
}

-- the numbers of a list in turn, around its end, each modulo the number of actions; 0 where the list is empty
abbrev pub list_machine : List ℕ → Machine
list_machine rest = record {
  opening = rest;
  answer = λ state depth actions word. first_of state % actions;
  after = λ state depth actions word. rotation state;
}

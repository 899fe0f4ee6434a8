-- The problem that the parts of a model tell: from functions of slots to functions of states.
use Rattle.std.specs.Prelude.{ℕ, zero, suc, List, [], ◌∷◌, ◌++◌, map, length, slice_index_or, unsigned_abs}
use Rattle.sp_dd.specs.Func.{Shape, Func, value_of}
use Rattle.sp_theory.specs.Model as theory
use Rattle.sp_model.specs.declared.parts.Decl.{Decl}
use Rattle.sp_model.specs.declared.parts.Factor.{Factor}
use Rattle.sp_model.specs.declared.parts.ActionPart.{ActionPart}
use Rattle.sp_model.specs.declared.parts.Parts.{Parts}

-- ---- sizes
-- how many values each of these has
abbrev pub sizes_of : List Decl → List ℕ
sizes_of ds = map (λ d. length d.values) ds

-- each number twice
abbrev pub twice_each : List ℕ → List ℕ
twice_each [] = []
twice_each (n ∷ ns) = n ∷ n ∷ twice_each ns

-- two slots for each variable, unprimed and primed, and one for each observation variable
abbrev pub shape_of : Parts → Shape
shape_of p = record { sizes = twice_each (sizes_of p.variables) ++ sizes_of p.sights; variables = length p.variables }

-- ---- points
-- the first n numbers, with zeros where there are fewer
abbrev pub first_numbers : ℕ → List ℕ → List ℕ
first_numbers zero xs = []
first_numbers (suc n) [] = 0 ∷ first_numbers n []
first_numbers (suc n) (x ∷ xs) = x ∷ first_numbers n xs

-- the numbers of two lists in turn
abbrev pub in_turn : List ℕ → List ℕ → List ℕ
in_turn [] ys = []
in_turn (x ∷ xs) [] = []
in_turn (x ∷ xs) (y ∷ ys) = x ∷ y ∷ in_turn xs ys

-- the point of a state, a next state and observed values; what isn't given is the first value
abbrev pub point_of : Parts → List ℕ → List ℕ → List ℕ → List ℕ
point_of p state next seen = in_turn (first_numbers (length p.variables) state) (first_numbers (length p.variables) next) ++ first_numbers (length p.sights) seen

-- ---- functions
-- what stands past the end of a list: the function that is 0, and parts without names
abbrev pub no_func : Func
no_func = record { shape = record { sizes = []; variables = 0 }; leaves = [] }

abbrev pub no_decl : Decl
no_decl = record { name = []; values = [] }

abbrev pub no_factor : Factor
no_factor = record { func = no_func; own = [] }

abbrev pub no_action : ActionPart
no_action = record { name = []; reward = no_func; moves = []; sight = [] }

abbrev pub action_of : Parts → ℕ → ActionPart
action_of p a = slice_index_or p.actions a no_action

-- the table of a variable's next value
abbrev pub move_of : Parts → ℕ → ℕ → Func
move_of p a i = slice_index_or (action_of p a).moves i no_func

-- the table of an observation variable
abbrev pub sight_of : Parts → ℕ → ℕ → Func
sight_of p a j = slice_index_or (action_of p a).sight j no_func

abbrev pub reward_of : Parts → ℕ → Func
reward_of p a = (action_of p a).reward

-- a function of the state as a vector
abbrev pub vector_of : Parts → Func → theory.Vector
vector_of p f state = value_of f (point_of p state [] [])

-- the factor as a function of the state
abbrev pub factor_of : Parts → Factor → theory.Factor
factor_of p f = record { own = f.own; share = λ state. unsigned_abs (vector_of p f.func state) }

-- the problem
unfoldable pub problem : Parts → theory.Model
problem p = record {
  sizes = sizes_of p.variables;
  sight_sizes = sizes_of p.sights;
  actions = length p.actions;
  moves = λ a state before x. unsigned_abs (value_of (move_of p a (length before)) (point_of p state (before ++ x ∷ []) []));
  sights = λ a next before x. unsigned_abs (value_of (sight_of p a (length before)) (point_of p [] next (before ++ x ∷ [])));
  reward = λ a state next. value_of (reward_of p a) (point_of p state next []);
  discount = p.discount;
  factors = map (factor_of p) p.init;
}

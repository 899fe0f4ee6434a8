-- The generated texts, sign by sign.
use Rattle.std.specs.Prelude.{ℕ, zero, suc, List, [], ◌∷◌, ◌++◌, codes}
use Rattle.std.specs.Fmt.{decimal}
use Rattle.sp_spelled.specs.Signs.{Gap, tight, space, line, word, Spelled}
use Rattle.sp_spelled.specs.Shapes.{sign, spaced_word, last_word, leaf, group, primed_group, sum_group, product_group, declaration_signs}
use Rattle.sp_written.specs.Meanings.{branch_signs, list_signs}

-- the variable of a number
abbrev pub variable_name : ℕ → List ℕ
variable_name i = codes "x" ++ decimal i

-- the action that switches it on
abbrev pub set_name : ℕ → List ℕ
set_name i = codes "set" ++ decimal i

abbrev pub two_values : List (List ℕ)
two_values = codes "off" ∷ codes "on" ∷ []

-- a space behind each part but the last
abbrev pub gap_behind : ℕ → Gap
gap_behind zero = tight
gap_behind (suc n) = space

-- so many parts from the first on
abbrev pub row_signs : (ℕ → Gap → List Spelled) → ℕ → ℕ → List (List Spelled)
row_signs part first zero = []
row_signs part first (suc n) = part first (gap_behind n) ∷ row_signs part (suc first) n

-- the branches of two trees
abbrev pub two_branches : List Spelled → List Spelled → List Spelled
two_branches a b = branch_signs two_values (a ∷ b ∷ [])

-- the branches of two numbers
abbrev pub two_leaves : List ℕ → List ℕ → List Spelled
two_leaves a b = two_branches (leaf a tight) (leaf b tight)

abbrev pub variable_signs : ℕ → Gap → List Spelled
variable_signs i g = declaration_signs (variable_name i) two_values g

abbrev pub off_signs : ℕ → Gap → List Spelled
off_signs i g = group (variable_name i) (two_leaves (codes "1.0") (codes "0.0")) g

abbrev pub reward_signs : ℕ → Gap → List Spelled
reward_signs i g = group (variable_name i) (two_leaves (codes "0.0") (codes "1.0")) g

-- ---- declarations
abbrev pub variables_signs : ℕ → List Spelled
variables_signs count = group (codes "variables") (list_signs (row_signs variable_signs 1 count)) line

abbrev pub observations_signs : List Spelled
observations_signs = group (codes "observations") (declaration_signs (codes "hint") two_values tight) line

-- ---- sections
-- x is the name of the first variable
abbrev pub opening_signs : List ℕ → ℕ → List Spelled
opening_signs x count = spaced_word (codes "init") ∷ product_group (list_signs (group x (two_leaves (codes "0.5") (codes "0.5")) space ∷ row_signs off_signs 2 count)) line

abbrev pub blind_signs : List Spelled
blind_signs = spaced_word (codes "dd") ∷ spaced_word (codes "blind") ∷ (leaf (codes "0.5") space ++ last_word (codes "enddd") ∷ [])

abbrev pub action_signs : List ℕ → List Spelled → List Spelled
action_signs w us = spaced_word (codes "action") ∷ last_word w ∷ (us ++ last_word (codes "endaction") ∷ [])

-- observe, and the one table in it
abbrev pub observe_signs : List Spelled → List Spelled
observe_signs us = sign (word (codes "observe")) space ∷ ((spaced_word (codes "hint") ∷ us) ++ sign (word (codes "endobserve")) line ∷ [])

abbrev pub cost_signs : List ℕ → List Spelled
cost_signs w = spaced_word (codes "cost") ∷ leaf w line

abbrev pub told_signs : List ℕ → List ℕ → List Spelled
told_signs a b = primed_group (codes "hint") (two_leaves a b) tight

abbrev pub look_signs : List ℕ → List Spelled
look_signs x =
    action_signs (codes "look") (observe_signs (primed_group x (two_branches (told_signs (codes "0.85") (codes "0.15")) (told_signs (codes "0.15") (codes "0.85"))) space)
    ++ cost_signs (codes "0.1"))

abbrev pub blindly_signs : List ℕ → List Spelled
blindly_signs w = observe_signs (leaf (codes "blind") space) ++ cost_signs w

abbrev pub fix_signs : List ℕ → List Spelled
fix_signs x =
    action_signs (codes "fix") ((spaced_word x ∷ group x (two_branches (primed_group x (two_leaves (codes "0.1") (codes "0.9")) tight) (primed_group x (two_leaves (codes "0.0") (codes "1.0")) tight)) line)
    ++ blindly_signs (codes "1.0"))

abbrev pub set_signs : ℕ → List Spelled
set_signs i = action_signs (set_name i) ((spaced_word (variable_name i) ∷ primed_group (variable_name i) (two_leaves (codes "0.0") (codes "1.0")) line) ++ blindly_signs (codes "0.5"))

abbrev pub rewards_signs : List ℕ → ℕ → List Spelled
rewards_signs x count = spaced_word (codes "reward") ∷ sum_group (list_signs (group x (two_leaves (codes "0.0") (codes "5.0")) space ∷ row_signs reward_signs 2 count)) line

abbrev pub discount_signs : List Spelled
discount_signs = spaced_word (codes "discount") ∷ last_word (codes "0.95") ∷ []

-- the sections behind the initial belief, up to the reward
abbrev pub actions_signs : List ℕ → List Spelled
actions_signs x = blind_signs ++ (look_signs x ++ (fix_signs x ++ (set_signs 2 ++ (set_signs 3 ++ (set_signs 4 ++ set_signs 5)))))

abbrev pub sections_signs : List ℕ → ℕ → List Spelled
sections_signs x count = opening_signs x count ++ (actions_signs x ++ (rewards_signs x count ++ discount_signs))

-- the text of count variables and one more
abbrev pub text_signs : List ℕ → ℕ → List Spelled
text_signs x count = variables_signs (suc count) ++ (observations_signs ++ sections_signs x count)

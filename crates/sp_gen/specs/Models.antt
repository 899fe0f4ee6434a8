-- The text of a generated model.
use Rattle.std.specs.Prelude.{ℕ, suc, zero, ◌+◌, List, [], ◌++◌, codes}
use Rattle.std.specs.Fmt.{decimal}

-- so many numbers from the first on, each between two texts
abbrev pub each : List ℕ → List ℕ → ℕ → ℕ → List ℕ
each before after first zero = []
each before after first (suc n) = (before ++ (decimal first ++ after)) ++ each before after (suc first) n

-- the action that switches on one variable
unfoldable pub set_action : ℕ → List ℕ
set_action i =
    codes "action set" ++ (decimal i ++ (codes "\nx" ++ (decimal i ++ (codes " (x" ++ (decimal i ++ codes "' (off (0.0)) (on (1.0)))\nobserve hint (blind) endobserve\ncost (0.5)\nendaction\n")))))

-- two values for each of the variables x1, x2, .., and one observation variable
unfoldable pub declarations : ℕ → List ℕ
declarations count = codes "(variables" ++ (each (codes " (x") (codes " off on)") 1 count ++ codes ")\n(observations (hint off on))\n")

-- x1 is off or on as likely, the others are off
unfoldable pub opening_belief : ℕ → List ℕ
opening_belief count = codes "init [* (x1 (off (0.5)) (on (0.5)))" ++ (each (codes " (x") (codes " (off (1.0)) (on (0.0)))") 2 count ++ codes "]\n")

-- looking tells of x1 in 85 of 100 cases
unfoldable pub look_action : List ℕ
look_action = codes "dd blind (0.5) enddd\naction look\nobserve hint (x1' (off (hint' (off (0.85)) (on (0.15)))) (on (hint' (off (0.15)) (on (0.85))))) endobserve\ncost (0.1)\nendaction\n"

-- fixing switches x1 on in 90 of 100 cases
unfoldable pub fix_action : List ℕ
fix_action = codes "action fix\nx1 (x1 (off (x1' (off (0.1)) (on (0.9)))) (on (x1' (off (0.0)) (on (1.0)))))\nobserve hint (blind) endobserve\ncost (1.0)\nendaction\n"

-- x1 pays 5 where it is on, each other variable 1
unfoldable pub rewards : ℕ → List ℕ
rewards count = codes "reward [+ (x1 (off (0.0)) (on (5.0)))" ++ (each (codes " (x") (codes " (off (0.0)) (on (1.0)))") 2 count ++ codes "]\n")

-- all actions
unfoldable pub actions : List ℕ
actions = look_action ++ (fix_action ++ (set_action 2 ++ (set_action 3 ++ (set_action 4 ++ set_action 5))))

-- the model text of a number: that many variables and eight more
unfoldable pub generated_text : ℕ → List ℕ
generated_text number = declarations (number + 8) ++ (opening_belief (number + 7) ++ (actions ++ (rewards (number + 7) ++ codes "discount 0.95\n")))

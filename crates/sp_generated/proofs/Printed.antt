-- The generated texts are what their signs print.
use Rattle.std.proofs.Common.{◌≡◌, ℕ, zero, suc, ◌+◌, List, [], ◌∷◌, ◌++◌, refl, sym, ap, ◌∙◌, append_assoc, arith}
use Rattle.std.specs.Prelude.{codes}
use Rattle.std.specs.Fmt.{decimal}
use Rattle.std.proofs.lemmas.Fmt.{decimal-digits_of}
use Rattle.sp_spelled.specs.Signs.{Gap, tight, space, line, Spelled, sign_bytes, gap_bytes, text_of_signs}
use Rattle.sp_written.specs.Meanings.{list_signs}
use Rattle.sp_gen.specs.Models.{each, set_action, declarations, opening_belief, look_action, fix_action, rewards, actions, generated_text}
use Rattle.sp_generated.specs.Signs.{variable_name, gap_behind, row_signs, variable_signs, off_signs, reward_signs, variables_signs, observations_signs, opening_signs, blind_signs, look_signs, fix_signs, set_signs, rewards_signs, discount_signs, actions_signs, sections_signs, text_signs}

pub printed_both : (us vs : List Spelled) → text_of_signs (us ++ vs) ≡ text_of_signs us ++ text_of_signs vs
printed_both [] vs = refl
printed_both (u ∷ us) vs =
    ap (λ l. sign_bytes u.sign ++ (gap_bytes u.gap ++ l)) (printed_both us vs) ∙ ap (λ l. sign_bytes u.sign ++ l) (sym (append_assoc (gap_bytes u.gap) (text_of_signs us) (text_of_signs vs)))
    ∙ sym (append_assoc (sign_bytes u.sign) (gap_bytes u.gap ++ text_of_signs us) (text_of_signs vs))

-- ---- parts in a row
regrouped : (a b c d e : List ℕ) → (a ++ (b ++ (c ++ d))) ++ e ≡ a ++ (b ++ (c ++ (d ++ e)))
regrouped a b c d e = append_assoc a (b ++ (c ++ d)) e ∙ ap (λ l. a ++ l) (append_assoc b (c ++ d) e ∙ ap (λ l. b ++ l) (append_assoc c d e))

module _ (part : ℕ → Gap → List Spelled) (before after : List ℕ) (is : (i : ℕ) (g : Gap) → text_of_signs (part i g) ≡ before ++ (decimal i ++ (after ++ gap_bytes g))) where
  row_printed : (i n : ℕ) → gap_bytes (gap_behind n) ++ text_of_signs (list_signs (row_signs part i n)) ≡ each (32 ∷ before) after i n
  row_printed i zero = refl
  row_printed i (suc n) = ap (λ l. 32 ∷ l)
      (printed_both (part i (gap_behind n)) (list_signs (row_signs part (suc i) n)) ∙ ap (λ l. l ++ text_of_signs (list_signs (row_signs part (suc i) n))) (is i (gap_behind n))
      ∙ regrouped before (decimal i) after (gap_bytes (gap_behind n)) (text_of_signs (list_signs (row_signs part (suc i) n)))
      ∙ ap (λ l. before ++ (decimal i ++ (after ++ l))) (row_printed (suc i) n)
      ∙ sym (append_assoc before (decimal i ++ after) (each (32 ∷ before) after (suc i) n) ∙ ap (λ l. before ++ l) (append_assoc (decimal i) after (each (32 ∷ before) after (suc i) n))))

variable_is : (i : ℕ) (g : Gap) → text_of_signs (variable_signs i g) ≡ codes "(x" ++ (decimal i ++ (codes " off on)" ++ gap_bytes g))
variable_is i tight = refl
variable_is i space = refl
variable_is i line = refl

off_is : (i : ℕ) (g : Gap) → text_of_signs (off_signs i g) ≡ codes "(x" ++ (decimal i ++ (codes " (off (1.0)) (on (0.0)))" ++ gap_bytes g))
off_is i tight = refl
off_is i space = refl
off_is i line = refl

reward_is : (i : ℕ) (g : Gap) → text_of_signs (reward_signs i g) ≡ codes "(x" ++ (decimal i ++ (codes " (off (0.0)) (on (1.0)))" ++ gap_bytes g))
reward_is i tight = refl
reward_is i space = refl
reward_is i line = refl

-- ---- pieces
declarations_are : (count : ℕ) → text_of_signs (variables_signs (suc count) ++ observations_signs) ≡ declarations (suc count)
unfolding declarations
declarations_are count =
    printed_both (variables_signs (suc count)) observations_signs
    ∙ ap (λ l. (codes "(variables " ++ l) ++ text_of_signs observations_signs) (printed_both (list_signs (row_signs variable_signs 1 (suc count))) _)
    ∙ ap (λ l. codes "(variables" ++ l) (append_assoc (32 ∷ text_of_signs (list_signs (row_signs variable_signs 1 (suc count)))) (codes ")\n") (text_of_signs observations_signs))
    ∙ ap (λ l. codes "(variables" ++ (l ++ codes ")\n(observations (hint off on))\n")) (row_printed variable_signs (codes "(x") (codes " off on)") variable_is 1 (suc count))

opening_is : (count : ℕ) → text_of_signs (opening_signs (codes "x1") (suc count)) ≡ opening_belief (suc count)
unfolding opening_belief
opening_is count =
    ap (λ l. codes "init [* (x1 (off (0.5)) (on (0.5))) " ++ l) (printed_both (list_signs (row_signs off_signs 2 (suc count))) _)
    ∙ ap (λ l. codes "init [* (x1 (off (0.5)) (on (0.5)))" ++ (l ++ codes "]\n")) (row_printed off_signs (codes "(x") (codes " (off (1.0)) (on (0.0)))") off_is 2 (suc count))

rewards_are : (count : ℕ) → text_of_signs (rewards_signs (codes "x1") (suc count)) ≡ rewards (suc count)
unfolding rewards
rewards_are count =
    ap (λ l. codes "reward [+ (x1 (off (0.0)) (on (5.0))) " ++ l) (printed_both (list_signs (row_signs reward_signs 2 (suc count))) _)
    ∙ ap (λ l. codes "reward [+ (x1 (off (0.0)) (on (5.0)))" ++ (l ++ codes "]\n")) (row_printed reward_signs (codes "(x") (codes " (off (0.0)) (on (1.0)))") reward_is 2 (suc count))

look_is : text_of_signs (blind_signs ++ look_signs (codes "x1")) ≡ look_action
unfolding look_action
look_is = refl

fix_is : text_of_signs (fix_signs (codes "x1")) ≡ fix_action
unfolding fix_action
fix_is = refl

set_is : (i : ℕ) → text_of_signs (set_signs i) ≡ set_action i
unfolding set_action
set_is i = ap (λ l. codes "action set" ++ (decimal i ++ (codes "\nx" ++ (decimal i ++ (codes " (x" ++ l))))) (append_assoc (decimal i) (codes "'") _)

actions_are : text_of_signs (actions_signs (codes "x1")) ≡ actions
unfolding actions
actions_are =
    ap text_of_signs (sym (append_assoc blind_signs (look_signs (codes "x1")) (fix_signs (codes "x1") ++ (set_signs 2 ++ (set_signs 3 ++ (set_signs 4 ++ set_signs 5))))))
    ∙ printed_both (blind_signs ++ look_signs (codes "x1")) (fix_signs (codes "x1") ++ (set_signs 2 ++ (set_signs 3 ++ (set_signs 4 ++ set_signs 5))))
    ∙ (λ k. look_is k ++ (printed_both (fix_signs (codes "x1")) (set_signs 2 ++ (set_signs 3 ++ (set_signs 4 ++ set_signs 5))) k))
    ∙ (λ k. look_action ++ (fix_is k ++ printed_both (set_signs 2) (set_signs 3 ++ (set_signs 4 ++ set_signs 5)) k))
    ∙ (λ k. look_action ++ (fix_action ++ (set_is 2 k ++ printed_both (set_signs 3) (set_signs 4 ++ set_signs 5) k)))
    ∙ (λ k. look_action ++ (fix_action ++ (set_action 2 ++ (set_is 3 k ++ printed_both (set_signs 4) (set_signs 5) k))))
    ∙ (λ k. look_action ++ (fix_action ++ (set_action 2 ++ (set_action 3 ++ (set_is 4 k ++ set_is 5 k)))))

first_name : variable_name 1 ≡ codes "x1"
first_name = ap (λ l. codes "x" ++ l) (decimal-digits_of 1 (omega arith) (omega arith))

text_is : (count : ℕ) → text_of_signs (text_signs (codes "x1") (suc count)) ≡ declarations (suc (suc count)) ++ (opening_belief (suc count) ++ (actions ++ (rewards (suc count) ++ codes "discount 0.95\n")))
text_is count =
    ap text_of_signs (sym (append_assoc (variables_signs (suc (suc count))) observations_signs (sections_signs (codes "x1") (suc count))))
    ∙ printed_both (variables_signs (suc (suc count)) ++ observations_signs) (sections_signs (codes "x1") (suc count))
    ∙ (λ k. declarations_are (suc count) k ++ printed_both (opening_signs (codes "x1") (suc count)) (actions_signs (codes "x1") ++ (rewards_signs (codes "x1") (suc count) ++ discount_signs)) k)
    ∙ (λ k. declarations (suc (suc count)) ++ (opening_is count k ++ printed_both (actions_signs (codes "x1")) (rewards_signs (codes "x1") (suc count) ++ discount_signs) k))
    ∙ (λ k. declarations (suc (suc count)) ++ (opening_belief (suc count) ++ (actions_are k ++ printed_both (rewards_signs (codes "x1") (suc count)) discount_signs k)))
    ∙ (λ k. declarations (suc (suc count)) ++ (opening_belief (suc count) ++ (actions ++ (rewards_are count k ++ codes "discount 0.95\n"))))

pub generated_printed : (number : ℕ) → text_of_signs (text_signs (variable_name 1) (number + 7)) ≡ generated_text number
unfolding generated_text
generated_printed number =
    let seven : number + 7 ≡ suc (number + 6) = omega arith in
    let back : suc (number + 6) ≡ number + 7 = omega arith in
    let eight : suc (suc (number + 6)) ≡ number + 8 = omega arith in
    (λ k. text_of_signs (text_signs (first_name k) (seven k))) ∙ text_is (number + 6)
    ∙ (λ k. declarations (eight k) ++ (opening_belief (back k) ++ (actions ++ (rewards (back k) ++ codes "discount 0.95\n"))))

-- Pieces of a text one behind the other.
use Rattle.std.proofs.Common.{◌≡◌, ℕ, ◌≢◌, Bool, true, false, length, arith, List, [], ◌∷◌, ◌++◌, refl, sym, ap, ◌∙◌, append_assoc, append-nil}
use Rattle.sp_spelled.specs.Signs.{opens, closes, left_square, right_square, plus, star, word, primed, Gap, tight, space, line, Spelled, sign_bytes, gap_bytes, text_of_signs}
use Rattle.std.specs.Prelude.{codes}
use Rattle.sp_spelled.specs.Shapes.{sign, spaced_word, last_word, leaf, group, closed_words, declaration_signs}
use Rattle.sp_canonical.specs.ModelSigns.{slot_word, node_group, heading_signs, function_signs, functions_lines, factor_tables, factors_signs, init_signs, zeros_signs, summed_signs}
use Rattle.sp_dd.specs.Func.{Func}
use Rattle.sp_model.specs.declared.parts.Factor.{Factor}
use Rattle.sp_model.specs.declared.parts.Parts.{Parts}

pub printed_both : (us vs : List Spelled) → text_of_signs (us ++ vs) ≡ text_of_signs us ++ text_of_signs vs
printed_both [] vs = refl
printed_both (u ∷ us) vs =
    ap (λ b. sign_bytes u.sign ++ (gap_bytes u.gap ++ b)) (printed_both us vs)
    ∙ ap (λ b. sign_bytes u.sign ++ b) (sym (append_assoc (gap_bytes u.gap) (text_of_signs us) (text_of_signs vs)))
    ∙ sym (append_assoc (sign_bytes u.sign) (gap_bytes u.gap ++ text_of_signs us) (text_of_signs vs))

-- signs behind a text
pub two : (text : List ℕ) (us vs : List Spelled) → (text ++ text_of_signs us) ++ text_of_signs vs ≡ text ++ text_of_signs (us ++ vs)
two text us vs = append_assoc text (text_of_signs us) (text_of_signs vs) ∙ ap (λ b. text ++ b) (sym (printed_both us vs))

pub follows : (text next end : List ℕ) (us vs : List Spelled) → next ≡ text ++ text_of_signs us → end ≡ next ++ text_of_signs vs → end ≡ text ++ text_of_signs (us ++ vs)
follows text next end us vs e f = f ∙ ap (λ t. t ++ text_of_signs vs) e ∙ two text us vs

pub printed_word : (text w : List ℕ) (g : Gap) → (text ++ w) ++ gap_bytes g ≡ text ++ text_of_signs (sign (word w) g ∷ [])
printed_word text w g = append_assoc text w (gap_bytes g) ∙ ap (λ b. text ++ (w ++ b)) (sym (append-nil (gap_bytes g)))

pub printed_closing : (text : List ℕ) (g : Gap) → (text ++ 41 ∷ []) ++ gap_bytes g ≡ text ++ text_of_signs (sign closes g ∷ [])
printed_closing text g = append_assoc text (41 ∷ []) (gap_bytes g) ∙ ap (λ b. text ++ (41 ∷ b)) (sym (append-nil (gap_bytes g)))

-- "(" and a word and ")"
pub printed_leaf : (text w : List ℕ) (g : Gap) → ((text ++ 40 ∷ []) ++ w) ++ text_of_signs (sign closes g ∷ []) ≡ text ++ text_of_signs (leaf w g)
printed_leaf text w g = append_assoc (text ++ 40 ∷ []) w (text_of_signs (sign closes g ∷ [])) ∙ append_assoc text (40 ∷ []) (w ++ text_of_signs (sign closes g ∷ []))

-- "(" and a word, signs, and ")"
pub printed_group : (text w : List ℕ) (us : List Spelled) (g : Gap)
    → (((text ++ 40 ∷ []) ++ text_of_signs (sign (word w) space ∷ [])) ++ text_of_signs us) ++ text_of_signs (sign closes g ∷ []) ≡ text ++ text_of_signs (group w us g)
printed_group text w us g =
    ap (λ b. (b ++ text_of_signs us) ++ text_of_signs (sign closes g ∷ [])) (two text (sign opens tight ∷ []) (spaced_word w ∷ []))
    ∙ ap (λ b. b ++ text_of_signs (sign closes g ∷ [])) (two text (sign opens tight ∷ spaced_word w ∷ []) us)
    ∙ two text (sign opens tight ∷ spaced_word w ∷ us) (sign closes g ∷ [])

pub printed_declaration : (text w : List ℕ) (ws : List (List ℕ)) (g : Gap)
    → ((text ++ 40 ∷ []) ++ text_of_signs (sign (word w) space ∷ [])) ++ text_of_signs (closed_words ws g) ≡ text ++ text_of_signs (declaration_signs w ws g)
printed_declaration text w ws g =
    ap (λ b. b ++ text_of_signs (closed_words ws g)) (two text (sign opens tight ∷ []) (spaced_word w ∷ []))
    ∙ two text (sign opens tight ∷ spaced_word w ∷ []) (closed_words ws g)

pub printed_primed : (text w : List ℕ) → (text ++ w) ++ 39 ∷ 32 ∷ [] ≡ text ++ text_of_signs (sign (primed w) space ∷ [])
printed_primed text w = append_assoc text w (39 ∷ 32 ∷ []) ∙ ap (λ b. text ++ b) (sym (append_assoc w (39 ∷ []) (32 ∷ [])))

-- "(" and a variable, signs, and ")"
pub printed_node : (text name : List ℕ) (is_primed : Bool) (us : List Spelled)
    → (((text ++ 40 ∷ []) ++ text_of_signs (slot_word is_primed name ∷ [])) ++ text_of_signs us) ++ text_of_signs (sign closes space ∷ []) ≡ text ++ text_of_signs (node_group is_primed name us space)
printed_node text name false us = printed_group text name us space
printed_node text name true us =
    ap (λ b. (b ++ text_of_signs us) ++ text_of_signs (sign closes space ∷ [])) (two text (sign opens tight ∷ []) (sign (primed name) space ∷ []))
    ∙ ap (λ b. b ++ text_of_signs (sign closes space ∷ [])) (two text (sign opens tight ∷ sign (primed name) space ∷ []) us)
    ∙ two text (sign opens tight ∷ sign (primed name) space ∷ us) (sign closes space ∷ [])

-- "dd", a name, a node, and "enddd"
pub printed_line : (text name : List ℕ) (us : List Spelled)
    → ((((text ++ 100 ∷ 100 ∷ 32 ∷ []) ++ name) ++ 32 ∷ []) ++ text_of_signs us) ++ 101 ∷ 110 ∷ 100 ∷ 100 ∷ 100 ∷ 10 ∷ []
    ≡ text ++ text_of_signs (spaced_word (codes "dd") ∷ spaced_word name ∷ (us ++ last_word (codes "enddd") ∷ []))
printed_line text name us =
    ap (λ b. (b ++ text_of_signs us) ++ text_of_signs (last_word (codes "enddd") ∷ [])) (printed_word (text ++ text_of_signs (spaced_word (codes "dd") ∷ [])) name space ∙ two text (spaced_word (codes "dd") ∷ []) (spaced_word name ∷ []))
    ∙ ap (λ b. b ++ text_of_signs (last_word (codes "enddd") ∷ [])) (two text (spaced_word (codes "dd") ∷ spaced_word name ∷ []) us)
    ∙ two text (spaced_word (codes "dd") ∷ spaced_word name ∷ us) (last_word (codes "enddd") ∷ [])

-- ---- the initial belief
pub printed_init : (text : List ℕ) (p : Parts) (fs : List Factor)
    → (((text ++ text_of_signs (functions_lines p 0 (factor_tables fs))) ++ 105 ∷ 110 ∷ 105 ∷ 116 ∷ 32 ∷ 91 ∷ 42 ∷ 32 ∷ []) ++ text_of_signs (factors_signs p 0 fs)) ++ 93 ∷ 10 ∷ []
    ≡ text ++ text_of_signs (init_signs p fs)
printed_init text p fs =
    ap (λ b. (b ++ text_of_signs (factors_signs p 0 fs)) ++ 93 ∷ 10 ∷ []) (two text (functions_lines p 0 (factor_tables fs)) heading)
    ∙ ap (λ b. b ++ 93 ∷ 10 ∷ []) (two text (functions_lines p 0 (factor_tables fs) ++ heading) (factors_signs p 0 fs))
    ∙ two text ((functions_lines p 0 (factor_tables fs) ++ heading) ++ factors_signs p 0 fs) (sign right_square line ∷ [])
    ∙ ap (λ ss. text ++ text_of_signs ss) (append_assoc (functions_lines p 0 (factor_tables fs) ++ heading) (factors_signs p 0 fs) (sign right_square line ∷ []) ∙ append_assoc (functions_lines p 0 (factor_tables fs)) heading (factors_signs p 0 fs ++ sign right_square line ∷ []))
  where
    heading : List Spelled
    heading = spaced_word (codes "init") ∷ sign left_square tight ∷ sign star space ∷ []

pub printed_alone : (p : Parts) (base : ℕ) (g : Gap) (f : Func) (free : List ℕ) → length free ≡ 0 → summed_signs p base g f free ≡ function_signs base g f
printed_alone p base g f [] e = refl
printed_alone p base g f (i ∷ free) e = absurd (omega arith)

pub printed_sum : (text : List ℕ) (p : Parts) (base : ℕ) (g : Gap) (f : Func) (free : List ℕ) → length free ≢ 0
    → ((((text ++ 91 ∷ 43 ∷ 32 ∷ []) ++ text_of_signs (function_signs base space f)) ++ text_of_signs (zeros_signs p free)) ++ 93 ∷ []) ++ gap_bytes g ≡ text ++ text_of_signs (summed_signs p base g f free)
printed_sum text p base g f [] e = absurd (e refl)
printed_sum text p base g f (i ∷ free) e =
    append_assoc (((text ++ text_of_signs heading) ++ text_of_signs (function_signs base space f)) ++ text_of_signs (zeros_signs p (i ∷ free))) (93 ∷ []) (gap_bytes g)
    ∙ ap (λ b. (((text ++ text_of_signs heading) ++ text_of_signs (function_signs base space f)) ++ text_of_signs (zeros_signs p (i ∷ free))) ++ (93 ∷ b)) (sym (append-nil (gap_bytes g)))
    ∙ ap (λ b. (b ++ text_of_signs (zeros_signs p (i ∷ free))) ++ text_of_signs (sign right_square g ∷ [])) (two text heading (function_signs base space f))
    ∙ ap (λ b. b ++ text_of_signs (sign right_square g ∷ [])) (two text (heading ++ function_signs base space f) (zeros_signs p (i ∷ free)))
    ∙ two text ((heading ++ function_signs base space f) ++ zeros_signs p (i ∷ free)) (sign right_square g ∷ [])
  where
    heading : List Spelled
    heading = sign left_square tight ∷ sign plus space ∷ []

-- ---- actions
pub printed_heading : (text name : List ℕ) → (text ++ 97 ∷ 99 ∷ 116 ∷ 105 ∷ 111 ∷ 110 ∷ 32 ∷ []) ++ text_of_signs (sign (word name) line ∷ []) ≡ text ++ text_of_signs (heading_signs name)
printed_heading text name = two text (spaced_word (codes "action") ∷ []) (last_word name ∷ [])

pub printed_observed : (text : List ℕ) (us : List Spelled)
    → ((text ++ 111 ∷ 98 ∷ 115 ∷ 101 ∷ 114 ∷ 118 ∷ 101 ∷ 10 ∷ []) ++ text_of_signs us) ++ 101 ∷ 110 ∷ 100 ∷ 111 ∷ 98 ∷ 115 ∷ 101 ∷ 114 ∷ 118 ∷ 101 ∷ 10 ∷ []
    ≡ text ++ text_of_signs (last_word (codes "observe") ∷ (us ++ last_word (codes "endobserve") ∷ []))
printed_observed text us =
    ap (λ b. b ++ text_of_signs (last_word (codes "endobserve") ∷ [])) (two text (last_word (codes "observe") ∷ []) us)
    ∙ two text (last_word (codes "observe") ∷ us) (last_word (codes "endobserve") ∷ [])

pub printed_cost : (text : List ℕ) (us : List Spelled)
    → ((text ++ 99 ∷ 111 ∷ 115 ∷ 116 ∷ 32 ∷ []) ++ text_of_signs us) ++ 101 ∷ 110 ∷ 100 ∷ 97 ∷ 99 ∷ 116 ∷ 105 ∷ 111 ∷ 110 ∷ 10 ∷ []
    ≡ text ++ text_of_signs (spaced_word (codes "cost") ∷ (us ++ last_word (codes "endaction") ∷ []))
printed_cost text us =
    ap (λ b. b ++ text_of_signs (last_word (codes "endaction") ∷ [])) (two text (spaced_word (codes "cost") ∷ []) us)
    ∙ two text (spaced_word (codes "cost") ∷ us) (last_word (codes "endaction") ∷ [])

pub printed_named : (text name : List ℕ) (us : List Spelled) → (text ++ text_of_signs (sign (word name) space ∷ [])) ++ text_of_signs us ≡ text ++ text_of_signs (spaced_word name ∷ us)
printed_named text name us = two text (spaced_word name ∷ []) us

-- the reward and the discount
pub printed_reward : (text : List ℕ) (us : List Spelled) → (text ++ 114 ∷ 101 ∷ 119 ∷ 97 ∷ 114 ∷ 100 ∷ 32 ∷ []) ++ text_of_signs us ≡ text ++ text_of_signs (spaced_word (codes "reward") ∷ us)
printed_reward text us = two text (spaced_word (codes "reward") ∷ []) us

pub printed_discount : (text w : List ℕ) → ((text ++ 100 ∷ 105 ∷ 115 ∷ 99 ∷ 111 ∷ 117 ∷ 110 ∷ 116 ∷ 32 ∷ []) ++ w) ++ 10 ∷ [] ≡ text ++ text_of_signs (spaced_word (codes "discount") ∷ last_word w ∷ [])
printed_discount text w = printed_word (text ++ text_of_signs (spaced_word (codes "discount") ∷ [])) w line ∙ two text (spaced_word (codes "discount") ∷ []) (last_word w ∷ [])

-- The text of a plan file from its sections.
use Rattle.std.proofs.Common.{◌≡◌, ℕ, List, [], ◌∷◌, ◌++◌, append_assoc, codes, refl, ap, ◌∙◌}
use Rattle.std.specs.Prelude.{is_some}
use Rattle.sp_lines.specs.Lines.{lines_of}
use Rattle.sp_planfile.specs.Contents.{Contents}
use Rattle.sp_planfile.specs.PlanText.{head_text, options_line, belief_line, events_section, values_text, logs_section, plan_text}

joined : (h m e o b v w l d : List ℕ) → ((((((([] ++ (h ++ (m ++ e))) ++ (o ++ (10 ∷ []))) ++ b) ++ v) ++ w) ++ l) ++ d) ≡ h ++ (m ++ (e ++ (o ++ (10 ∷ (b ++ (v ++ (w ++ (l ++ d))))))))
joined h m e o b v w l d = simp append_assoc

-- one section after another
pub plan_is : (c : Contents) (none head options moves events values logs end : List ℕ) → none ≡ []
    → head ≡ none ++ (head_text (is_some c.values) ++ (c.model ++ codes "endmodel\n"))
    → options ≡ head ++ (options_line c.options ++ (10 ∷ []))
    → moves ≡ options ++ lines_of belief_line c.moves
    → events ≡ moves ++ events_section c.events
    → values ≡ events ++ values_text c.values
    → logs ≡ values ++ logs_section c.logs
    → end ≡ logs ++ codes "done\n"
    → end ≡ plan_text c
plan_is c none head options moves events values logs end e f g h i j k l =
    rw (l, k, j, i, h, g, f, e) (joined (head_text (is_some c.values)) c.model (codes "endmodel\n") (options_line c.options) (lines_of belief_line c.moves) (events_section c.events) (values_text c.values) (logs_section c.logs) (codes "done\n"))

-- What holds of the texts of plan files, as the functions of this crate state it.
use Rattle.std.specs.Prelude.{◌≡◌, ℕ, List, [], ◌++◌}
use Rattle.sp_planfile.specs.Contents.{Contents}
use Rattle.sp_planfile.specs.PlanText.{plan_text}
use Rattle.sp_planfile.specs.Form.{IsInForm}

-- in form, different contents have different texts, of whatever models and of whatever versions
abbrev pub TextTellsContents : Type 0
TextTellsContents = (actions joint others seen : ℕ) (c d : Contents) → IsInForm actions joint c → IsInForm others seen d → plan_text c ≡ plan_text d → c ≡ d

-- no text in form is a proper beginning of another
abbrev pub NoTextIsBeginning : Type 0
NoTextIsBeginning = (actions joint others seen : ℕ) (c d : Contents) (rest : List ℕ) → IsInForm actions joint c → IsInForm others seen d → plan_text c ++ rest ≡ plan_text d → rest ≡ []

-- Whole texts.
use Rattle.std.proofs.Common.{◌≡◌, ℕ, List, Ok, Err, length, subst}
use Rattle.std.specs.Prelude.{Result, IsErrAnd, IfOk}
use Rattle.sp_syntax.specs.declared.text.Text.{Text}
use Rattle.sp_model.specs.declared.parts.Parts.{Parts}
use Rattle.sp_declarations.specs.declared.error.ModelError.{ModelError}
use Rattle.sp_declarations.specs.declared.declarations.Declared.{Declared}
use Rattle.sp_declarations.specs.Steps.{in_turn, GivesOrRunsOut, Leaves}
use Rattle.sp_declarations.specs.Declarations.{declarations_of}
use Rattle.sp_declarations.proofs.StepLemmas.{after, exit_gives}
use Rattle.sp_checks.specs.declared.state.State.{State}
use Rattle.sp_checks.specs.Sections.{section, begun}
use Rattle.sp_checks.specs.Finish.{finish}
use Rattle.sp_checks.specs.Meaning.{meaning}
use Rattle.sp_model.specs.Kept.{IsModel}
use Rattle.sp_declarations.specs.Kept.{AreDeclared}
use Rattle.sp_declarations.proofs.DeclaredLemmas.{declared_kept}
use Rattle.sp_checks.specs.Kept.{IsReadingState}
use Rattle.sp_checks.specs.Source.{HasWords}
use Rattle.sp_checks.proofs.ModelLemmas.{finish_model}

module _ (source : List ℕ) (t : Text) where
  module _ (x : Result Parts ModelError) (e : ModelError) (k : IsErrAnd x (λ q. q ≡ e)) where
    pub declared_err : GivesOrRunsOut (declarations_of source t) (Err e) → GivesOrRunsOut (meaning source t) x
    unfolding meaning
    declared_err h = exit_gives _ _ e x h k

    pub sections_err : (d : Declared) (s new : State) → declarations_of source t ≡ Ok d → s ≡ begun d → Leaves (in_turn (section source) s t.sections) (Err e) new → GivesOrRunsOut (meaning source t) x
    unfolding meaning
    sections_err d s new p b h = after _ _ _ _ p (exit_gives _ _ e x (subst (λ (s : State). GivesOrRunsOut (in_turn (section source) s t.sections) (Err e)) b h) k)

  pub meaning_then : (d : Declared) (s new : State) (x : Result Parts ModelError) → declarations_of source t ≡ Ok d → s ≡ begun d → in_turn (section source) s t.sections ≡ Ok new → GivesOrRunsOut (finish new (length source)) x → GivesOrRunsOut (meaning source t) x
  unfolding meaning
  meaning_then d s new x p b q h = after _ _ _ _ p (after _ _ _ _ (subst (λ (s : State). in_turn (section source) s t.sections ≡ Ok new) b q) h)

pub has_declared : (source : List ℕ) (t : Text) (d : Declared) → HasWords source t → declarations_of source t ≡ Ok d → AreDeclared d.variables d.sights
has_declared source t d w h = declared_kept source t d w.some_variable w.some_sight w.variables w.sights h

-- what is answered is a model
pub model_kept : (s : State) (end : ℕ) (x : Result Parts ModelError) → IsReadingState s → GivesOrRunsOut (finish s end) x → IfOk x IsModel
model_kept s end (Ok p) k h = finish_model s end p k h
model_kept s end (Err e) k h = tt

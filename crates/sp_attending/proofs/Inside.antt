-- What an attendant serves is what its serving does.
use Rattle.std.proofs.Common.{◌≡◌, ◌∙◌, ap, subst, List, [], ◌∷◌}
use Rattle.sp_theory.specs.Book.{Event}
use Rattle.sp_value.specs.Tasks.{TaskParts}
use Rattle.sp_core.specs.Books.{BookParts}
use Rattle.sp_planner.specs.Pauses.{IsServed}
use Rattle.sp_script.specs.declared.command.Command.{Command}
use Rattle.sp_serving.specs.Serving.{ServingParts, first_serving}
use Rattle.sp_attending.specs.declared.attending.Attendant.{Attendant}
use Rattle.sp_attending.specs.Attending.{IsServedOn}

abbrev pub Serves : Attendant → BookParts → Attendant → Type 0
Serves before book after = IsServedOn before.serving book after.serving

pub served_inside : (t : TaskParts) (histories : List (List Event)) (s e : Attendant) → IsServed Serves t histories s e → IsServed IsServedOn t histories s.serving e.serving
served_inside t [] s e same = ap (λ (a : Attendant). a.serving) same
served_inside t (history ∷ histories) s e (m, at, rest) =
    (m.serving, record { book = at.book; known = at.known; task = at.task; at = at.at; served = at.served }, served_inside t histories m e rest)

-- from before any command on
pub served_from : (t u : TaskParts) (histories : List (List Event)) (cs : List Command) (s e : Attendant) → s.serving ≡ first_serving u cs → u ≡ t → IsServed Serves t histories s e
    → IsServed IsServedOn t histories (first_serving t cs) e.serving
served_from t u histories cs s e first same served =
    subst (λ (x : ServingParts). IsServed IsServedOn t histories x e.serving) (first ∙ ap (λ (v : TaskParts). first_serving v cs) same) (served_inside t histories s e served)

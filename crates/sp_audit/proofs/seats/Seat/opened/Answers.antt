use Rattle.std.proofs.Common.{◌∙◌, refl}
use Rattle.sp_theory.specs.Logs.{opening_session}
use Rattle.sp_audit.proofs.seats.Seat.opened.Goals as goal

pub returns : goal.returns
unfolding opening_session
returns c = record {
  known = record { shape = c.in_ok-weights.ensures.scope ∙ c.parts.ensures.known.scope; acted = tt };
  agrees = record { weights = c.in_ok-weights.ensures.agree; newest = refl; acted = refl; closed = refl };
}

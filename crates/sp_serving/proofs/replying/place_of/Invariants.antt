use Rattle.std.proofs.Common.{◌≡◌, ◌≢◌, ◌<◌, ℕ, Some}
use Rattle.std.specs.Prelude.{slice_get}
use Rattle.sp_session.specs.Sessions.{SessionParts}
use Rattle.sp_serving.proofs.replying.place_of.Given as goal

abbrev pub invariant-loop-place : goal.invariant-loop-place
invariant-loop-place l = (k : ℕ) → k < l.place → (s : SessionParts) → slice_get l.sessions k ≡ Some s → s.name ≢ l.name

use borrow.Author.Count.{below_more}
use Rattle.std.proofs.Common.{◌≡◌, ◌≢◌, ◌∙◌, ◌<◌, ap, arith, ℕ, true, false, Some}
use Rattle.std.specs.Prelude.{slice_get}
use Rattle.std.proofs.lemmas.Option.{get_or_from_slice_get}
use Rattle.sp_session.specs.Sessions.{SessionParts}
use Rattle.sp_serving.proofs.Keeping.{named_there}
use Rattle.sp_serving.proofs.replying.place_of.Goals as goal

pub loop-place-preserved : goal.loop-place-preserved
loop-place-preserved c = below_more (λ (k : ℕ). (s : SessionParts) → slice_get c.args.sessions.now k ≡ Some s → s.name ≢ c.args.name.now) c.loop-place.place c.loop-place.invariant
    (λ s at same.
    let is : c.index-sessions-place.result ≡ s = c.index-sessions-place.is ∙ get_or_from_slice_get c.args.sessions.now c.loop-place.place s c.index-sessions-place.result at in
    let yes : c.is_named.result ≡ true = c.is_named.ensures.1 (ap (λ (x : SessionParts). x.name) is ∙ same) in
    let no : c.is_named.result ≡ false = c.if-is_named.false in
    absurd (cc))

pub unreachable-requires : goal.unreachable-requires
unreachable-requires c =
    let (k, s, less, at, same) = named_there c.args.sessions.now c.args.name.now c.requires in
    c.loop-place.invariant k (omega (arith, less)) s at same

use Rattle.std.proofs.Common.{ℕ, ◌<◌, refl, sym, ◌∙◌, subst, arith}
use Rattle.std.proofs.lemmas.Option.{get_or_from_slice_get}
use Rattle.sp_dd.specs.Func.{Func}
use Rattle.sp_theory.specs.Points.{count_of}
use Rattle.sp_model.specs.Problem.{no_func, sizes_of}
use Rattle.sp_belief.specs.Paths.{IsUnscaled}
use Rattle.sp_model.specs.declared.parts.Parts.{Parts}
use Rattle.sp_backup.specs.Posteriors.{IsPosterior}
use Rattle.sp_backup.proofs.PosteriorLists.{posteriors_push}
use Rattle.sp_backup.proofs.posteriors.posteriors_of.Goals as goal

pub loop-joint-preserved : goal.loop-joint-preserved
loop-joint-preserved c =
    let carried = c.in_ok-carried.ensures in
    let x = c.in_ok-posterior.posterior in
    record {
      kept = c.posterior_of.ensures.kept ∙ c.loop-joint.invariant.kept;
      are = posteriors_push c.args.model.now c.args.weights.now c.args.prepared.now.tables.action c.loop-joint.joint _ _ _ x refl c.loop-joint.invariant.are
          (subst (λ (p : Parts). IsPosterior p c.args.weights.now c.args.prepared.now.tables.action c.loop-joint.joint x) carried.model
          (subst (λ (w : Func). IsPosterior c.in_ok-carried.carried.model.now w c.args.prepared.now.tables.action c.loop-joint.joint x) carried.weights
          (subst (λ (a : ℕ). IsPosterior c.in_ok-carried.carried.model.now c.in_ok-carried.carried.weights.now a c.loop-joint.joint x) carried.action c.in_ok-posterior.ensures.is)))
          c.in_ok-push.ensures.ok;
    }

pub posterior_of-requires-clause-raw : goal.posterior_of-requires-clause-raw
posterior_of-requires-clause-raw c =
    let x = c.in_ok-carried.carried in
    let within : c.loop-joint.joint < count_of (sizes_of x.model.now.sights) =
    subst (λ (p : Parts). c.loop-joint.joint < count_of (sizes_of p.sights)) (sym c.in_ok-carried.ensures.model) (omega (arith, c.loop-joint-test.true, c.joint_count-joint-end.ensures.value)) in
    subst (IsUnscaled x.model.now x.weights.now x.action c.loop-joint.joint) (get_or_from_slice_get c.in_ok-raws.raws c.loop-joint.joint _ no_func c.at.ensures) (c.in_ok-raws.ensures.each c.loop-joint.joint within)

use Rattle.std.proofs.Common.{◌≡◌, ℕ, ◌+◌, ◌*◌, ◌^◌, ◌≤◌, rules, refl, sym, ap, ◌∙◌, subst, arith, to_z}
use Rattle.std.specs.Int.{w128}
use Rattle.std.specs.Prelude.{ℤ, ◌+ℤ◌, unsigned_abs, FitsSigned}
use Rattle.std.proofs.lemmas.Int.{to_z-of_z}
use Rattle.sp_theory.specs.Sums.{floor}
use Rattle.sp_theory.specs.Points.{count_of}
use Rattle.sp_theory.specs.Draws.{q}
use Rattle.sp_model.specs.declared.parts.Parts.{Parts}
use Rattle.sp_model.specs.Problem.{sizes_of}
use Rattle.sp_model.specs.Links.{weights_of}
use Rattle.sp_backup.specs.Promises.{AreActionLinks}
use Rattle.sp_backup.proofs.Promised.{future_none, future_push}
use Rattle.sp_backup.proofs.linking.links_of.Goals as goal

pub loop-joint-init : goal.loop-joint-init
loop-joint-init c = record { kept = c.requires.kept; links = future_none _ _ _ _ c.new-places.ensures refl }

pub loop-joint-preserved : goal.loop-joint-preserved
loop-joint-preserved c =
    let e = c.args.setting.now.edition.now in
    let fits : FitsSigned w128 c.with_share-future.result = search rules in
    let fits_sum : FitsSigned w128 c.in_ok-link.link.sum = search rules in
    let read = to_z-of_z w128 c.with_share-future.result fits in
    record {
      kept = c.link_at.ensures.kept ∙ c.loop-joint.invariant.kept;
      links = future_push e (weights_of e.task.model c.args.setting.now.weights.now) c.args.successors.now.action c.loop-joint.joint _ _ _ c.in_ok-link.link c.loop-joint.invariant.links c.in_ok-link.ensures.link c.in_ok-link.ensures.scored
          refl c.in_ok-push.ensures.ok
          (read ∙ c.with_share-future.ensures.value ∙ ap (λ (z : ℤ). to_z w128 c.loop-joint.future-bits +ℤ floor z q) (to_z-of_z w128 c.in_ok-link.link.sum fits_sum))
          (subst (λ (z : ℤ). unsigned_abs z ≤ (c.loop-joint.joint + 1) * 2 ^ 93) (sym read) c.with_share-future.ensures.small);
    }

pub returns-clause-links : goal.returns-clause-links
returns-clause-links c =
    let e = c.args.setting.now.edition.now in
    let count = c.joint_count-joint-end.ensures.value ∙ ap (λ (p : Parts). count_of (sizes_of p.sights)) c.model_of.ensures.value in
    let last : c.loop-joint.joint ≡ count_of (sizes_of e.task.model.sights) = omega (arith, count) in
    subst (λ (n : ℕ). AreActionLinks e (weights_of e.task.model c.args.setting.now.weights.now) c.args.successors.now.action n (record { places = c.loop-joint.places; future = to_z w128 c.loop-joint.future-bits })) last c.loop-joint.invariant.links

use Rattle.std.proofs.Common.{◌≡◌, ℕ, refl, ap, ◌∙◌, subst, arith}
use Rattle.sp_theory.specs.Points.{count_of}
use Rattle.sp_model.specs.declared.parts.Parts.{Parts}
use Rattle.sp_model.specs.Problem.{sizes_of}
use Rattle.sp_model.specs.Links.{weights_of}
use Rattle.sp_backup.specs.Choosing.{AreLinks}
use Rattle.sp_backup.proofs.AllLinks.{links_none, links_push}
use Rattle.sp_backup.proofs.pulling.pulled_links.Goals as goal

pub loop-joint-init : goal.loop-joint-init
loop-joint-init c = record { kept = c.requires.kept; links = links_none _ _ _ _ c.new-places.ensures }

pub loop-joint-preserved : goal.loop-joint-preserved
loop-joint-preserved c = record {
  kept = c.pulled_link.ensures.kept ∙ c.loop-joint.invariant.kept;
  links = links_push _ _ _ c.loop-joint.joint _ _ _ _ refl c.loop-joint.invariant.links c.in_ok-place.ensures.link c.in_ok-push.ensures.ok;
}

pub returns-clause-links : goal.returns-clause-links
returns-clause-links c =
    let e = c.args.setting.now.edition.now in
    let count = c.joint_count-joint-end.ensures.value ∙ ap (λ (p : Parts). count_of (sizes_of p.sights)) c.model_of.ensures.value in
    let last : c.loop-joint.joint ≡ count_of (sizes_of e.task.model.sights) = omega (arith, count) in
    subst (λ (n : ℕ). AreLinks e (weights_of e.task.model c.args.setting.now.weights.now) c.args.action n c.loop-joint.places) last c.loop-joint.invariant.links

use Rattle.std.proofs.Common.{refl, sym, ap, ◌∙◌, subst, arith, length}
use Rattle.sp_theory.specs.Points.{point_of}
use Rattle.sp_model.specs.Problem.{sizes_of}
use Rattle.sp_model.specs.Links.{weights_of}
use Rattle.sp_backup.specs.Choosing.{IsLinkAt}
use Rattle.sp_backup.proofs.UnscaledSums.{alike_link}
use Rattle.sp_backup.proofs.BestLink.{link_first, link_next, link_last}
use Rattle.sp_backup.proofs.linking.LinkSearch.link.Goals as goal

pub returns-then-self-clause-link : goal.returns-then-self-clause-link
returns-then-self-clause-link c =
    let s = c.args.self.now in
    let e = s.setting.now.edition.now in
    subst (IsLinkAt e (weights_of e.task.model s.setting.now.weights.now) s.action (point_of (sizes_of e.task.model.sights) s.joint)) (sym c.in_ok-first.ensures.place)
    (alike_link e c.members-members.ensures.known s.setting.now.weights.now s.action s.joint s.posterior.now s.posterior_is s.setting.now.first s.setting.now.least_id c.if-self.true)

pub loop-k-init : goal.loop-k-init
loop-k-init c = record { kept = c.requires; best = link_first _ _ _ _ c.in_ok-best.best c.members-members.ensures.known.some c.in_ok-best.ensures.place c.in_ok-best.ensures.is }

pub loop-k-preserved : goal.loop-k-preserved
loop-k-preserved c =
    let long = ap length c.members-members.ensures.value in
    record {
      kept = c.better.ensures.kept ∙ c.loop-k.invariant.kept;
      best = link_next _ _ _ _ c.loop-k.k _ c.loop-k.best c.in_ok-next.next c.in_ok-best-2.best c.loop-k.invariant.best (omega (arith, long)) c.in_ok-next.ensures.place c.in_ok-best-2.ensures.is c.in_ok-best-2.ensures.chosen refl;
    }

pub returns-clause-kept : goal.returns-clause-kept
returns-clause-kept c = c.loop-k.invariant.kept ∙ sym c.requires

pub returns-clause-link : goal.returns-clause-link
returns-clause-link c = let long = ap length c.members-members.ensures.value in link_last _ _ _ _ c.loop-k.k c.loop-k.best c.loop-k.invariant.best (omega (arith, long))

pub returns-clause-scored : goal.returns-clause-scored
returns-clause-scored c = c.loop-k.invariant.best.scored

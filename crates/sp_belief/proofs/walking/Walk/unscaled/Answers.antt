use Rattle.std.proofs.Common.{ap, subst, sym, ◌∙◌, List, length, Bool}
use Rattle.std.specs.Bool.{OnTrue}
use Rattle.sp_dd.specs.Operations.{exchange_of_slots}
use Rattle.sp_belief.specs.declared.walking.Step.{Step}
use Rattle.sp_belief.specs.Updates.{unscaled_after}
use Rattle.sp_belief.specs.Paths.{func_after, LeadsTo, IsUnscaled}
use Rattle.sp_belief.proofs.SeenLemmas.{IsSeen, seen_primed, seen_has, seen_small}
use Rattle.sp_belief.proofs.ScaleLemmas.{total_low, next_few}
use Rattle.sp_belief.proofs.PathLemmas.{end_seen}
use Rattle.sp_belief.proofs.walking.Walk.unscaled.Goals.{After-end}
use Rattle.sp_belief.proofs.walking.Walk.unscaled.Goals as goal

seen : (c : After-end) → IsSeen c.args.self.now.carried.now.model.now c.args.self.now.carried.now.weights.now c.args.self.now.carried.now.action c.args.observation (length c.args.self.now.carried.now.model.now.sights) c.end.result.now
seen c =
    let x = c.args.self.now.carried.now in
    end_seen x.model.now c.parts.ensures.known x.weights.now x.action x.known x.func x.carried c.reaches.new.path.items c.in_ok-reaches.ensures.path c.args.observation c.requires.observation
    (length x.model.now.sights) c.end.result.now
    (subst (λ (b : Bool). OnTrue b (LeadsTo x.model.now c.reaches.new.path.items c.args.observation (length x.model.now.sights))) c.if-not-branch.false c.in_ok-reaches.ensures.yes)
    (c.end.ensures ∙ ap (λ (l : List Step). func_after x.func l (length l)) c.as_slice.ensures.value)

pub unprime-requires : goal.unprime-requires
unprime-requires c =
    let x = c.args.self.now.carried.now in
    seen_primed x.model.now c.parts.ensures.known x.action x.known x.weights.now c.args.observation c.requires.observation c.end.result.now (seen (goal.at.unprime-requires c).After-end)

pub returns-clause-some : goal.returns-clause-some
returns-clause-some c =
    let x = c.args.self.now.carried.now in
    let p = x.model.now in
    let known = c.parts.ensures.known in
    let is = seen (goal.at.returns-clause-some c).After-end in
    let has = seen_has p known x.action x.known x.weights.now c.args.observation c.requires.observation c.end.result.now is in
    subst (IsUnscaled p x.weights.now x.action c.args.observation) (sym c.in_ok-raw.ensures) (record {
      has = has;
      small = seen_small p known x.action x.known x.weights.now c.args.observation c.requires.observation c.end.result.now is;
      few = total_low p known (exchange_of_slots c.end.result.now) (unscaled_after p x.weights.now x.action c.args.observation) has
          (next_few p x.weights.now x.action c.args.observation known x.scope c.func.ensures.known x.known c.requires.observation);
    })

use Rattle.std.proofs.Common.{ap, sym, ◌∙◌, subst, arith, length}
use Rattle.std.specs.Prelude.{pos}
use Rattle.sp_dd.specs.Func.{Shape}
use Rattle.sp_dd.specs.Operations.{everywhere}
use Rattle.sp_model.specs.Problem.{no_func}
use Rattle.sp_belief.specs.Paths.{IsZero, IsUnscaled}
use Rattle.sp_belief.proofs.Appended.{each_pushed, count_pushed}
use Rattle.sp_belief.proofs.PathLemmas.{path_begin, zero_is}
use Rattle.sp_belief.proofs.carried.Carried.all_unscaled.Goals as goal

pub loop-observation-init : goal.loop-observation-init
loop-observation-init c = record {
  path = path_begin c.args.self.now.model.now c.args.self.now.action c.args.self.now.func c.new-path.result.items c.new-path.ensures.items;
  are = record { count = ap length c.new-made.ensures; each = λ o less. absurd (omega arith) };
}

pub unscaled_or-requires-clause-path : goal.unscaled_or-requires-clause-path
unscaled_or-requires-clause-path c = c.loop-observation.invariant.path

pub unscaled_or-requires-clause-none : goal.unscaled_or-requires-clause-none
unscaled_or-requires-clause-none c =
    let known = c.parts.ensures.known in
    subst (IsZero c.args.self.now.model.now) (sym (c.in_ok-none.ensures ∙ ap (λ (s : Shape). everywhere s (pos 0)) c.scope.ensures)) (zero_is c.args.self.now.model.now known)

pub loop-observation-preserved : goal.loop-observation-preserved
loop-observation-preserved c =
    let x = c.args.self.now in
    let is = c.loop-observation.invariant.are in
    record {
      path = c.in_ok-raw.ensures.path;
      are = record {
        count = count_pushed c.loop-observation.observation _ _ _ is.count c.in_ok-push.ensures.ok;
        each = each_pushed (IsUnscaled x.model.now x.weights.now x.action) no_func c.loop-observation.observation _ _ _ is.count is.each c.in_ok-raw.ensures.value c.in_ok-push.ensures.ok;
      };
    }

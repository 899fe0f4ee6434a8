use Rattle.std.proofs.Common.{◌≡◌, ◌∷◌, [], ◌++◌, ℕ, length, arith, ap, sym, ◌∙◌, Err, Some, Result, subst}
use Rattle.std.specs.Prelude.{slice_get}
use Rattle.std.proofs.lemmas.List.{length-append}
use Rattle.sp_model.specs.declared.beliefs.Sample.{Sample}
use Rattle.sp_lines.proofs.Lists.{lines_step, no_line, other_line}
use Rattle.sp_planfile.specs.Contents.{moves_of, move_of}
use Rattle.sp_planfile.specs.PlanText.{belief_line}
use Rattle.sp_planfile.proofs.Whole.{move_lacks}
use Rattle.sp_filed.specs.declared.moves.Unsampled.{Unsampled}
use Rattle.sp_filed.specs.declared.moves.Unsampled.TheVariants.{Shape, Sample as Unseen}
use Rattle.sp_filed.specs.Sizes.{IsMoveOf}
use Rattle.sp_filed.proofs.Beliefs.{parent_scope, sampled_more, moves_push}
use Rattle.sp_filed.proofs.moves.beliefs_first.Goals as goal

left_is : {T : Type 0} (m n : ℕ) → ◌≡◌ {A = Result T Unsampled} (Err (Shape m)) (Err (Shape n)) → n ≡ m
left_is m n e = let same : m ≡ n = cc e in sym same

left_unseen : {T : Type 0} (m n : ℕ) → ◌≡◌ {A = Result T Unsampled} (Err (Unseen m)) (Err (Unseen n)) → n ≡ m
left_unseen m n e = let same : m ≡ n = cc e in sym same

pub returns-in_default-clause-shape : goal.returns-in_default-clause-shape
returns-in_default-clause-shape c = λ left e. record {
  before = record { read = c.loop-k.list; rest = c.loop-k.rest.now; is = c.loop-k.invariant.read; some = omega (arith, c.loop-k.invariant.count); fewer = omega (arith, c.loop-k.invariant.count); sampled = c.loop-k.invariant.sampled; bytes = left_is _ left e };
  none = no_line belief_line (IsMoveOf c.args.sizes) c.loop-k.rest.now c.in_default.ensures;
}

pub returns-in_default-move_of-clause-shape : goal.returns-in_default-move_of-clause-shape
returns-in_default-move_of-clause-shape c = λ left e. record {
  before = record { read = c.loop-k.list; rest = c.loop-k.rest.now; is = c.loop-k.invariant.read; some = omega (arith, c.loop-k.invariant.count); fewer = omega (arith, c.loop-k.invariant.count); sampled = c.loop-k.invariant.sampled; bytes = left_is _ left e };
  none = other_line belief_line (IsMoveOf c.args.sizes) (λ x good. move_lacks x good.1) c.loop-k.rest.now c.in-Some.line.now c.in-Some.more.now c.in-Some.ensures c.in_default-move_of.ensures;
}

pub next-requires-clause-scope : goal.next-requires-clause-scope
next-requires-clause-scope c = parent_scope c.args.model.now c.parts.ensures.known c.args.sizes c.requires.actions c.requires.joint c.args.depth c.loop-k.k c.loop-k.list c.loop-k.invariant.sampled c.loop-k.invariant.count c.parent_of.result c.parent_of.ensures c.at-parent.result.now c.at-parent.ensures

pub returns-in-Err-Unseen-clause-sample : goal.returns-in-Err-Unseen-clause-sample
returns-in-Err-Unseen-clause-sample c = λ left e. record {
  before = record { read = c.loop-k.list; rest = c.loop-k.rest.now; is = c.loop-k.invariant.read; some = omega (arith, c.loop-k.invariant.count); fewer = omega (arith, c.loop-k.invariant.count); sampled = c.loop-k.invariant.sampled; bytes = left_unseen _ left e };
  move = (c.in-Some-move_of.action, c.in-Some-move_of.observation);
  more = c.in-Some.more.now;
  parent = c.at-parent.result.now;
  k = c.loop-k.k;
  is = c.in-Some.ensures.is ∙ ap (λ l. l ++ (10 ∷ c.in-Some.more.now)) c.in-Some-move_of.ensures.1;
  good = c.in-Some-move_of.ensures.0;
  count = c.loop-k.invariant.count;
  stands = subst (λ j. slice_get c.loop-k.list j ≡ Some c.at-parent.result.now) c.parent_of.ensures c.at-parent.ensures;
  unseen = rw c.in-Err-Unseen.field-0-is at c.in-Err-Unseen.ensures.err;
}

pub loop-k-preserved : goal.loop-k-preserved
loop-k-preserved c =
    let x : Sample = record { action = c.in-Some-move_of.action; observation = c.in-Some-move_of.observation; weights = c.in-Ok.weights } in
    let pushed : c.push-in-Ok.new.self ≡ c.loop-k.list ++ (x ∷ []) = c.in_ok-push-in-Ok.ensures.ok in
    let mapped : moves_of c.push-in-Ok.new.self ≡ moves_of c.loop-k.list ++ (move_of x ∷ []) = ap moves_of pushed ∙ moves_push c.loop-k.list x (omega (arith, c.loop-k.invariant.count)) in
    record {
      count = omega (arith, ap length pushed, length-append c.loop-k.list (x ∷ []), c.loop-k.invariant.count);
      read = lines_step belief_line (moves_of c.loop-k.list) (moves_of c.push-in-Ok.new.self) (move_of x) c.args.text.now c.loop-k.rest.now c.in-Some.line.now c.in-Some.more.now c.loop-k.invariant.read c.in-Some.ensures c.in-Some-move_of.ensures.1 mapped;
      sampled = sampled_more c.args.model.now c.parts.ensures.known c.args.sizes c.requires.actions c.requires.joint c.args.depth c.loop-k.k c.loop-k.list c.loop-k.invariant.sampled c.loop-k.invariant.count c.parent_of.result c.parent_of.ensures c.at-parent.result.now c.at-parent.ensures x c.push-in-Ok.new.self c.in-Some-move_of.ensures.0 c.in-Ok.ensures.ok pushed;
    }

use Rattle.std.proofs.Common.{◌≡◌, ◌≤◌, ◌++◌, ◌∷◌, [], length, take, drop, arith, refl, sym, ◌∙◌, ap, to_z, of_z, subst₂}
use mir.Syntax.{w128}
use Rattle.std.proofs.lemmas.Grind.{common_steps}
use Rattle.sp_dd.specs.declared.part.Part.TheVariants.{Leaf}
use Rattle.sp_dd.specs.Kept.{AreKnown}
use Rattle.sp_dd.proofs.Branching.{whole_leaf}
use Rattle.sp_dd.proofs.Known.{whole_found, joined_more, known_extends, known_push}
use Rattle.sp_dd.proofs.Steps.{step_walk, next_walk, gathered_none, gathered_more, gathered_all, stack_first, stack_more, stack_room, stack_kept, walked}
use Rattle.sp_dd.proofs.walk.+walk_branch.Goals as goal
use Rattle.sp_dd.proofs.walk.+walk_branch.Goals.{in-Leaf+in_ok-push-in-Leaf, in-Branch+in_ok-walk_branch-in-Branch}

pub returns-in-Some-clause-made : goal.returns-in-Some-clause-made
returns-in-Some-clause-made g t c = record {
  part = c.in-Some.part;
  made = c.requires.known _ _ c.in-Some.ensures;
  pushed = c.in_ok-push.ensures.ok;
}

pub loop-value-init : goal.loop-value-init
loop-value-init g t c =
    let e : c.len-start.result ≡ length c.args.stack.now = grind (arith, common_steps) in
    let none : drop c.len-start.result c.args.stack.now ≡ [] = stack_first _ _ e in
    let all : take c.len-start.result c.args.stack.now ≡ c.args.stack.now = grind (arith, common_steps) in
    record { made = gathered_none _ _ _ none; known = c.requires.known; room = omega (arith, e); kept = all }

pub loop-value-preserved : goal.loop-value-preserved
loop-value-preserved g t c =
    let room : c.len-start.result ≤ length c.loop-value.stack = c.loop-value.invariant.room in
    elim c.match-step.branch [
      | in-Leaf+in_ok-push-in-Leaf w ↦
          (let z : to_z w128 (of_z w128 w.in-Leaf.leaf) ≡ w.in-Leaf.leaf = grind (arith, common_steps) in
          let e : c.match-step.stack ≡ c.loop-value.stack ++ Leaf w.in-Leaf.leaf ∷ [] =
          w.stack-is ∙ w.in_ok-push-in-Leaf.ensures.ok ∙ ap (λ x. c.loop-value.stack ++ Leaf x ∷ []) z in
          record {
            made = gathered_more _ _ _ _ _ _ _ _ c.loop-value.invariant.made (next_walk _ _ _ _ _ c.next-next.ensures.later c.next-next.ensures.value _ ∙ whole_leaf _ c.requires.positive _ w.in-Leaf.leaf w.in-Leaf.ensures.leaf _ ∙ ap (λ d. (d, Leaf w.in-Leaf.leaf)) (sym w.draft-is)) (stack_more _ _ _ _ room e);
            known = subst₂ (λ m d. AreKnown c.args.scope.now.sizes (g.S.Source.meaning c.args.source.now) m d) (sym w.memo-is) (sym w.draft-is) c.loop-value.invariant.known;
            room = stack_room _ _ _ _ room e;
            kept = stack_kept _ _ _ _ _ room e c.loop-value.invariant.kept;
          })
      | in-Branch+in_ok-walk_branch-in-Branch w ↦
          (let here = w.in_ok-walk_branch-in-Branch.ensures.made in
          let e : c.match-step.stack ≡ c.loop-value.stack ++ here.part ∷ [] = w.stack-is ∙ here.pushed in
          record {
            made = gathered_more _ _ _ _ _ _ _ _ c.loop-value.invariant.made (next_walk _ _ _ _ _ c.next-next.ensures.later c.next-next.ensures.value _ ∙ here.made ∙ ap (λ d. (d, here.part)) (sym w.draft-is)) (stack_more _ _ _ _ room e);
            known = subst₂ (λ m d. AreKnown c.args.scope.now.sizes (g.S.Source.meaning c.args.source.now) m d) (sym w.memo-is) (sym w.draft-is) w.in_ok-walk_branch-in-Branch.ensures.known;
            room = stack_room _ _ _ _ room e;
            kept = stack_kept _ _ _ _ _ room e c.loop-value.invariant.kept;
          })
    ]

pub returns-then-not-is_recurring-clause-made : goal.returns-then-not-is_recurring-clause-made
returns-then-not-is_recurring-clause-made g t c =
    walked _ _ _ _ _ _ _ _ _ _
    (step_walk _ c.requires.positive _ _ refl c.requires.within _ c.requires.later _
    ∙ gathered_all _ _ _ _ _ _ _ _ _ _ (omega arith) c.loop-value.invariant.made refl c.in_ok-part.ensures)
    c.loop-value.invariant.kept c.truncate.ensures c.in_ok-push-2.ensures.ok

pub returns-then-not-is_recurring-clause-known : goal.returns-then-not-is_recurring-clause-known
returns-then-not-is_recurring-clause-known g t c =
    known_extends _ _ c.loop-value.memo _ _ (joined_more _ _ _ _ _ c.in_ok-part.ensures) c.loop-value.invariant.known

pub returns-clause-made : goal.returns-clause-made
returns-clause-made g t c =
    walked _ _ _ _ _ _ _ _ _ _
    (step_walk _ c.requires.positive _ _ refl c.requires.within _ c.requires.later _
    ∙ gathered_all _ _ _ _ _ _ _ _ _ _ (omega arith) c.loop-value.invariant.made refl c.in_ok-part.ensures)
    c.loop-value.invariant.kept c.truncate.ensures c.in_ok-push-2.ensures.ok

pub returns-clause-known : goal.returns-clause-known
returns-clause-known g t c =
    let made =
    step_walk _ c.requires.positive _ _ refl c.requires.within _ c.requires.later _
    ∙ gathered_all _ _ _ _ _ _ _ _ _ _ (omega arith) c.loop-value.invariant.made refl c.in_ok-part.ensures in
    known_push _ _ c.loop-value.memo c.keep.new.self _ c.args.state _ (known_extends _ _ c.loop-value.memo _ _ (joined_more _ _ _ _ _ c.in_ok-part.ensures) c.loop-value.invariant.known) (whole_found _ _ _ _ _ made) c.in_ok-keep.ensures.ok

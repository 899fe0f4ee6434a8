use Rattle.std.proofs.Common.{◌≡◌, ◌≤◌, ◌++◌, ◌∷◌, ◌-◌, [], ℕ, List, length, take, drop, arith, refl, sym, ◌∙◌, ap, to_z, of_z, subst}
use mir.Syntax.{w128}
use Rattle.std.proofs.lemmas.Grind.{common_steps}
use Rattle.std.proofs.lemmas.List.{take_all, length-drop}
use Rattle.sp_dd.specs.declared.part.Part.{Part}
use Rattle.sp_dd.specs.declared.part.Part.TheVariants.{Leaf}
use Rattle.sp_dd.specs.declared.bundle_memo.BundleMemo.{BundleMemo}
use Rattle.sp_dd.specs.NodeLists.{Node, made_node}
use Rattle.sp_dd.specs.Bundles.{HasBundle, AreBundlesKnown, IsNextBundle}
use Rattle.sp_dd.proofs.Known.{whole_found, joined_more}
use Rattle.sp_dd.proofs.BundleLemmas.{bundle_known, bundles_extend, bundles_push, leaf_is, branch_is, bundle_leaf, bundle_branch, list_back}
use Rattle.sp_dd.proofs.Steps.{step_walk, gathered_none, gathered_more, gathered_all, stack_first, stack_more, stack_room, stack_kept, walked}
use Rattle.sp_dd.proofs.bundle.+walk_bundle.Goals as goal
use Rattle.sp_dd.proofs.bundle.+walk_bundle.Goals.{in-Leaf+in_ok-push-in-Leaf, in-Branch+in_ok-walk_bundle-in-Branch}

pub loop-value-init : goal.loop-value-init
loop-value-init g t c =
    let e : c.len-first.result ≡ length c.args.stack.now = grind (arith, common_steps) in
    let none : drop c.len-first.result c.args.stack.now ≡ [] = stack_first _ _ e in
    let all : take c.len-first.result c.args.stack.now ≡ c.args.stack.now = grind (arith, common_steps) in
    record { made = gathered_none _ _ _ none; known = c.requires.known; room = omega (arith, e); kept = all; list = refl }

pub loop-value-preserved : goal.loop-value-preserved
loop-value-preserved g t c =
    let room : c.len-first.result ≤ length c.loop-value.stack = c.loop-value.invariant.room in
    let same : c.loop-value.list.items ≡ c.args.list.now.items = c.loop-value.invariant.list in
    let end : c.len-end.result ≡ length c.args.list.now.items = grind (arith, common_steps) in
    let bundle : List Part → Node = λ items. made_node c.args.slot (drop c.args.start items) in
    elim c.match-next.branch [
      | in-Leaf+in_ok-push-in-Leaf w ↦
          (let z : to_z w128 (of_z w128 w.in-Leaf.leaf) ≡ w.in-Leaf.leaf = grind (arith, common_steps) in
          let e : c.match-next.stack ≡ c.loop-value.stack ++ Leaf w.in-Leaf.leaf ∷ [] =
          w.stack-is ∙ w.in_ok-push-in-Leaf.ensures.ok ∙ ap (λ x. c.loop-value.stack ++ Leaf x ∷ []) z in
          let P : List Part → Type 0 = λ items. (π : ℕ → ℕ) → π c.args.slot ≡ c.loop-value.value → g.S.BundleSource.meaning c.args.source.now (bundle items) π ≡ w.in-Leaf.leaf in
          let h : P c.args.list.now.items = subst P same (leaf_is _ _ _ c.in_ok-next.ensures.leaf w.in-Leaf.is) in
          let K : BundleMemo → List Node → Type 0 = λ m d. AreBundlesKnown c.args.scope.now.sizes (g.S.BundleSource.meaning c.args.source.now) m.bundles m.parts d in
          record {
            made = gathered_more _ _ _ _ _ _ _ _ c.loop-value.invariant.made (bundle_leaf _ c.requires.positive _ _ _ w.in-Leaf.leaf h _ ∙ ap (λ d. (d, Leaf w.in-Leaf.leaf)) (sym w.draft-is)) (stack_more _ _ _ _ room e);
            known = subst (λ m. K m c.match-next.draft) (sym w.memo-is) (subst (K c.loop-value.memo) (sym w.draft-is) c.loop-value.invariant.known);
            room = stack_room _ _ _ _ room e;
            kept = stack_kept _ _ _ _ _ room e c.loop-value.invariant.kept;
            list = list_back c.len-end.result _ _ c.next.new.list.items _ _ same end c.in_ok-next.ensures.kept (ap (λ l. l.items) w.list-is) c.truncate.ensures.items;
          })
      | in-Branch+in_ok-walk_bundle-in-Branch w ↦
          (let here = w.in_ok-walk_bundle-in-Branch.ensures.made in
          let e : c.match-next.stack ≡ c.loop-value.stack ++ here.part ∷ [] = w.stack-is ∙ here.pushed in
          let P : List Part → Type 0 = λ items. IsNextBundle (g.S.BundleSource.sizes c.args.source.now) (g.S.BundleSource.meaning c.args.source.now) (g.S.BundleSource.IsBundle c.args.source.now) (bundle items) c.loop-value.value (made_node w.in-Branch.later (drop c.in_ok-next.next.start c.next.new.list.items)) in
          let h : P c.args.list.now.items = subst P same (branch_is _ _ _ c.in_ok-next.ensures.branch w.in-Branch.is) in
          let Q : List ℕ → Type 0 = λ sizes. IsNextBundle sizes (g.S.BundleSource.meaning c.args.source.now) (g.S.BundleSource.IsBundle c.args.source.now) (bundle c.args.list.now.items) c.loop-value.value (made_node w.in-Branch.later (drop c.in_ok-next.next.start c.next.new.list.items)) in
          let K : BundleMemo → List Node → Type 0 = λ m d. AreBundlesKnown c.args.scope.now.sizes (g.S.BundleSource.meaning c.args.source.now) m.bundles m.parts d in
          record {
            made = gathered_more _ _ _ _ _ _ _ _ c.loop-value.invariant.made (bundle_branch _ _ _ (bundle c.args.list.now.items) _ _ _ _ _ (subst Q c.requires.sizes h) here.made ∙ ap (λ d. (d, here.part)) (sym w.draft-is)) (stack_more _ _ _ _ room e);
            known = subst (λ m. K m c.match-next.draft) (sym w.memo-is) (subst (K w.walk_bundle.new.memo) (sym w.draft-is) w.in_ok-walk_bundle-in-Branch.ensures.known);
            room = stack_room _ _ _ _ room e;
            kept = stack_kept _ _ _ _ _ room e c.loop-value.invariant.kept;
            list = list_back c.len-end.result _ _ c.next.new.list.items _ _ same end c.in_ok-next.ensures.kept (ap (λ l. l.items) w.list-is ∙ w.in_ok-walk_bundle-in-Branch.ensures.list) c.truncate.ensures.items;
          })
    ]

pub returns-in-Some-clause-made : goal.returns-in-Some-clause-made
returns-in-Some-clause-made g t c =
    let items : List Part = c.deref-2.result.now in
    let all : take (length items - c.args.start) (drop c.args.start items) ≡ drop c.args.start items = take_all _ _ (omega (arith, length-drop c.args.start items)) in
    let same : take (length items - c.args.start) (drop c.args.start items) ≡ drop c.args.start c.args.list.now.items = all ∙ ap (drop c.args.start) c.deref-2.ensures.value in
    let P : List Part → Type 0 = λ ps. HasBundle c.args.memo.now.bundles c.args.memo.now.parts (made_node c.args.slot ps) c.in-Some.part in
    record {
      part = c.in-Some.part;
      made = bundle_known _ _ _ _ _ _ _ c.requires.known (subst P same c.in-Some.ensures);
      pushed = c.in_ok-push.ensures.ok;
    }

pub returns-clause-made : goal.returns-clause-made
returns-clause-made g t c =
    walked _ _ _ _ _ _ _ _ _ _
    (step_walk _ c.requires.positive _ _ refl c.requires.within _ c.requires.later _
    ∙ gathered_all _ _ _ _ _ _ _ _ _ _ (omega arith) c.loop-value.invariant.made refl c.in_ok-part.ensures)
    c.loop-value.invariant.kept c.truncate-2.ensures c.in_ok-push-2.ensures.ok

pub returns-clause-known : goal.returns-clause-known
returns-clause-known g t c =
    let made =
    step_walk _ c.requires.positive _ _ refl c.requires.within _ c.requires.later _
    ∙ gathered_all _ _ _ _ _ _ _ _ _ _ (omega arith) c.loop-value.invariant.made refl c.in_ok-part.ensures in
    let P : List Part → Type 0 = λ bundle. c.keep.new.self.bundles ≡ c.loop-value.memo.bundles ++ made_node c.args.slot bundle ∷ [] in
    let more : P (drop c.args.start c.args.list.now.items) = subst P (ap (drop c.args.start) c.loop-value.invariant.list) c.in_ok-keep.ensures.bundles in
    bundles_push _ _ c.loop-value.memo.bundles c.keep.new.self.bundles c.loop-value.memo.parts c.keep.new.self.parts _ _ _ (bundles_extend _ _ c.loop-value.memo.bundles c.loop-value.memo.parts _ _ (joined_more _ _ _ _ _ c.in_ok-part.ensures) c.loop-value.invariant.known) (whole_found _ _ _ _ _ made) more c.in_ok-keep.ensures.parts

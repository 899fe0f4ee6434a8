use Rattle.std.proofs.Common.{◌≡◌, ◌≤◌, ◌-◌, List, length, take, drop}
use Rattle.sp_dd.specs.declared.part.Part.{Part}
use Rattle.sp_dd.specs.NodeLists.{Node, made_node, gathered}
use Rattle.sp_dd.specs.Walks.{whole}
use Rattle.sp_dd.specs.Bundles.{AreBundlesKnown}
use Rattle.sp_dd.proofs.Steps.{fixed}
use Rattle.sp_dd.proofs.bundle.+walk_bundle.Given as goal

abbrev pub decreases-walk_bundle : goal.decreases-walk_bundle
decreases-walk_bundle g l = length l.scope.now.sizes - l.slot

abbrev pub invariant-loop-value : goal.invariant-loop-value
invariant-loop-value g l =
    let now : List Node × List Part = (l.draft, drop l.first l.stack) in
    let bundle : Node = made_node l.slot (drop l.start l.initial.list.items) in
    record {
      made : gathered (λ v. whole l.scope.sizes (fixed l.slot v (g.S.BundleSource.meaning l.source bundle))) l.value l.initial.draft ≡ now;
      known : AreBundlesKnown l.scope.sizes (g.S.BundleSource.meaning l.source) l.memo.bundles l.memo.parts l.draft;
      room : l.first ≤ length l.stack;
      kept : take l.first l.stack ≡ l.initial.stack;
      list : l.list.items ≡ l.initial.list.items;
    }

use Rattle.std.proofs.Common.{◌∙◌, sym, ap, arith, ◌<◌, length}
use Rattle.std.specs.Arc.{arc_value}
use Rattle.sp_core.specs.Ledgers.{LedgerContents, contents}
use Rattle.sp_core.specs.Pruning.{pruned_in}
use Rattle.sp_core.proofs.PrunedLedgers.{some_left, nothing_pruned, some_pruned}
use Rattle.sp_core.proofs.ledger.Ledger.prune_ours.Goals as goal

pub returns-then-len-eq0-clause-ok : goal.returns-then-len-eq0-clause-ok
returns-then-len-eq0-clause-ok c =
    let own = contents c.args.self.now in
    let ours = c.requires.ours in
    nothing_pruned own c.requires.ledger c.if-self.false (arc_value c.args.base.now) ours c.args.pairs.now c.requires.pairs c.in-Ok.found c.in-Ok.ensures (sym c.len.ensures ∙ c.if-len-eq0.true)

pub left-requires-clause-some : goal.left-requires-clause-some
left-requires-clause-some c =
    let own = contents c.args.self.now in
    let ours = c.requires.ours in
    some_left own c.requires.ledger c.if-self.false (arc_value c.args.base.now) ours c.args.pairs.now c.requires.pairs c.in-Ok.found c.in-Ok.ensures

pub returns-in-Ok-left-clause-ledger : goal.returns-in-Ok-left-clause-ledger
returns-in-Ok-left-clause-ledger c =
    let own = contents c.args.self.now in
    let ours = c.requires.ours in
    let more : 0 < length c.in-Ok.found = omega (arith, c.len.ensures, c.if-len-eq0.false) in
    (some_pruned own c.requires.ledger c.if-self.false (arc_value c.args.base.now) ours c.args.pairs.now c.requires.pairs c.in-Ok.found c.in-Ok.ensures more _ (c.drop_members.ensures ∙ ap (λ (x : LedgerContents). pruned_in x c.in-Ok.found) c.in-Ok-left.ensures.same) _ c.len-count.ensures).0

pub returns-in-Ok-left-clause-ok : goal.returns-in-Ok-left-clause-ok
returns-in-Ok-left-clause-ok c =
    let own = contents c.args.self.now in
    let ours = c.requires.ours in
    let more : 0 < length c.in-Ok.found = omega (arith, c.len.ensures, c.if-len-eq0.false) in
    (some_pruned own c.requires.ledger c.if-self.false (arc_value c.args.base.now) ours c.args.pairs.now c.requires.pairs c.in-Ok.found c.in-Ok.ensures more _ (c.drop_members.ensures ∙ ap (λ (x : LedgerContents). pruned_in x c.in-Ok.found) c.in-Ok-left.ensures.same) _ c.len-count.ensures).1

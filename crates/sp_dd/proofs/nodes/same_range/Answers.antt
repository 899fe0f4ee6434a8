use Rattle.std.proofs.Common.{arith, sym, ◌∙◌}
use Rattle.std.proofs.lemmas.Bool.{false≢true}
use Rattle.sp_dd.proofs.Ranges.{range_apart}
use Rattle.sp_dd.proofs.nodes.same_range.Goals as goal

pub returns-then-not-same : goal.returns-then-not-same
returns-then-not-same c =
    (λ t. absurd (false≢true t), λ e. absurd (false≢true (sym c.if-not-same.true ∙ c.same.ensures.1 (range_apart c.args.left.now c.args.right.now c.args.left_from c.args.right_from c.loop-i.i c.args.count (omega arith) e))))

use Rattle.std.proofs.Common.{◌∙◌, sym, ap, ℕ, List, drop, ◌+◌, Bool, ◌||◌}
use Rattle.std.proofs.lemmas.Bool.{eq-eqb, ne_eqb}
use Rattle.sp_drops.specs.Drops.{goes}
use Rattle.sp_drops.proofs.PairLists.{drop_read}
use Rattle.sp_drops.proofs.drops.is_first.Goals as goal

pub returns-then-id-at : goal.returns-then-id-at
returns-then-id-at c =
    let rest = goes (drop (c.loop-k.k + 1) c.args.pairs.now) c.args.id in
    let is = ap (λ (ps : List (ℕ × ℕ)). goes ps c.args.id) (drop_read c.args.pairs.now c.loop-k.k c.at.result.now c.at.ensures) in
    sym (sym c.loop-k.invariant ∙ is ∙ ap (λ (b : Bool). b || rest) (eq-eqb _ _ c.if-id-at.true))

pub loop-k-preserved : goal.loop-k-preserved
loop-k-preserved c =
    let rest = goes (drop (c.loop-k.k + 1) c.args.pairs.now) c.args.id in
    let is = ap (λ (ps : List (ℕ × ℕ)). goes ps c.args.id) (drop_read c.args.pairs.now c.loop-k.k c.at.result.now c.at.ensures) in
    sym (is ∙ ap (λ (b : Bool). b || rest) (ne_eqb _ _ c.if-id-at.false)) ∙ c.loop-k.invariant

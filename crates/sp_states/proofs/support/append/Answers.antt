use Rattle.std.proofs.Common.{◌≡◌, ◌∙◌, ◌+◌, ◌++◌, ◌∷◌, [], length, arith, ap}
use Rattle.std.proofs.lemmas.Grind.{common_steps}
use Rattle.std.proofs.lemmas.List.{length_push}
use Rattle.sp_states.proofs.Blocks.{block_none, block_first, block_more, block_past}
use Rattle.sp_states.proofs.support.append.Goals as goal

pub returns-then-weight-eq0 : goal.returns-then-weight-eq0
returns-then-weight-eq0 c = block_none _ _ _ _ _ c.if-weight-eq0.true c.requires.room

pub loop-k-init : goal.loop-k-init
loop-k-init c = record { entries = block_first _ _; room = c.requires.room }

pub returns-then-len-room : goal.returns-then-len-room
returns-then-len-room c = block_past c.args.block.first c.loop-k.k c.args.block.count c.args.weight c.args.room _ _ c.if-weight-eq0.false c.loop-k.invariant.entries c.loop-k-test.true (omega (arith, c.len.ensures, c.if-len-room.true, c.loop-k.entries.ok.0))

pub loop-k-preserved : goal.loop-k-preserved
loop-k-preserved c =
    let one : c.push.new.self.items ≡ c.loop-k.entries.items ++ record { state = c.args.block.first + c.loop-k.k; weight = c.args.weight } ∷ [] = grind (arith, common_steps) in
    let longer : length c.push.new.self.items ≡ length c.loop-k.entries.items + 1 = ap length one ∙ length_push c.loop-k.entries.items _ in
    record {
      entries = block_more c.args.block.first c.loop-k.k c.args.weight _ _ _ c.if-weight-eq0.false c.loop-k.invariant.entries one;
      room = omega (arith, longer, c.len.ensures, c.if-len-room.false, c.loop-k.entries.ok.0, c.loop-k.invariant.room);
    }

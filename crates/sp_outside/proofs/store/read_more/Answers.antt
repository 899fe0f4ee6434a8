use Rattle.std.proofs.Common.{◌≡◌, arith, ◌∙◌, ap, take, drop, length}
use Rattle.std.proofs.lemmas.Grind.{common_steps}
use Rattle.sp_outside.proofs.ByteLemmas.{more_read, front_of}
use Rattle.sp_outside.proofs.store.read_more.Goals as goal

pub returns-clause-more : goal.returns-clause-more
returns-clause-more g c bytes told is_front =
    let bound = c.in_ok-count.ensures.bound in
    let read = front_of c.read_at.new.buf _ c.as_slice.result.now _ c.in_ok-count.count c.as_slice.ensures.value bound (grind (arith, common_steps)) in
    let behind : c.len.result ≡ length c.args.front.now.items = grind (arith, common_steps) in
    let piece : take c.in_ok-count.count c.as_slice.result.now ≡ take c.in_ok-count.count (drop (length c.args.front.now.items) bytes) = read ∙ c.in_ok-count.ensures.reads.bytes bytes told ∙ ap (λ k. take c.in_ok-count.count (drop k bytes)) behind in
    more_read bytes c.args.front.now.items _ (take c.in_ok-count.count c.as_slice.result.now) c.in_ok-count.count is_front piece (grind (arith, common_steps)) c.in_ok-extend_from_slice.ensures.items

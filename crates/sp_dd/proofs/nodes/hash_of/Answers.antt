use Rattle.std.proofs.Common.{◌≡◌, ◌∙◌, ◌/◌, ap, arith, take, drop}
use Rattle.sp_dd.specs.Hashes.{node_hash, parts_hash}
use Rattle.sp_dd.proofs.Ranges.{hash_more}
use Rattle.sp_dd.proofs.nodes.hash_of.Goals as goal

pub loop-i-preserved : goal.loop-i-preserved
loop-i-preserved c = hash_more _ _ _ _ _ _ _ c.requires (omega arith) c.loop-i.invariant c.mixed_with-hash.ensures

pub returns : goal.returns
unfolding node_hash
returns c =
    let e : c.loop-i.i ≡ c.args.count = omega arith in
    c.upper.ensures ∙ ap (λ n. n / 4294967296) (c.loop-i.invariant ∙ ap (λ j. parts_hash c.args.slot (take j (drop c.args.from c.args.words.now))) e)

use Rattle.std.proofs.Common.{◌≡◌, ◌+◌, ◌%◌, ap, arith, pos, ◌+ℤ◌, unsigned_abs}
use Rattle.std.proofs.lemmas.Grind.{common_steps}
use Rattle.std.proofs.lemmas.Int.{ints}
use Rattle.sp_dd.specs.Hashes.{leaf_hash}
use Rattle.sp_dd.proofs.mixing.leaf_word.Goals as goal

pub returns-then-value-lt-FAR : goal.returns-then-value-lt-FAR
unfolding leaf_hash
returns-then-value-lt-FAR c =
    let e : c.unsigned_abs.result ≡ unsigned_abs (c.args.value +ℤ pos 9223372036854775808) = grind (arith, ints, common_steps) in
    ap (λ n. n % 18446744073709551616) e

pub returns : goal.returns
unfolding leaf_hash
returns c =
    let e : c.unsigned_abs-2.result + 9223372036854775808 ≡ unsigned_abs (c.args.value +ℤ pos 9223372036854775808) = grind (arith, ints, common_steps) in
    ap (λ n. n % 18446744073709551616) e

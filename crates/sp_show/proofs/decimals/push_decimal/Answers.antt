use Rattle.std.proofs.Common.{string_bytes, ◌++◌, ◌∙◌, ap, sym}
use Rattle.std.proofs.lemmas.Int.{to_z-of_z}
use mir.Syntax.{w128}
use Rattle.sp_show.specs.Decimals.{decimal_of}
use Rattle.sp_show.proofs.Digits.{written}
use Rattle.sp_show.proofs.decimals.push_decimal.Goals as goal

pub returns : goal.returns
returns c =
    let same = to_z-of_z w128 c.args.ticks c.ranges.ticks in
    c.in_ok-write.ensures.bytes ∙ ap (λ digits. string_bytes c.args.text.now ++ digits) (rw (c.laid_out.ensures, c.unsigned_abs-magnitude.ensures.value, c.sign_of-sign.ensures) (written _ ∙ ap decimal_of same))
